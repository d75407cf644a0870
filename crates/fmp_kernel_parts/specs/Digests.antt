-- The number that is made of others, in their order, and of values.
use Rattle.std.specs.Prelude.{ℕ, zero, suc, ◌+◌, ◌-◌, ◌*◌, ◌/◌, ◌%◌, ◌^◌, ◌==◌, List, [], ◌∷◌, if◌then◌else◌, bit_xor, bit_or}
use Rattle.std.specs.Int.{w64, rotate_left}
use Rattle.fmp_codes.specs.declared.numbers.Task.{Task}
use Rattle.fmp_kernel_parts.specs.Lists.{has, list_at}

-- that of no number
abbrev pub seed : ℕ
seed = 11400714819323198485

-- one number more
unfoldable pub added : ℕ → ℕ → ℕ
added sum number = bit_xor (rotate_left w64 sum 5) number * 5871781006564002453 % 2 ^ 64

-- what it tells
unfoldable pub told : ℕ → ℕ
told sum = bit_xor sum (sum / 2 ^ 32)

-- the values of a list, in their order
abbrev pub added_all : {X : Type 0} → (X → ℕ → ℕ) → List X → ℕ → ℕ
added_all f [] sum = sum
added_all f (x ∷ xs) sum = added_all f xs (f x sum)

abbrev pub added_task : Task → ℕ → ℕ
added_task t sum = added sum t.number

-- one more than the number of the list in which an item stands, the first of which has this number, or 0
unfoldable pub place_from : ℕ → List (List ℕ) → ℕ → ℕ
place_from i [] t = 0
place_from i (xs ∷ q) t = if has t xs then i + 1 else place_from (i + 1) q t

-- the first of a list, or else this
abbrev pub first_or : ℕ → List ℕ → ℕ
first_or z [] = z
first_or z (x ∷ xs) = x

-- what comes after an item in a list, and after the last one this
unfoldable pub next_along : ℕ → List ℕ → ℕ → ℕ
next_along z [] t = z
next_along z (x ∷ xs) t = if x == t then first_or z xs else next_along z xs t

-- an item that stands in a list, with that and what comes after it
abbrev pub added_item : ℕ → List (List ℕ) → ℕ → ℕ → ℕ
added_item items q t sum =
    if place_from 0 q t == 0 then sum
    else added sum (bit_or (place_from 0 q t * 2 ^ 16 % 2 ^ 64) (next_along (items + (place_from 0 q t - 1)) (list_at q (place_from 0 q t - 1)) t))

-- the first so many items
unfoldable pub added_items : ℕ → List (List ℕ) → ℕ → ℕ → ℕ
added_items items q zero sum = sum
added_items items q (suc n) sum = added_item items q n (added_items items q n sum)
