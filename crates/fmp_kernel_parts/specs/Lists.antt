-- Lists of items, which are numbers, and their changes.
use Rattle.std.specs.Prelude.{◌≡◌, ℕ, ◌<◌, ◌==◌, Bool, true, false, not, nat_eq, List, [], ◌∷◌, ◌++◌, map, filter, slice_index_or, slice_set, Option, Some, None}
use Rattle.std.specs.Prelude.{if◌then◌else◌}
use Rattle.std.specs.List.{list_any}

abbrev pub has : ℕ → List ℕ → Bool
has t xs = list_any (nat_eq t) xs

-- the list of a number, from 0
abbrev pub list_at : List (List ℕ) → ℕ → List ℕ
list_at q i = slice_index_or q i []

abbrev pub first_of : {X : Type 0} → List X → Option X
first_of [] = None
first_of (x ∷ xs) = Some x

-- the list with one item left out
abbrev pub without : ℕ → List ℕ → List ℕ
without t xs = filter (λ u. not (u == t)) xs

-- the list with t before b, or last where b is not in it
abbrev pub inserted : ℕ → ℕ → List ℕ → List ℕ
inserted b t [] = t ∷ []
inserted b t (x ∷ xs) = if x == b then t ∷ x ∷ xs else x ∷ inserted b t xs

-- the first item goes last
abbrev pub rotated : List ℕ → List ℕ
rotated [] = []
rotated (x ∷ xs) = xs ++ x ∷ []

abbrev pub push_last : List (List ℕ) → ℕ → ℕ → List (List ℕ)
push_last q i t = slice_set q i (list_at q i ++ t ∷ [])

abbrev pub insert_before : List (List ℕ) → ℕ → ℕ → ℕ → List (List ℕ)
insert_before q i b t = slice_set q i (inserted b t (list_at q i))

-- an item is in no list any more
abbrev pub take_out : List (List ℕ) → ℕ → List (List ℕ)
take_out q t = map (without t) q

-- no number stands twice
abbrev pub AreDistinct : List ℕ → Type 0
AreDistinct [] = Unit {0}
AreDistinct (x ∷ xs) = (has x xs ≡ false) × AreDistinct xs

-- no list has an item twice, no two lists have one, and items are below a number
pub record AreDisjoint (items : ℕ) (q : List (List ℕ)) : Type 0 where
  pub apart : (i : ℕ) → AreDistinct (list_at q i)
  pub one : (i j t : ℕ) → has t (list_at q i) ≡ true → has t (list_at q j) ≡ true → i ≡ j
  pub small : (i t : ℕ) → has t (list_at q i) ≡ true → t < items
