-- Difference lists: items in ascending ticks left, of which each stores what it adds to the sum of those before it.
use Rattle.std.specs.Prelude.{◌≡◌, ℕ, ◌+◌, ◌-◌, ◌^◌, ◌<◌, ◌≤◌, ◌==◌, Bool, not, nat_eq, nat_lt, Option, Some, None, List, [], ◌∷◌, length, map, filter, slice_index}
use Rattle.std.specs.Prelude.{slice_index_or, if◌then◌else◌}
use Rattle.std.specs.List.{list_any}
use Rattle.arrayvec.specs.ArrayVec.{ArrayVec}
use Rattle.fmp_kernel_parts.specs.Lists as links

-- an item and its ticks left
abbrev pub Entry : Type 0
Entry = ℕ × ℕ

abbrev pub entries_at : List (List Entry) → ℕ → List Entry
entries_at q i = slice_index_or q i []

abbrev pub has_entry : ℕ → List Entry → Bool
has_entry k es = list_any (λ e. nat_eq k e.0) es

-- the entries with one more, after all that have no more ticks left
abbrev pub sorted_in : ℕ → ℕ → List Entry → List Entry
sorted_in k n [] = (k, n) ∷ []
sorted_in k n (e ∷ es) = if nat_lt n e.1 then (k, n) ∷ e ∷ es else e ∷ sorted_in k n es

-- the entries without those of an item
abbrev pub without : ℕ → List Entry → List Entry
without k es = filter (λ e. not (e.0 == k)) es

abbrev pub take_out : List (List Entry) → ℕ → List (List Entry)
take_out q k = map (without k) q

-- the ticks left of an item
abbrev pub ticks_in : List Entry → ℕ → Option ℕ
ticks_in [] k = None
ticks_in (e ∷ es) k = if e.0 == k then Some e.1 else ticks_in es k

abbrev pub least_of : List Entry → Option ℕ
least_of [] = None
least_of (e ∷ es) = Some e.1

-- one tick less for each
abbrev pub lowered : List Entry → List Entry
lowered es = map (λ e. (e.0, e.1 - 1)) es

abbrev pub is_due : Entry → Bool
is_due e = e.1 == 0

abbrev pub due : List Entry → List Entry
due es = filter is_due es

abbrev pub not_due : List Entry → List Entry
not_due es = filter (λ e. not (is_due e)) es

-- the entries of items that store d, from a sum on
abbrev pub entries_from : (ℕ → ℕ) → ℕ → List ℕ → List Entry
entries_from d s [] = []
entries_from d s (x ∷ xs) = (x, s + d x) ∷ entries_from d (s + d x) xs

abbrev pub entries_of : List ℕ → List (List ℕ) → List (List Entry)
entries_of d q = map (entries_from (slice_index d) 0) q

abbrev pub sum_of : (ℕ → ℕ) → List ℕ → ℕ
sum_of d [] = 0
sum_of d (x ∷ xs) = d x + sum_of d xs

-- before which item, and with what left over, a number of ticks comes
abbrev pub spot_in : (ℕ → ℕ) → ℕ → List ℕ → Option ℕ
spot_in d r [] = None
spot_in d r (x ∷ xs) = if nat_lt r (d x) then Some x else spot_in d (r - d x) xs

abbrev pub rest_in : (ℕ → ℕ) → ℕ → List ℕ → ℕ
rest_in d r [] = r
rest_in d r (x ∷ xs) = if nat_lt r (d x) then r else rest_in d (r - d x) xs

-- there is a list for each processor, and the ticks left of its last item are a number of 64 bits
pub record IsSummed (d : List ℕ) (q : List (List ℕ)) : Type 0 where
  pub count : length q ≡ 8
  pub bound : (i : ℕ) → sum_of (slice_index d) (links.list_at q i) < 2 ^ 64

-- the first item that adds something
abbrev pub first_adding : (ℕ → ℕ) → List ℕ → Option ℕ
first_adding d [] = None
first_adding d (x ∷ xs) = if d x == 0 then first_adding d xs else Some x

-- the items in front that add nothing, and those after them
abbrev pub zeros_of : (ℕ → ℕ) → List ℕ → List ℕ
zeros_of d [] = []
zeros_of d (x ∷ xs) = if d x == 0 then x ∷ zeros_of d xs else []

abbrev pub rest_of : (ℕ → ℕ) → List ℕ → List ℕ
rest_of d [] = []
rest_of d (x ∷ xs) = if d x == 0 then rest_of d xs else x ∷ xs

abbrev pub items_of : List Entry → List ℕ
items_of es = map (λ e. e.0) es

-- no entry has fewer ticks left than the least
abbrev pub IsLeastIn : List Entry → Option ℕ → Type 0
IsLeastIn es None = Unit {0}
IsLeastIn es (Some n) = (k m : ℕ) → ticks_in es k ≡ Some m → n ≤ m

-- the items that a tick gives
abbrev pub items_given : Option (ArrayVec ℕ) → List ℕ
items_given None = []
items_given (Some v) = v.items
