-- Lists as rings of links. Items are the numbers below `items`; the head of list i is the number `items + i`, and its ring leads
-- from it over the items of the list back to it.
use Rattle.std.specs.Prelude.{◌≡◌, ℕ, zero, suc, ◌+◌, ◌<◌, nat_eq, nat_lt, List, [], ◌∷◌, length, map, drop, slice_index, Option, Some, None, if◌then◌else◌}
use Rattle.fmp_kernel_parts.specs.Lists.{has, list_at, AreDistinct}

-- the links lead from a over the items of a list to z, and back
abbrev pub IsChain : (ℕ → ℕ) → (ℕ → ℕ) → ℕ → List ℕ → ℕ → Type 0
IsChain next prev a [] z = (next a ≡ z) × (prev z ≡ a)
IsChain next prev a (x ∷ xs) z = (next a ≡ x) × (prev x ≡ a) × IsChain next prev x xs z

-- the items to which the links lead, up to a number that is no item
unfoldable pub walk : (ℕ → ℕ) → ℕ → ℕ → ℕ → List ℕ
walk next items zero k = []
walk next items (suc fuel) k = if nat_lt k items then k ∷ walk next items fuel (next k) else []

-- the lists to which the links lead, one from each head
abbrev pub lists_along : ℕ → List ℕ → List (List ℕ)
lists_along items next = map (walk (slice_index next) items items) (drop items next)

-- the links and the places are those of the lists. A place is one more than the number of the list in which an item stands, or 0; an item that stands in
-- none leads to itself
pub record IsSound (items : ℕ) (next prev place : List ℕ) (q : List (List ℕ)) : Type 0 where
  pub chained : (i : ℕ) → i < length q → IsChain (slice_index next) (slice_index prev) (items + i) (list_at q i) (items + i)
  pub apart : (i : ℕ) → AreDistinct (list_at q i)
  pub stands : (i t : ℕ) → has t (list_at q i) ≡ nat_eq (slice_index place t) (suc i)
  pub loose : (t : ℕ) → t < items → slice_index place t ≡ 0 → slice_index next t ≡ t
  pub next_count : length next ≡ items + length q
  pub prev_count : length prev ≡ items + length q
  pub place_count : length place ≡ items

-- the item that a node is, if it is no head
abbrev pub item_at : ℕ → ℕ → Option ℕ
item_at items node = if nat_lt node items then Some node else None
