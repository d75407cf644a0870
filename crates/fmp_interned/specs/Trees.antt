-- Lists of numbers, each kept as a tree of pairs: of the key of the first half and of that of the rest.
use Rattle.std.specs.Prelude.{◌≡◌, ℕ, ◌<◌, ◌≤◌, ◌/◌, Some, List, [], ◌∷◌, length, take, drop, slice_get, slice_index}

-- a list has this key: its number where it has one, 0 where it has none, and else the number of the pair of the keys of its halves
pub data IsTree (pairs : List (List ℕ)) : List ℕ → ℕ → Type 0 where
  leaf : (xs : List ℕ) (key : ℕ) → length xs < 2 → key ≡ slice_index xs 0 → IsTree pairs xs key
  fork : (xs : List ℕ) (key left right : ℕ) → 2 ≤ length xs → slice_get pairs key ≡ Some (left ∷ right ∷ []) →
      IsTree pairs (take (length xs / 2) xs) left → IsTree pairs (drop (length xs / 2) xs) right → IsTree pairs xs key

-- some list of this length has this key
abbrev pub HasTree : List (List ℕ) → ℕ → ℕ → Type 0
HasTree pairs count key = (xs : List ℕ) × (length xs ≡ count) × IsTree pairs xs key
