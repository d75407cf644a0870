-- The keys of the places that were found, as they are kept.
use Rattle.std.specs.Prelude.{◌≡◌, ℕ, ◌+◌, Option, Some, List, length, slice_get}
use Rattle.fmp_search.specs.declared.nodes.Node.{Node}
use Rattle.fmp_search.specs.Trees.{found_at}

-- each place has one, under its own number
pub record AreKeyed {P : Type 0} (after : P → ℕ → Option P) (IsKey : ℕ → P → Type 0) (q : P) (keys : List ℕ) (nodes : List Node) : Type 0 where
  pub long : length keys ≡ length nodes + 1
  pub each : (number key : ℕ) → slice_get keys number ≡ Some key → IsKey key (found_at after q nodes number).place
