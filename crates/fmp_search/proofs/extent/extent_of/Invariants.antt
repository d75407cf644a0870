use Rattle.std.proofs.Common.{◌≡◌, ℕ, ◌+◌, ◌≤◌, length}
use Rattle.std.specs.Prelude.{slice_index_or}
use Rattle.fmp_search.specs.Steps.{path_at}
use Rattle.fmp_search.proofs.extent.extent_of.Given as goal

abbrev pub invariant-loop-node : goal.invariant-loop-node
invariant-loop-node l = record {
  long : length l.depths.items ≡ l.node-index + 1;
  are : (i d : ℕ) → i ≤ l.node-index → slice_index_or l.depths.items i d ≡ length (path_at l.fn.nodes i);
  small : (i : ℕ) → i ≤ l.node-index → length (path_at l.fn.nodes i) ≤ i;
  near : (i : ℕ) → i ≤ l.node-index → length (path_at l.fn.nodes i) ≤ l.farthest;
  far : (i : ℕ) × (i ≤ l.node-index) × (length (path_at l.fn.nodes i) ≡ l.farthest);
}
