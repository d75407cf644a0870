use Rattle.std.proofs.Common.{◌≡◌, ℕ, ◌<◌, length}
use Rattle.std.specs.Prelude.{slice_index}
use Rattle.fmp_kernel_parts.proofs.links.Links.new.Given as goal

-- the nodes so far link to themselves
abbrev pub invariant-loop-i : goal.invariant-loop-i
invariant-loop-i g l = record {
  next : (k : ℕ) → k < l.i → slice_index l.next k ≡ k;
  prev : (k : ℕ) → k < l.i → slice_index l.prev k ≡ k;
  next_count : length l.next ≡ g.row.NODES;
  prev_count : length l.prev ≡ g.row.NODES;
}
