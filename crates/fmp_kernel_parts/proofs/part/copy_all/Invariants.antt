use Rattle.std.proofs.Common.{◌≡◌, ℕ, ◌<◌, ◌≤◌, length, take, slice_index_or}
use Rattle.fmp_kernel_parts.proofs.part.copy_all.Given as goal

abbrev pub invariant-loop-at : goal.invariant-loop-at
invariant-loop-at g l = record {
  count : length l.parts ≡ length l.others;
  same : take l.at l.parts ≡ take l.at l.others;
  fits : (k : ℕ) (a b : g.row.T.Denot) → l.at ≤ k → k < length l.others → g.T.Part.fits (slice_index_or l.parts k a) (slice_index_or l.others k b);
}
