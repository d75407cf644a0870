use Rattle.std.proofs.Common.{◌≡◌, ◌≤◌, ◌<◌, ℕ, length, Some}
use Rattle.std.specs.Prelude.{slice_get, slice_index}
use Rattle.fmp_run_most.specs.declared.figure.Figure.{Figure}
use Rattle.fmp_run_most.specs.Raised.{IsExtreme}
use Rattle.fmp_run_most.proofs.raising.raise.Given as goal

-- those so far were moved, and the others stay
abbrev pub invariant-loop-at : goal.invariant-loop-at
invariant-loop-at l = record {
  as_many : length l.bounds ≡ length l.fn.bounds;
  moved : (k : ℕ) (f : Figure) → k < l.at → slice_get l.figures k ≡ Some f → IsExtreme f.measure (slice_index l.fn.bounds k) l.marks k (slice_index l.bounds k);
  others : (k : ℕ) → l.at ≤ k → slice_index l.bounds k ≡ slice_index l.fn.bounds k;
}
