use Rattle.std.proofs.Common.{◌≡◌, ◌⊎◌, ◌<◌, ℕ, true, false, length, Some}
use Rattle.std.specs.Prelude.{slice_get}
use Rattle.fmp_search.specs.declared.edges.Edge.{Edge}
use Rattle.fmp_search.specs.Forever.{is_bit, mark_at}
use Rattle.fmp_search.specs.Spreads.{AreKept, HasFailing}
use Rattle.fmp_search.proofs.staying.mark_failing.Given as goal

abbrev pub invariant-loop-at : goal.invariant-loop-at
invariant-loop-at l = record {
  long : length l.marks ≡ length l.fn.marks;
  kept : AreKept l.fn.marks l.marks;
  failing : (k : ℕ) (e : Edge) → k < l.at → slice_get l.fn.edges k ≡ Some e → is_bit e.passes l.fn.test ≡ false → mark_at l.marks e.from ≡ true;
  due : (i : ℕ) → i < length l.marks → mark_at l.marks i ≡ true → (mark_at l.fn.marks i ≡ true) ⊎ HasFailing l.fn.edges l.fn.test i;
}
