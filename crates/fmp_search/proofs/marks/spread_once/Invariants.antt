use Rattle.std.proofs.Common.{◌≡◌, ◌≤◌, ◌<◌, ◌+◌, ℕ, Bool, true, false, List, length, Some}
use Rattle.std.specs.Prelude.{slice_get}
use Rattle.fmp_search.specs.declared.edges.Edge.{Edge}
use Rattle.fmp_search.specs.Forever.{mark_at}
use Rattle.fmp_search.specs.Spreads.{unmarked, AreDue, AreKept}
use Rattle.fmp_search.proofs.marks.spread_once.Given as goal

abbrev pub invariant-loop-at : goal.invariant-loop-at
invariant-loop-at l = record {
  long : length l.marks ≡ length l.fn.marks;
  kept : AreKept l.fn.marks l.marks;
  same : l.changed ≡ false → l.marks ≡ l.fn.marks;
  passed : l.changed ≡ false → (k : ℕ) (e : Edge) → l.count ≤ k + l.at → slice_get l.fn.edges k ≡ Some e → mark_at l.marks e.to ≡ true → mark_at l.marks e.from ≡ true;
  fewer : l.changed ≡ true → unmarked l.marks < unmarked l.fn.marks;
  due : (start : List Bool) → AreDue l.fn.edges start l.fn.marks → AreDue l.fn.edges start l.marks;
}
