use Rattle.std.proofs.Common.{◌≡◌, ◌+◌, false, length}
use Rattle.std.specs.Prelude.{if◌then◌else◌}
use Rattle.fmp_search.specs.Spreads.{unmarked, AreDue, AreKept, IsSpread}
use Rattle.fmp_search.proofs.marks.spread.Given as goal

abbrev pub invariant-loop-more : goal.invariant-loop-more
invariant-loop-more l = record {
  long : length l.marks ≡ length l.fn.marks;
  done : l.more ≡ false → IsSpread l.fn.edges l.marks;
  kept : AreKept l.fn.marks l.marks;
  due : AreDue l.fn.edges l.fn.marks l.marks;
}

abbrev pub decreases-loop-more : goal.decreases-loop-more
decreases-loop-more l = if l.more then unmarked l.marks + 1 else 0
