use Rattle.std.proofs.Common.{◌-◌}
use Rattle.fmp_codes.specs.Records.{AreOn}
use Rattle.fmp_search_shrink.specs.Shrinking.{IsLeft}
use Rattle.fmp_search_shrink.proofs.shrinking.in_rows.Given as goal

abbrev pub invariant-loop-size : goal.invariant-loop-size
invariant-loop-size l = record {
  left : IsLeft l.config l.question l.keeping l.fn.events.items l.left.items;
  on : AreOn l.config.processors l.left.items;
}

-- the rows become shorter
abbrev pub decreases-loop-size : goal.decreases-loop-size
decreases-loop-size l = l.size - 1
