use Rattle.std.proofs.Common.{length}
use Rattle.fmp_codes.specs.Records.{AreOn}
use Rattle.fmp_search_shrink.specs.Shrinking.{IsLeft}
use Rattle.fmp_search_shrink.proofs.shrinking.one_by_one.Given as goal

abbrev pub invariant-loop-rest : goal.invariant-loop-rest
invariant-loop-rest l = record {
  left : IsLeft l.config l.question l.keeping l.fn.events.items l.left.items;
  on : AreOn l.config.processors l.left.items;
}

-- the list becomes shorter
abbrev pub decreases-loop-rest : goal.decreases-loop-rest
decreases-loop-rest l = length l.left.items
