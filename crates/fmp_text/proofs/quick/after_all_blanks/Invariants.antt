use Rattle.std.proofs.Common.{length}
use Rattle.fmp_text.specs.Fronts.{IsAfterBlanks}
use Rattle.fmp_text.proofs.quick.after_all_blanks.Given as goal

abbrev pub invariant-loop-more : goal.invariant-loop-more
invariant-loop-more l = IsAfterBlanks l.text l.rest

abbrev pub decreases-loop-more : goal.decreases-loop-more
decreases-loop-more l = length l.rest
