use Rattle.std.proofs.Common.{◌≡◌, take}
use Rattle.fmp_search_pattern.proofs.question.Moment.copy.Given as goal

abbrev pub invariant-loop-part : goal.invariant-loop-part
invariant-loop-part l = l.parts.items ≡ take l.part-index l.part-items
