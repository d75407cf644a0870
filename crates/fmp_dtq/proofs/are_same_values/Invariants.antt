use Rattle.std.proofs.Common.{◌≡◌, take}
use Rattle.fmp_dtq.proofs.are_same_values.Given as goal

abbrev pub invariant-loop-at : goal.invariant-loop-at
invariant-loop-at l = take l.at l.one.items ≡ take l.at l.other.items
