use Rattle.std.proofs.Common.{◌≡◌, take}
use Rattle.fmp_kernel_same.proofs.same.are_equal.Given as goal

abbrev pub invariant-loop-at : goal.invariant-loop-at
invariant-loop-at g l = take l.at l.values ≡ take l.at l.others
