use Rattle.std.proofs.Common.{◌≡◌, take}
use Rattle.fmp_kernel_parts.proofs.part.are_same.Given as goal

abbrev pub invariant-loop-at : goal.invariant-loop-at
invariant-loop-at g l = take l.at l.parts ≡ take l.at l.others
