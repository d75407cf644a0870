use Rattle.std.proofs.Common.{◌≡◌, ◌↔◌, take, IsTrue}
use Rattle.fmp_kernel_parts.proofs.links.are_equal.Given as goal

-- none has differed so far just where the first ones are the same
abbrev pub invariant-loop-at : goal.invariant-loop-at
invariant-loop-at g l = IsTrue l.same ↔ (take l.at l.one ≡ take l.at l.other)
