use Rattle.std.proofs.Common.{◌≡◌, take}
use Rattle.fmp_text.proofs.quick.are_same_bytes.Given as goal

abbrev pub invariant-loop-index : goal.invariant-loop-index
invariant-loop-index l = take l.index l.one ≡ take l.index l.other
