use Rattle.std.proofs.Common.{◌≡◌, replicate}
use Rattle.fmp_plain_machine.proofs.kept.copies.Given as goal

abbrev pub invariant-loop-index : goal.invariant-loop-index
invariant-loop-index g l = l.list.items ≡ replicate l._index l.item
