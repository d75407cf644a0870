use Rattle.std.proofs.Common.{◌≡◌, [], replicate}
use Rattle.fmp_plain_machine.proofs.blank.nothing_due.Given as goal

abbrev pub invariant-loop-index : goal.invariant-loop-index
invariant-loop-index l = l.due.items ≡ replicate l._index []
