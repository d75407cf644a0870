use Rattle.std.proofs.Common.{◌≡◌, take}
use Rattle.fmp_calls.proofs.table.listed.Given as goal

abbrev pub invariant-loop-value : goal.invariant-loop-value
invariant-loop-value l = l.list.items ≡ take l.value-index l.fn.values
