use Rattle.std.proofs.Common.{◌≡◌, take}
use Rattle.fmp_facts.proofs.asked.Choice.copy.Given as goal

abbrev pub invariant-loop-one : goal.invariant-loop-one
invariant-loop-one l = l.asked.items ≡ take l.one-index l.one-items
