use Rattle.std.proofs.Common.{◌≡◌, map, take}
use Rattle.fmp_plain_machine.proofs.kept.each.Given as goal

abbrev pub invariant-loop-setup : goal.invariant-loop-setup
invariant-loop-setup g l = l.list.items ≡ map g.T.KeptOf.kept (take l.setup-index l.setups)
