use Rattle.std.proofs.Common.{◌≡◌, map, take}
use Rattle.fmp_rules.specs.World.{resting}
use Rattle.fmp_task.proofs.resting.all_resting.Given as goal

abbrev pub invariant-loop-setup : goal.invariant-loop-setup
invariant-loop-setup l = l.records.items ≡ map resting (take l.setup-index l.setups)
