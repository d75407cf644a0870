use Rattle.std.proofs.Common.{◌≡◌, map, take}
use Rattle.fmp_kernel_assigned.specs.Starting.{first_alarm}
use Rattle.fmp_kernel_assigned.proofs.handlers.first_alarms.Given as goal

-- those so far
abbrev pub invariant-loop-setup : goal.invariant-loop-setup
invariant-loop-setup l = l.alarms.items ≡ map first_alarm (take l.setup-index l.setups)
