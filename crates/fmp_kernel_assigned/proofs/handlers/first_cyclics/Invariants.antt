use Rattle.std.proofs.Common.{◌≡◌, map, take}
use Rattle.fmp_kernel_assigned.specs.Starting.{first_cyclic}
use Rattle.fmp_kernel_assigned.proofs.handlers.first_cyclics.Given as goal

-- those so far
abbrev pub invariant-loop-setup : goal.invariant-loop-setup
invariant-loop-setup l = l.cyclics.items ≡ map first_cyclic (take l.setup-index l.setups)
