use Rattle.std.proofs.Common.{◌≡◌, map, take}
use Rattle.fmp_rules.specs.Boot.{boot}
use Rattle.fmp_kernel_order.specs.Queues.{listed, no_queues}
use Rattle.fmp_run_most.specs.Figures.{value}
use Rattle.fmp_run_most.proofs.things.at_boot.Given as goal

-- the numbers so far
abbrev pub invariant-loop-figure : goal.invariant-loop-figure
invariant-loop-figure l = l.bounds.items ≡ map (value (boot listed (no_queues l.config) l.config)) (take l.figure-index l.figures)
