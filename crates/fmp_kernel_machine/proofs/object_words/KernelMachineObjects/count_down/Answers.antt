use Rattle.fmp_rules.specs.Tick.{counted_down}
use Rattle.fmp_kernel_machine.proofs.object_words.KernelMachineObjects.count_down.Goals as goal

pub returns-clause-state : goal.returns-clause-state
unfolding counted_down
returns-clause-state c = rw (c.count_down.ensures, ← c.self.view_is)
