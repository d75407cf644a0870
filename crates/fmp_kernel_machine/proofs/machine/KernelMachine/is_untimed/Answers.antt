use Rattle.std.proofs.Common.{◌≡◌, ◌≤◌, true, length, sym, subst}
use Rattle.fmp_codes.specs.declared.numbers.Task.{Task}
use Rattle.fmp_kernel_parts.specs.Tasks.{has_task}
use Rattle.fmp_rules.specs.World.{World}
use Rattle.fmp_kernel_order.specs.Queues.{Queues}
use Rattle.fmp_kernel_machine.proofs.machine.KernelMachine.is_untimed.Goals as goal

pub is_untimed-requires : goal.is_untimed-requires
is_untimed-requires c = subst (λ (w : World Queues). (t : Task) → has_task t w.order.timed ≡ true → t.number ≤ length w.tasks) (sym c.self.view_is) c.requires
