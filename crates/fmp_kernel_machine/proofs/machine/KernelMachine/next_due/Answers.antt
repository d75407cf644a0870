use Rattle.std.proofs.Common.{◌≡◌, ◌≤◌, true, length, sym, subst}
use Rattle.fmp_codes.specs.declared.numbers.Task.{Task}
use Rattle.fmp_kernel_parts.specs.Tasks.{has_task}
use Rattle.fmp_rules.specs.Due.{IsNextDue}
use Rattle.fmp_rules.specs.World.{World}
use Rattle.fmp_kernel_order.specs.Queues.{Queues}
use Rattle.fmp_kernel_machine.proofs.machine.KernelMachine.next_due.Goals as goal

pub next_due-requires : goal.next_due-requires
next_due-requires c = subst (λ (w : World Queues). (t : Task) → has_task t w.order.timed ≡ true → t.number ≤ length w.tasks) (sym c.self.view_is) c.requires

pub returns : goal.returns
returns c = subst (λ (w : World Queues). IsNextDue w c.args.p c.next_due.result) c.self.view_is c.next_due.ensures
