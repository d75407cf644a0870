use Rattle.std.proofs.Common.{subst, ◌∙◌}
use Rattle.fmp_rules.specs.Due.{IsNextDue}
use Rattle.fmp_rules.specs.World.{World}
use Rattle.fmp_kernel_order.specs.Queues.{Queues}
use Rattle.fmp_kernel.proofs.Kept.{kept_timed}
use Rattle.fmp_kernel.proofs.kernel.Kernel.next_due.Goals as goal

pub next_due-requires : goal.next_due-requires
next_due-requires c = rw c.deref.ensures (kept_timed _ c.self.invariant)

pub returns-clause-model : goal.returns-clause-model
returns-clause-model c = λ m stands.
    subst (λ (w : World Queues). IsNextDue w c.args.p c.next_due.result) stands.same (subst (λ (w : World Queues). IsNextDue w c.args.p c.next_due.result) (c.deref.ensures ∙ c.self.view_is) c.next_due.ensures)
