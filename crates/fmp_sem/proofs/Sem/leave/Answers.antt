use Rattle.std.proofs.Common.{sym, ap, subst, ◌∙◌}
use Rattle.fmp_waitq.specs.Queue.{Queue, has_waiter}
use Rattle.fmp_sem.specs.Semaphores.{WaitsAtZero}
use Rattle.fmp_waitq.proofs.Waiters.{waited_before}
use Rattle.fmp_sem.proofs.Sem.leave.Goals as goal

pub returns-clause-at_zero : goal.returns-clause-at_zero
returns-clause-at_zero c h t e =
    subst WaitsAtZero (sym c.self.view_is) h t
    (waited_before t c.args.task c.self.inside.queue.waiters (sym (ap (λ (q : Queue). has_waiter t q.waiters) c.leave.ensures.waiters) ∙ e)).1
