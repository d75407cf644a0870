use Rattle.std.proofs.Common.{sym, ap, subst, ◌∙◌}
use Rattle.fmp_waitq.specs.Queue.{Queue, has_waiter}
use Rattle.fmp_flag.specs.Eventflags.{WaitsUnmet}
use Rattle.fmp_flag.proofs.Unmet.{unmet_left}
use Rattle.fmp_flag.proofs.Flag.leave.Goals as goal

pub returns-clause-unmet : goal.returns-clause-unmet
returns-clause-unmet c ws h t e =
    unmet_left ws c.self.inside.pattern c.args.task c.self.inside.queue.waiters (subst (WaitsUnmet ws) (sym c.self.view_is) h) t
    (sym (ap (λ (q : Queue). has_waiter t q.waiters) c.leave.ensures.waiters) ∙ e)
