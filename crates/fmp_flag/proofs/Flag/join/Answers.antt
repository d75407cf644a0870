use Rattle.std.proofs.Common.{◌≡◌, false, sym, ap, subst, ◌∙◌}
use Rattle.fmp_waitq.specs.Queue.{Queue, has_waiter, waiter_of}
use Rattle.fmp_flag.specs.Eventflags.{EventflagState, is_met, WaitsUnmet}
use Rattle.fmp_flag.proofs.Unmet.{unmet_joined}
use Rattle.fmp_flag.proofs.Flag.join.Goals as goal

pub returns-clause-unmet : goal.returns-clause-unmet
returns-clause-unmet c ws m h t e =
    let q = c.self.inside.queue in
    unmet_joined ws c.self.inside.pattern (waiter_of q.order c.args.task c.args.priority) q.waiters
    (subst (λ (s : EventflagState). is_met s.eventflag.pattern ws c.args.task ≡ false) (sym c.self.view_is) m) (subst (WaitsUnmet ws) (sym c.self.view_is) h) t
    (sym (ap (λ (p : Queue). has_waiter t p.waiters) c.join.ensures) ∙ e)
