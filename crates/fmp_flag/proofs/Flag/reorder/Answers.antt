use Rattle.std.proofs.Common.{◌≡◌, true, sym, ap, subst, ◌∙◌}
use Rattle.fmp_waitq.specs.Queue.{Queue, has_waiter, waiter_of}
use Rattle.fmp_flag.specs.Eventflags.{EventflagState, WaitsUnmet}
use Rattle.fmp_flag.proofs.Unmet.{unmet_reordered}
use Rattle.fmp_flag.proofs.Flag.reorder.Goals as goal

pub returns-clause-unmet : goal.returns-clause-unmet
returns-clause-unmet c ws h t e =
    let q = c.self.inside.queue in
    unmet_reordered ws c.self.inside.pattern (waiter_of q.order c.args.task c.args.priority) q.waiters
    (subst (λ (s : EventflagState). has_waiter c.args.task s.waiters ≡ true) (sym c.self.view_is) c.requires) (subst (WaitsUnmet ws) (sym c.self.view_is) h) t
    (sym (ap (λ (p : Queue). has_waiter t p.waiters) c.reorder.ensures) ∙ e)
