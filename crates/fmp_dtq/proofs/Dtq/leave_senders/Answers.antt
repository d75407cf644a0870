use Rattle.std.proofs.Common.{ap, sym, subst, ◌∙◌}
use Rattle.fmp_waitq.specs.Queue.{Queue, left_by}
use Rattle.fmp_dtq.specs.DataQueue.{DataQueue}
use Rattle.fmp_dtq.specs.Served.{IsServed}
use Rattle.fmp_dtq.proofs.Serving.{served_sender_left}
use Rattle.fmp_dtq.proofs.Dtq.leave_senders.Goals as goal

pub returns-clause-served : goal.returns-clause-served
returns-clause-served c = λ h.
    let t = c.args.task in
    let was : DataQueue =
    record { setup = c.self.inside.setup; values = c.self.inside.values.items; senders = c.self.inside.senders.waiters; receivers = c.self.inside.receivers.waiters } in
    subst IsServed (sym (ap (λ (w : Queue). record was { senders = w.waiters }) c.leave.ensures.waiters ∙ ap (λ (q : DataQueue). record q { senders = left_by t q.senders }) c.self.view_is))
    (served_sender_left c.args.self.now t h)
