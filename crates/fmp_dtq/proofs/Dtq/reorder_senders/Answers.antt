use Rattle.std.proofs.Common.{sym, subst}
use Rattle.fmp_dtq.specs.DataQueue.{DataQueue}
use Rattle.fmp_dtq.specs.Served.{IsServed}
use Rattle.fmp_dtq.proofs.Serving.{served_senders}
use Rattle.fmp_dtq.proofs.Dtq.reorder_senders.Goals as goal

pub returns-clause-served : goal.returns-clause-served
returns-clause-served c = λ h.
    subst (λ (q : DataQueue). IsServed (record q { senders = c.reorder.new.self.waiters })) (sym c.self.view_is)
    (served_senders c.args.self.now c.reorder.new.self.waiters (h.send c.args.task c.requires) h)
