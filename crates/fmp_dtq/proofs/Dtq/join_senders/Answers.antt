use Rattle.std.proofs.Common.{sym, subst}
use Rattle.fmp_dtq.specs.DataQueue.{DataQueue}
use Rattle.fmp_dtq.specs.Served.{IsServed}
use Rattle.fmp_dtq.proofs.Serving.{served_senders}
use Rattle.fmp_dtq.proofs.Dtq.join_senders.Goals as goal

pub returns-clause-served : goal.returns-clause-served
returns-clause-served c = λ e h.
    subst (λ (q : DataQueue). IsServed (record q { senders = c.join.new.self.waiters })) (sym c.self.view_is) (served_senders c.args.self.now c.join.new.self.waiters e h)
