use Rattle.std.proofs.Common.{ap, sym, subst, arith}
use Rattle.fmp_dtq.specs.DataQueue.{DataQueue}
use Rattle.fmp_dtq.specs.Served.{IsServed}
use Rattle.fmp_dtq.proofs.Serving.{served_kept, lost_is}
use Rattle.fmp_dtq.proofs.Dtq.force_send.Goals as goal

pub returns-then-len-capacity-clause-served : goal.returns-then-len-capacity-clause-served
returns-then-len-capacity-clause-served c = λ h.
    let same = ap (λ (q : DataQueue). q.setup.capacity) c.self.view_is in
    subst IsServed (sym c.add_value.ensures)
    (served_kept c.args.self.now _ (sym c.in_default.ensures) (omega (arith, same, c.if-len-capacity.true, c.from-capacity.ensures, c.len.ensures.value)) h)

pub returns-clause-served : goal.returns-clause-served
returns-clause-served c = λ h.
    let same = ap (λ (q : DataQueue). q.setup.capacity) c.self.view_is in
    lost_is c.args.self.now _ _ _ c.drop_value.ensures c.add_value-2.ensures (sym c.in_default.ensures)
    (omega (arith, same, c.if-len-capacity.false, c.from-capacity.ensures, c.len.ensures.value))
    (omega (arith, same, c.if-capacity-eq0.false, c.from-capacity.ensures)) h
