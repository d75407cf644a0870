use Rattle.std.proofs.Common.{sym, subst, ap, arith}
use Rattle.fmp_dtq.specs.DataQueue.{DataQueue}
use Rattle.fmp_dtq.specs.Served.{IsServed}
use Rattle.fmp_dtq.proofs.Serving.{served_kept}
use Rattle.fmp_dtq.proofs.Dtq.send.Goals as goal

pub returns-then-len-from-clause-served : goal.returns-then-len-from-clause-served
returns-then-len-from-clause-served c = λ h.
    let same = ap (λ (q : DataQueue). q.setup.capacity) c.self.view_is in
    subst IsServed (sym c.add_value.ensures)
    (served_kept c.args.self.now _ (sym c.in_default.ensures) (omega (arith, same, c.if-len-from.true, c.from.ensures, c.len.ensures.value)) h)
