use Rattle.std.proofs.Common.{sym, subst}
use Rattle.fmp_dtq.specs.Served.{IsServed}
use Rattle.fmp_dtq.proofs.Serving.{exchanged_is, served_taken}
use Rattle.fmp_dtq.proofs.Dtq.receive.Goals as goal

pub returns-in-Some-clause-served : goal.returns-in-Some-clause-served
returns-in-Some-clause-served c = λ h. exchanged_is c.args.self.now _ _ c.in-Some.task _ c.leave_senders.ensures.senders c.exchange.ensures.values (sym c.in-Some.ensures) h

pub returns-in_ok-value-in-None-clause-served : goal.returns-in_ok-value-in-None-clause-served
returns-in_ok-value-in-None-clause-served c = λ h.
    subst IsServed (sym c.drop_value.ensures) (served_taken c.args.self.now c.in_ok-value-in-None.value (sym c.in-None.ensures) (sym c.in_ok-value-in-None.ensures) h)
