use Rattle.std.proofs.Common.{sym, subst}
use Rattle.fmp_mpf.specs.Operations.{IsServed}
use Rattle.fmp_mpf.proofs.Serving.{served_free}
use Rattle.fmp_mpf.proofs.Mpf.give.Goals as goal

pub returns-in-None-clause-served : goal.returns-in-None-clause-served
returns-in-None-clause-served c = λ h. subst IsServed (sym c.set_handed.ensures) (served_free c.args.self.now _ (sym c.in-None.ensures))
