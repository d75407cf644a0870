use Rattle.fmp_setup.proofs.Same.{classes_decide}
use Rattle.fmp_setup.proofs.equality.is_same_class.Goals as goal

pub returns : goal.returns
returns c = rw c.eq.ensures (classes_decide c.args.one c.args.other)
