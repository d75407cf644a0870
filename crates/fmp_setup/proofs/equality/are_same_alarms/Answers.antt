use Rattle.std.proofs.lemmas.Slice.Eq.{slice_eq-Decides}
use Rattle.fmp_setup.proofs.Same.{alarms_decide}
use Rattle.fmp_setup.proofs.equality.are_same_alarms.Goals as goal

pub returns : goal.returns
returns c = slice_eq-Decides alarms_decide c.args.one.now c.args.other.now c.eq.result c.eq.ensures
