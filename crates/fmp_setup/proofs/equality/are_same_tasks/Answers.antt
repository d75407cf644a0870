use Rattle.std.proofs.lemmas.Slice.Eq.{slice_eq-Decides}
use Rattle.fmp_setup.proofs.Same.{tasks_decide}
use Rattle.fmp_setup.proofs.equality.are_same_tasks.Goals as goal

pub returns : goal.returns
returns c = slice_eq-Decides tasks_decide c.args.one.now c.args.other.now c.eq.result c.eq.ensures
