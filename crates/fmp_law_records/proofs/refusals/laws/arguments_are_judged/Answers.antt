use Rattle.fmp_law_records.proofs.refusals.Refusals.{arguments_judged}
use Rattle.fmp_law_records.proofs.refusals.laws.arguments_are_judged.Goals as goal

pub returns : goal.returns
returns c = λ c events valid on e here. arguments_judged c events valid on e here
