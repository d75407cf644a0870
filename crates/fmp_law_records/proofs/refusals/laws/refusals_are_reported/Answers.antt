use Rattle.fmp_law_records.proofs.refusals.Refusals.{refusals_reported}
use Rattle.fmp_law_records.proofs.refusals.laws.refusals_are_reported.Goals as goal

pub returns : goal.returns
returns c = λ c events valid on e here. refusals_reported c events valid on e here
