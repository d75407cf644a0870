use Rattle.fmp_law_records.proofs.refusals.Refusals.{calls_are_placed}
use Rattle.fmp_law_records.proofs.refusals.laws.calls_are_made_in_place.Goals as goal

pub returns : goal.returns
returns c = λ c events valid on e here. calls_are_placed c events valid on e here
