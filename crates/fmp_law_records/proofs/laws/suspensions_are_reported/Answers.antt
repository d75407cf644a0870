use Rattle.fmp_law_records.proofs.TaskRuns.{suspensions_reported, suspensions_fit}
use Rattle.fmp_law_records.proofs.laws.suspensions_are_reported.Goals as goal

pub returns : goal.returns
returns c = record { report = suspensions_reported; fits = suspensions_fit }
