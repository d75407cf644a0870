use Rattle.fmp_law_records.proofs.TaskRuns.{priorities_reported, priorities_answered}
use Rattle.fmp_law_records.proofs.laws.priorities_are_reported.Goals as goal

pub returns : goal.returns
returns c = record { report = priorities_reported; answered = priorities_answered }
