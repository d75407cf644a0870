use Rattle.fmp_law_records.proofs.DueRuns.{due_reported, first_runs_reported}
use Rattle.fmp_law_records.proofs.laws.handlers_due_are_reported.Goals as goal

pub returns : goal.returns
returns c = record { report = λ c events valid on n p here. due_reported c p here events valid on n; runs = first_runs_reported }
