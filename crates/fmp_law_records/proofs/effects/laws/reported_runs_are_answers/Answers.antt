use Rattle.fmp_law_records.proofs.effects.ReportedRuns.{one_run, reported_run}
use Rattle.fmp_law_records.proofs.effects.Told.{run_made}
use Rattle.fmp_law_records.proofs.effects.laws.reported_runs_are_answers.Goals as goal

pub returns-clause-same : goal.returns-clause-same
returns-clause-same c = reported_run

pub returns-clause-made : goal.returns-clause-made
returns-clause-made c = run_made

pub returns-clause-one : goal.returns-clause-one
returns-clause-one c = one_run
