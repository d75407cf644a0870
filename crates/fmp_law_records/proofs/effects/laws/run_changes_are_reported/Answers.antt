use Rattle.fmp_law_records.proofs.effects.RunChangesRuns.{run_change_reported}
use Rattle.fmp_law_records.proofs.effects.laws.run_changes_are_reported.Goals as goal

pub returns : goal.returns
returns c = run_change_reported
