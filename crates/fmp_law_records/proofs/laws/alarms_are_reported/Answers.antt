use Rattle.fmp_law_records.proofs.AlarmsRuns.{alarms_reported}
use Rattle.fmp_law_records.proofs.laws.alarms_are_reported.Goals as goal

pub returns : goal.returns
returns c = alarms_reported
