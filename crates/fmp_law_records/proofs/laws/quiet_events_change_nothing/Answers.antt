use Rattle.fmp_law_records.proofs.Quiet.{quiet_stays}
use Rattle.fmp_law_records.proofs.laws.quiet_events_change_nothing.Goals as goal

pub returns : goal.returns
returns c = quiet_stays
