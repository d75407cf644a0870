use Rattle.fmp_law_records.proofs.StandingRuns.{order_reported}
use Rattle.fmp_law_records.proofs.laws.ready_order_is_reported.Goals as goal

pub returns : goal.returns
returns c = order_reported
