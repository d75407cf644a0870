use Rattle.fmp_run_view.proofs.Report.{are_reported}
use Rattle.fmp_run_view.proofs.laws.states_are_reported.Goals as goal

pub returns : goal.returns
returns c = are_reported
