use Rattle.fmp_law_records.proofs.AcceptingRuns.{calls_fit}
use Rattle.fmp_law_records.proofs.laws.calls_on_tasks_were_due.Goals as goal

pub returns : goal.returns
returns c = calls_fit
