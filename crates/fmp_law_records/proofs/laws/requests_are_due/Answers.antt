use Rattle.fmp_law_records.proofs.TopsRuns.{requests_due}
use Rattle.fmp_law_records.proofs.laws.requests_are_due.Goals as goal

pub returns : goal.returns
returns c = requests_due
