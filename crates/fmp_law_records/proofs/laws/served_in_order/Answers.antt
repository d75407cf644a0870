use Rattle.fmp_law_records.proofs.ServedRuns.{serves_in_order}
use Rattle.fmp_law_records.proofs.laws.served_in_order.Goals as goal

pub returns : goal.returns
returns c = serves_in_order
