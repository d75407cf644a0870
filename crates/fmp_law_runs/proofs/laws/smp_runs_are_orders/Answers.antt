use Rattle.fmp_law_runs.proofs.Ordered.{an_order}
use Rattle.fmp_law_runs.proofs.laws.smp_runs_are_orders.Goals as goal

pub returns : goal.returns
returns c = an_order
