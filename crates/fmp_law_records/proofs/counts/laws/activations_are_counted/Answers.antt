use Rattle.fmp_law_records.proofs.counts.QueuedRuns.{activations_balance}
use Rattle.fmp_law_records.proofs.counts.laws.activations_are_counted.Goals as goal

pub returns : goal.returns
returns c = activations_balance
