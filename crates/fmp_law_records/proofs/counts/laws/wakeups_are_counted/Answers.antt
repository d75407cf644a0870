use Rattle.fmp_law_records.proofs.counts.QueuedRuns.{wakeups_balance, wakeups_taken}
use Rattle.fmp_law_records.proofs.counts.laws.wakeups_are_counted.Goals as goal

pub returns : goal.returns
returns c = record { counted = wakeups_balance; taken = wakeups_taken }
