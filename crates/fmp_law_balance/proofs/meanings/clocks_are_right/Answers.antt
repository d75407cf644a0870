use Rattle.fmp_law_balance.proofs.Words.{clock_counts, clock_has_time}
use Rattle.fmp_law_balance.proofs.meanings.clocks_are_right.Goals as goal

pub returns-clause-counts : goal.returns-clause-counts
returns-clause-counts c = clock_counts

pub returns-clause-time : goal.returns-clause-time
returns-clause-time c = clock_has_time
