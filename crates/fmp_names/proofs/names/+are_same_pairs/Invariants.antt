use Rattle.std.proofs.Common.{length}
use Rattle.fmp_names.proofs.names.+are_same_pairs.Given as goal

abbrev pub decreases-are_same_pairs : goal.decreases-are_same_pairs
decreases-are_same_pairs l = length l.one.now
