use Rattle.std.proofs.Common.{length}
use Rattle.fmp_names.proofs.names.+are_same_texts.Given as goal

abbrev pub decreases-are_same_texts : goal.decreases-are_same_texts
decreases-are_same_texts l = length l.one.now
