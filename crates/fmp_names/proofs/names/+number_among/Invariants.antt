use Rattle.std.proofs.Common.{length}
use Rattle.fmp_names.proofs.names.+number_among.Given as goal

abbrev pub decreases-number_among : goal.decreases-number_among
decreases-number_among l = length l.defined.now
