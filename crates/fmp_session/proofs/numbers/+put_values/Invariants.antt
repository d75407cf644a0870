use Rattle.std.proofs.Common.{length}
use Rattle.fmp_session.proofs.numbers.+put_values.Given as goal

abbrev pub decreases-put_values : goal.decreases-put_values
decreases-put_values l = length l.kinds.now
