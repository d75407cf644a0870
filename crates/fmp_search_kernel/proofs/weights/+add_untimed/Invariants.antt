use Rattle.std.proofs.Common.{length}
use Rattle.fmp_search_kernel.proofs.weights.+add_untimed.Given as goal

abbrev pub decreases-add_untimed : goal.decreases-add_untimed
decreases-add_untimed l = length l.times.now
