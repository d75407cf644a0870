use Rattle.std.proofs.Common.{length}
use Rattle.fmp_search_pattern.proofs.forms.+spot_in.Given as goal

abbrev pub decreases-spot_in : goal.decreases-spot_in
decreases-spot_in l = length l.rows.now
