use Rattle.std.proofs.Common.{length}
use Rattle.fmp_search_lines.proofs.taken.+may_pass.Given as goal

abbrev pub decreases-may_pass : goal.decreases-may_pass
decreases-may_pass l = length l.lines.now
