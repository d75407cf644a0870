use Rattle.std.proofs.Common.{length}
use Rattle.fmp_search_lines.proofs.taken.+put_without.Given as goal

abbrev pub decreases-put_without : goal.decreases-put_without
decreases-put_without l = length l.lines.now
