use Rattle.std.proofs.Common.{length}
use Rattle.fmp_search_lines.proofs.crowding.+put_open.Given as goal

abbrev pub decreases-put_open : goal.decreases-put_open
decreases-put_open l = length l.lines.now
