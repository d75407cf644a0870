use Rattle.std.proofs.Common.{length}
use Rattle.fmp_search_lines.proofs.taken.+are_late.Given as goal

abbrev pub decreases-are_late : goal.decreases-are_late
decreases-are_late l = length l.lines.now
