use Rattle.std.proofs.Common.{length}
use Rattle.fmp_cli_notes.proofs.left.+name_among.Given as goal

abbrev pub decreases-name_among : goal.decreases-name_among
decreases-name_among l = length l.kinds.now
