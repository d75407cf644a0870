use Rattle.std.proofs.Common.{length}
use Rattle.fmp_cli_hints.proofs.trace.+words.Given as goal

abbrev pub decreases-words : goal.decreases-words
decreases-words l = length l.text.now
