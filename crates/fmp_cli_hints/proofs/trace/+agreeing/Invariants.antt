use Rattle.std.proofs.Common.{length}
use Rattle.fmp_cli_hints.proofs.trace.+agreeing.Given as goal

abbrev pub decreases-agreeing : goal.decreases-agreeing
decreases-agreeing l = length l.a.now
