use Rattle.std.proofs.Common.{length}
use Rattle.fmp_cli_hints_config.proofs.projects.origin_of.Given as goal

abbrev pub decreases-loop-token : goal.decreases-loop-token
decreases-loop-token l = length l.lexer.lexemes
