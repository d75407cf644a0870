use Rattle.std.proofs.Common.{◌+◌, ◌<◌, ◌^◌, length}
use Rattle.fmp_cli_hints_config.specs.Opened.{depth_in}
use Rattle.fmp_cli_hints_config.proofs.place.all_before.Given as goal

-- no more parentheses are open than tokens were read
abbrev pub invariant-loop-token : goal.invariant-loop-token
invariant-loop-token l = depth_in l.opened + length l.lexer.lexemes < 2 ^ 64

abbrev pub decreases-loop-token : goal.decreases-loop-token
decreases-loop-token l = length l.lexer.lexemes
