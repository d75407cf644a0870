use Rattle.std.proofs.Common.{◌≡◌, ◌+◌, ◌<◌, ◌^◌, length}
use Rattle.fmp_config_statements.specs.Lexing.{lexed}
use Rattle.fmp_config_statements.proofs.lexer.Lexer.next.Given as goal

abbrev pub invariant-loop-byte : goal.invariant-loop-byte
invariant-loop-byte l = (lexed l.mode l.line l.rest ≡ l.self) × (l.line + length l.rest < 2 ^ 32)

abbrev pub decreases-loop-byte : goal.decreases-loop-byte
decreases-loop-byte l = length l.rest
