use Rattle.std.proofs.Common.{◌≡◌, ◌+◌, ◌<◌, ◌^◌, length}
use Rattle.fmp_config.specs.Reading.{at_start, depth_in, take_token}
use Rattle.fmp_config.specs.Readers.{state_of}
use Rattle.fmp_config.specs.Sound.{IsSoundState}
use Rattle.fmp_config_statements.specs.Folds.{each}
use Rattle.fmp_config_statements.specs.Lexing.{lexed_text}
use Rattle.fmp_config.proofs.reading.config_of.Given as goal

abbrev pub invariant-loop-token : goal.invariant-loop-token
invariant-loop-token l = record {
  reads : each take_token (state_of l.reader) l.lexer.lexemes ≡ each take_token at_start (lexed_text l.fn.text).lexemes;
  end : l.lexer.end ≡ (lexed_text l.fn.text).end;
  sound : IsSoundState (state_of l.reader);
  depth : depth_in (state_of l.reader) + length l.lexer.lexemes < 2 ^ 64;
}

abbrev pub decreases-loop-token : goal.decreases-loop-token
decreases-loop-token l = length l.lexer.lexemes
