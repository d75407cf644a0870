use Rattle.std.proofs.Common.{◌≡◌, ◌+◌, length}
use Rattle.std.specs.Option.{option_map_or, option_copied}
use Rattle.fmp_bytes.proofs.Cutting.{pieces_left}
use Rattle.fmp_trace.specs.Guess.{with_words, words_left}
use Rattle.fmp_trace.proofs.guess.with_words.Given as goal

abbrev pub invariant-loop-rest : goal.invariant-loop-rest
invariant-loop-rest l = with_words l.names l.entry (pieces_left 32 (option_copied l.rest)) ≡ with_words l.names l.fn.entry (words_left (option_copied l.fn.words))

abbrev pub decreases-loop-rest : goal.decreases-loop-rest
decreases-loop-rest l = option_map_or (λ rest. length rest + 1) (option_copied l.rest) 0
