use Rattle.std.proofs.Common.{◌+◌, length}
use Rattle.std.specs.Option.{option_map_or, option_copied}
use Rattle.fmp_bytes.proofs.Cutting.{pieces_left}
use Rattle.fmp_out.specs.Putting.{Owes}
use Rattle.fmp_trace.specs.Guess.{words_left}
use Rattle.fmp_trace_partial.specs.Marks.{filled_words}
use Rattle.fmp_trace_partial.proofs.marks.put_filled_words.Given as goal

abbrev pub invariant-loop-rest : goal.invariant-loop-rest
invariant-loop-rest l = Owes (filled_words (pieces_left 32 (option_copied l.rest))) (filled_words (words_left (option_copied l.fn.words))) l.fn.out l.out

abbrev pub decreases-loop-rest : goal.decreases-loop-rest
decreases-loop-rest l = option_map_or (λ rest. length rest + 1) (option_copied l.rest) 0
