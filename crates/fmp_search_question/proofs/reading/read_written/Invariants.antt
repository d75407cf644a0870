use Rattle.std.proofs.Common.{◌≡◌, ◌≤◌, ◌+◌, length}
use Rattle.std.specs.Option.{option_copied, option_map_or}
use Rattle.fmp_bytes.specs.Bytes.{space, pieces_of}
use Rattle.fmp_bytes.proofs.Cutting.{pieces_left}
use Rattle.fmp_search_question.specs.Reading.{after_word, nothing_read}
use Rattle.fmp_search_question.specs.WordByWord.{after_words}
use Rattle.fmp_search_question.proofs.reading.read_written.Given as goal

-- what is read of the words that are left is what is read of all
abbrev pub invariant-loop-rest : goal.invariant-loop-rest
invariant-loop-rest l =
    (after_words (after_word l.fn.names) (length l.fn.text) l.draft (pieces_left space (option_copied l.rest))
    ≡ after_words (after_word l.fn.names) (length l.fn.text) nothing_read (pieces_of space l.fn.text))
    × (option_map_or length (option_copied l.rest) 0 ≤ length l.fn.text)

abbrev pub decreases-loop-rest : goal.decreases-loop-rest
decreases-loop-rest l = option_map_or (λ r. length r + 1) (option_copied l.rest) 0
