use Rattle.std.proofs.Common.{◌≡◌, ◌+◌, ◌++◌, ℕ, List, Bor, length, map}
use Rattle.std.specs.Option.{option_copied, option_map_or}
use Rattle.fmp_bytes.specs.Bytes.{space}
use Rattle.fmp_bytes.proofs.Cutting.{pieces_left}
use Rattle.fmp_search_question.specs.Places.{filled, words_of}
use Rattle.fmp_search_question.proofs.place.words_of.Given as goal

-- the words so far, and those of what is left
abbrev pub invariant-loop-rest : goal.invariant-loop-rest
invariant-loop-rest l = map (λ (x : Bor (List ℕ)). x.now) l.words.items ++ filled (pieces_left space (option_copied l.rest)) ≡ words_of l.fn.text

abbrev pub decreases-loop-rest : goal.decreases-loop-rest
decreases-loop-rest l = option_map_or (λ r. length r + 1) (option_copied l.rest) 0
