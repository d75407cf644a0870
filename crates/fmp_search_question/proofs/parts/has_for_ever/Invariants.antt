use Rattle.std.proofs.Common.{◌≡◌, ◌+◌, false, length}
use Rattle.std.specs.Option.{option_copied, option_map_or}
use Rattle.fmp_bytes.specs.Bytes.{space, pieces_of}
use Rattle.fmp_bytes.proofs.Cutting.{pieces_left}
use Rattle.fmp_search_question.specs.Lasting.{has_for_ever}
use Rattle.fmp_search_question.proofs.parts.has_for_ever.Given as goal

-- whether those that are left have them
abbrev pub invariant-loop-rest : goal.invariant-loop-rest
invariant-loop-rest l = has_for_ever l.after_for (pieces_left space (option_copied l.rest)) ≡ has_for_ever false (pieces_of space l.fn.text)

abbrev pub decreases-loop-rest : goal.decreases-loop-rest
decreases-loop-rest l = option_map_or (λ r. length r + 1) (option_copied l.rest) 0
