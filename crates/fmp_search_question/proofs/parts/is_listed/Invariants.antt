use Rattle.std.proofs.Common.{◌≡◌, ◌+◌, length}
use Rattle.std.specs.Option.{option_copied, option_map_or}
use Rattle.fmp_bytes.specs.Bytes.{pieces_of}
use Rattle.fmp_bytes.proofs.Cutting.{pieces_left}
use Rattle.fmp_names.specs.Names.{has_name}
use Rattle.fmp_search_question.specs.Waiting.{comma}
use Rattle.fmp_search_question.proofs.parts.is_listed.Given as goal

-- whether it is one of those that are left
abbrev pub invariant-loop-rest : goal.invariant-loop-rest
invariant-loop-rest l = has_name (pieces_left comma (option_copied l.rest)) l.fn.name ≡ has_name (pieces_of comma l.fn.list) l.fn.name

abbrev pub decreases-loop-rest : goal.decreases-loop-rest
decreases-loop-rest l = option_map_or (λ r. length r + 1) (option_copied l.rest) 0
