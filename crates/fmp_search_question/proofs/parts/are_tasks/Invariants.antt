use Rattle.std.proofs.Common.{◌≡◌, ◌+◌, length}
use Rattle.std.specs.List.{list_all}
use Rattle.std.specs.Option.{option_copied, option_map_or}
use Rattle.fmp_bytes.proofs.Cutting.{pieces_left}
use Rattle.fmp_search_question.specs.Waiting.{comma}
use Rattle.fmp_search_question.specs.Lasting.{is_task, are_tasks}
use Rattle.fmp_search_question.proofs.parts.are_tasks.Given as goal

-- whether those that are left are tasks
abbrev pub invariant-loop-rest : goal.invariant-loop-rest
invariant-loop-rest l = list_all (is_task l.fn.names) (pieces_left comma (option_copied l.rest)) ≡ are_tasks l.fn.names l.fn.list

abbrev pub decreases-loop-rest : goal.decreases-loop-rest
decreases-loop-rest l = option_map_or (λ r. length r + 1) (option_copied l.rest) 0
