use Rattle.std.proofs.Common.{◌≡◌, ◌+◌, length}
use Rattle.std.specs.List.{list_all}
use Rattle.std.specs.Option.{option_copied, option_map_or}
use Rattle.fmp_search_pattern.specs.Words as spec
use Rattle.fmp_search_pattern.proofs.Running.{runs_left}
use Rattle.fmp_search_pattern.proofs.words.are_fine.Given as goal

-- whether the runs that are left are fine
abbrev pub invariant-loop-rest : goal.invariant-loop-rest
invariant-loop-rest l = list_all (spec.is_fine l.fn.names) (runs_left (option_copied l.rest)) ≡ list_all (spec.is_fine l.fn.names) (spec.runs_of l.fn.word)

abbrev pub decreases-loop-rest : goal.decreases-loop-rest
decreases-loop-rest l = option_map_or (λ r. length r + 1) (option_copied l.rest) 0
