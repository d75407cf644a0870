use Rattle.std.proofs.Common.{◌+◌, length}
use Rattle.std.specs.Option.{option_copied, option_map_or}
use Rattle.fmp_cli_hints_question.proofs.known.put_run_hints.Given as goal

abbrev pub decreases-loop-rest : goal.decreases-loop-rest
decreases-loop-rest l = option_map_or (λ r. length r + 1) (option_copied l.rest) 0
