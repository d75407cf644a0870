use Rattle.std.proofs.Common.{◌≤◌}
use Rattle.fmp_cli_hints_config.proofs.place.end_of_text.Given as goal

abbrev pub invariant-loop-index : goal.invariant-loop-index
invariant-loop-index l = l.end ≤ l.index
