use Rattle.std.proofs.Common.{◌≡◌, ◌≤◌, ◌+◌, ◌-◌, None, drop, length}
use Rattle.std.specs.Option.{option_copied}
use Rattle.fmp_cli_help.specs.Near.{nearest}
use Rattle.fmp_cli_hints_config.proofs.functions.nearest_function.Given as goal

abbrev pub invariant-loop-name : goal.invariant-loop-name
invariant-loop-name l = record {
  least : 1 ≤ l.number;
  most : l.number ≤ length l.config.names.functions + 1;
  nearest : nearest l.word (option_copied l.best) (drop (l.number - 1) l.config.names.functions) ≡ nearest l.word None l.config.names.functions;
}

abbrev pub decreases-loop-name : goal.decreases-loop-name
decreases-loop-name l = (length l.config.names.functions + 1) - l.number
