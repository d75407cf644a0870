use Rattle.std.proofs.Common.{◌≡◌, None, drop}
use Rattle.std.specs.Option.{option_copied}
use Rattle.fmp_cli_help.specs.Near.{nearest}
use Rattle.fmp_cli_hints.proofs.labels.near_label.Given as goal

abbrev pub invariant-loop-label : goal.invariant-loop-label
invariant-loop-label l = nearest l.word (option_copied l.best) (drop l.label-index l.labels) ≡ nearest l.word None l.labels
