use Rattle.std.proofs.Common.{◌≡◌, ◌-◌, ◌≤◌, drop, length}
use Rattle.std.specs.Option.{option_copied}
use Rattle.fmp_codes.specs.declared.kinds.NameKind.TheVariants.{Object}
use Rattle.fmp_cli_help.specs.Near.{nearest}
use Rattle.fmp_names.specs.Names.{names_of}
use Rattle.fmp_cli_hints.proofs.hints.near_object.Given as goal

abbrev pub invariant-loop-name : goal.invariant-loop-name
invariant-loop-name l = record {
  nearest : nearest l.word (option_copied l.best) (drop l.index (names_of l.names (Object l.kind))) ≡ nearest l.word (option_copied l.before) (names_of l.names (Object l.kind));
  within : l.index ≤ length (names_of l.names (Object l.kind));
}

abbrev pub decreases-loop-name : goal.decreases-loop-name
decreases-loop-name l = length (names_of l.names (Object l.kind)) - l.index
