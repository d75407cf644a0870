use Rattle.std.proofs.Common.{◌≡◌, drop}
use Rattle.std.specs.Option.{option_copied}
use Rattle.fmp_cli_hints.specs.Things.{near_name}
use Rattle.fmp_cli_hints.proofs.things.near_name.Given as goal

abbrev pub invariant-loop-kind : goal.invariant-loop-kind
invariant-loop-kind l =
    near_name l.names l.word (option_copied l.best) (drop l.kind-index l.kinds) ≡ near_name l.names l.word (option_copied l.before) l.kinds
