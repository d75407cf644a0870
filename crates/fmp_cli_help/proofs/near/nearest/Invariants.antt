use Rattle.std.proofs.Common.{◌≡◌, drop, map}
use Rattle.std.specs.Option.{option_copied}
use Rattle.fmp_cli_help.specs.Near.{nearest}
use Rattle.fmp_cli_help.proofs.near.nearest.Given as goal

abbrev pub invariant-loop-it : goal.invariant-loop-it
invariant-loop-it g l =
    nearest l.word (option_copied l.best) (map g.N.Named.name_of (drop l.it-index l.named)) ≡ nearest l.word (option_copied l.fn.best) (map g.N.Named.name_of l.fn.named)
