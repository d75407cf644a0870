use Rattle.std.proofs.Common.{◌∙◌, sym, rules}
use Rattle.fmp_show_changes.specs.Life.Things.{kinds, thing_named}
use Rattle.fmp_show_changes.proofs.life.Naming.{first_has}
use Rattle.fmp_show_changes.proofs.life.things.thing_named.Goals as goal

pub returns-then-is_some : goal.returns-then-is_some
unfolding thing_named
returns-then-is_some c =
    sym (first_has c.args.names.now c.args.name.now kinds c.loop-kind.kind-index _ c.named_as-found.result (search rules) c.named_as-found.ensures (search rules)) ∙ c.loop-kind.invariant

pub returns : goal.returns
unfolding thing_named
returns c = search rules
