use Rattle.std.proofs.Common.{◌≡◌, drop}
use Rattle.fmp_show_changes.specs.Life.Things.{kinds, named_among}
use Rattle.fmp_show_changes.proofs.life.things.thing_named.Given as goal

-- none of the kinds so far has the name
abbrev pub invariant-loop-kind : goal.invariant-loop-kind
invariant-loop-kind l = named_among l.names l.name (drop l.kind-index kinds) ≡ named_among l.names l.name kinds
