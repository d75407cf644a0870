use Rattle.std.proofs.Common.{◌≡◌, length}
use Rattle.std.specs.List.{list_any}
use Rattle.fmp_facts.specs.declared.facts.Kind.TheVariants as kind
use Rattle.fmp_show_facts.specs.Facts.{is_ready_thing, some_ready_on}
use Rattle.fmp_show_facts.proofs.Some.{left_of}
use Rattle.fmp_show_facts.proofs.holding.has_some_ready.Given as goal

-- whether one of those that are left is ready there
abbrev pub invariant-loop-index : goal.invariant-loop-index
invariant-loop-index g l = let W = g.M.Words in
    let w = W.world l.machine in list_any (is_ready_thing w l.p) (left_of kind.Task l.index (length w.tasks)) ≡ some_ready_on w l.p
