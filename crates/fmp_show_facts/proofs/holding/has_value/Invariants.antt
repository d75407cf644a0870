use Rattle.std.proofs.Common.{◌≡◌, drop}
use Rattle.std.specs.List.{list_any}
use Rattle.std.specs.Ordering.{int_eq}
use Rattle.fmp_rules.specs.Objects.{values}
use Rattle.fmp_show_facts.proofs.holding.has_value.Given as goal

-- whether it is one of those that are left
abbrev pub invariant-loop-index : goal.invariant-loop-index
invariant-loop-index g l = let W = g.M.Words in
    let vs = values (W.world l.machine) l.d in list_any (int_eq l.value) (drop l.index vs) ≡ list_any (int_eq l.value) vs
