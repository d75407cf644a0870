use Rattle.std.proofs.Common.{◌≡◌}
use Rattle.std.specs.List.{list_any}
use Rattle.fmp_show_facts.specs.Facts.{count_of, has_all, some_has_all}
use Rattle.fmp_show_facts.proofs.Some.{left_of}
use Rattle.fmp_show_facts.proofs.holding.some_has_all.Given as goal

-- whether one of those that are left has them all
abbrev pub invariant-loop-index : goal.invariant-loop-index
invariant-loop-index g l = let W = g.M.Words in
    let w = W.world l.machine in let n = count_of w l.kind in list_any (has_all w l.facts) (left_of l.kind l.index n) ≡ some_has_all w l.facts l.kind n
