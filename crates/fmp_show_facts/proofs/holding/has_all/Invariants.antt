use Rattle.std.proofs.Common.{◌≡◌, drop}
use Rattle.std.specs.List.{list_all}
use Rattle.fmp_show_facts.specs.Facts.{has_all, thing_is}
use Rattle.fmp_show_facts.proofs.holding.has_all.Given as goal

abbrev pub invariant-loop-fact : goal.invariant-loop-fact
invariant-loop-fact g l = let W = g.M.Words in
    let w = W.world l.machine in list_all (thing_is w l.thing) (drop l.fact-index l.facts) ≡ has_all w l.fn.facts l.thing
