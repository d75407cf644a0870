use Rattle.std.proofs.Common.{◌+◌, ◌≤◌, length}
use Rattle.fmp_search.specs.Fronts.{IsOpen, Stays}
use Rattle.fmp_search.specs.Surveys.{IsPassed}
use Rattle.fmp_search.proofs.surveying.go_through.Given as goal

abbrev pub invariant-loop-depth : goal.invariant-loop-depth
invariant-loop-depth g l =
    let W = g.W.Space in
    let q = W.origin l.fn.walker in
    let nodes = l.store.nodes.items in record {
      opening : IsOpen W.after (W.IsKey q l.store.tables) l.store.keys W.passes W.tells W.wanted q l.depth (length nodes + 1) nodes l.chart l.begin 0;
      few : l.begin ≤ length nodes + 1;
      stays : Stays W.origin q l.walker l.base l.fn.most l.store.most l.fn.kept l.fn.count l.chart;
      within : l.depth ≤ l.fn.turns;
      passed : IsPassed W.after q nodes l.depth l.begin;
    }
