use Rattle.std.proofs.Common.{length}
use Rattle.fmp_search.specs.Fronts.{IsOpen, Stays}
use Rattle.fmp_search.specs.Growth.{Extends}
use Rattle.fmp_search.specs.Runs.{AreClosed}
use Rattle.fmp_search.proofs.layer.open_place.Given as goal

abbrev pub invariant-loop-step : goal.invariant-loop-step
invariant-loop-step g l =
    let W = g.W.Space in
    let q = W.origin l.fn.walker in
    let nodes = l.store.nodes.items in record {
      opening : IsOpen W.after (W.IsKey q l.store.tables) l.store.keys W.passes W.tells W.wanted q l.fn.front.depth l.fn.front.end nodes l.chart l.fn.at l.step;
      stays : Stays W.origin q l.walker l.base l.fn.store.most l.store.most l.fn.chart.kept (length l.fn.chart.marks.items) l.chart;
      extends : Extends W.after q l.fn.store.nodes.items nodes;
      closed : AreClosed W.after (W.place l.base) l.closed;
    }
