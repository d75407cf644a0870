use Rattle.std.proofs.Common.{length}
use Rattle.fmp_search.specs.Fronts.{IsOpen, Stays}
use Rattle.fmp_search.proofs.layer.open_layer.Given as goal

abbrev pub invariant-loop-at : goal.invariant-loop-at
invariant-loop-at g l =
    let W = g.W.Space in
    let q = W.origin l.fn.walker in record {
      opening : IsOpen W.after (W.IsKey q l.store.tables) l.store.keys W.passes W.tells W.wanted q l.fn.front.depth l.fn.front.end l.store.nodes.items l.chart l.at 0;
      stays : Stays W.origin q l.walker l.base l.fn.store.most l.store.most l.fn.chart.kept (length l.fn.chart.marks.items) l.chart;
    }
