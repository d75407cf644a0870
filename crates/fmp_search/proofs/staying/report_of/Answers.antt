use Rattle.std.proofs.Common.{◌+◌, Bool, List, length, subst, below_more, arith}
use Rattle.std.proofs.lemmas.Bool.{eqb-true}
use Rattle.fmp_search.specs.Stays.{AreEntered, Covers}
use Rattle.fmp_search.proofs.Covered.{covers_by}
use Rattle.fmp_search.proofs.staying.report_of.Goals as goal

pub entered-requires-clause-sure : goal.entered-requires-clause-sure
entered-requires-clause-sure g c = (c.requires.charted.0.sure, c.requires.charted.1)

pub loop-test-preserved : goal.loop-test-preserved
loop-test-preserved g c =
    let after = g.W.Space.after in
    let passes = g.W.Space.passes in
    let q = g.W.Space.origin c.args.walker.now in
    let nodes = c.args.nodes.now in
    let best = c.in_ok-best.best in
    let marks = c.in_ok-marks.marks.items in
    record {
      right = c.in_ok-best.ensures.right;
      covers = λ whole. below_more (λ k. Covers after passes q k best) _
          (λ k lt others ends. c.in_ok-best.ensures.kept (length others) (c.loop-test.invariant.covers whole k lt others ends))
          (covers_by after passes q nodes c.args.chart.now c.requires.charted.0 whole c.loop-test.test marks best c.in_ok-marks.ensures.closed (c.in_ok-marks.ensures.earned whole) (c.requires.nearest whole)
          (subst (λ (ms : List Bool). AreEntered after q nodes c.args.chart.now.edges ms c.loop-test.test best) c.deref.ensures.value c.in_ok-best.ensures.within));
    }

pub report-requires-clause-covers : goal.report-requires-clause-covers
report-requires-clause-covers g c =
    λ is k lt.
    let past = c.loop-test-test.false in
    c.loop-test.invariant.covers (eqb-true c.args.chart.now.opened (length c.args.nodes.now + 1) is) k (omega (arith, lt, past))

pub report-requires-clause-nearest : goal.report-requires-clause-nearest
report-requires-clause-nearest g c = λ is. c.requires.nearest (eqb-true c.args.chart.now.opened (length c.args.nodes.now + 1) is)
