use Rattle.std.proofs.Common.{◌≡◌, ◌<◌, ◌+◌, ℕ, length}
use Rattle.fmp_search.specs.Stays.{Covers, IsRight}
use Rattle.fmp_search.proofs.staying.report_of.Given as goal

abbrev pub invariant-loop-test : goal.invariant-loop-test
invariant-loop-test g l = record {
  right : IsRight g.W.Space.after g.W.Space.passes (g.W.Space.origin l.fn.walker) l.fn.turns l.test l.best;
  covers : l.fn.chart.opened ≡ length l.fn.nodes + 1 → (k : ℕ) → k < l.test → Covers g.W.Space.after g.W.Space.passes (g.W.Space.origin l.fn.walker) k l.best;
}
