use Rattle.std.proofs.Common.{◌≡◌, ◌∙◌, ◌+◌, ℕ, Bool, List, Option, inl, inr, length, ap, sym, subst}
use Rattle.std.specs.Prelude.{IfSome}
use Rattle.fmp_search.specs.declared.layer.Layer.{Layer}
use Rattle.fmp_search.specs.declared.nodes.Node.{Node}
use Rattle.fmp_search.specs.declared.staying.Stay.{Stay}
use Rattle.fmp_search.specs.Charts.{AreShort, IsCharted}
use Rattle.fmp_search.specs.Forever.{AreNearest, SaysForEver}
use Rattle.fmp_search.specs.Surveys.{GoesSo}
use Rattle.fmp_search.specs.Trees.{IsTree}
use Rattle.fmp_search.proofs.Covered.{nearest_by}
use Rattle.fmp_search.proofs.Farther.{stops_full, stops_last}
use Rattle.fmp_search.proofs.staying.stay_of.Goals as goal

pub report_of-requires-clause-tree : goal.report_of-requires-clause-tree
report_of-requires-clause-tree g c =
    let W = g.W.Space in
    subst (λ (ns : List Node). IsTree W.after (W.origin c.args.walker.now) ns) (sym c.deref.ensures.value) c.requires.surveys.surveyed.found.tree

pub report_of-requires-clause-charted : goal.report_of-requires-clause-charted
report_of-requires-clause-charted g c =
    let W = g.W.Space in
    let q = W.origin c.args.walker.now in
    let chart = c.args.survey.now.chart in
    let is = c.requires.surveys in (
      subst (λ (ns : List Node). IsCharted W.after W.passes q ns chart) (sym c.deref.ensures.value) (is.surveyed.charted is.same),
      subst (λ (ns : List Node). AreShort W.after q ns chart.edges c.args.turns) (sym c.deref.ensures.value) (is.short is.same),
    )

pub report_of-requires-clause-nearest : goal.report_of-requires-clause-nearest
report_of-requires-clause-nearest g c = λ whole.
    let W = g.W.Space in
    let q = W.origin c.args.walker.now in
    let survey = c.args.survey.now in
    let is = c.requires.surveys in
    let all : survey.chart.opened ≡ length survey.nodes.items + 1 = whole ∙ ap (λ (ns : List Node). length ns + 1) c.deref.ensures.value in
    subst (λ (ns : List Node). AreNearest W.after q ns) (sym c.deref.ensures.value)
    (nearest_by W.after W.passes q survey.nodes.items survey.chart (is.surveyed.charted is.same) all survey.depth is.surveyed.found)

pub returns-in-Some-clause-says : goal.returns-in-Some-clause-says
returns-in-Some-clause-says g c =
    let W = g.W.Space in
    subst (λ (o : Option Stay). IfSome o (λ s. (room : ℕ) (over : Bool) → SaysForEver W.after W.passes W.wanted (W.origin c.args.walker.now) c.args.tests c.args.turns room over s)) c.in-Some.is
    c.in_ok-stay.ensures.says c.args._most (g.P.Progress.over c.args._progress.now)

pub returns-in-Full-clause-says : goal.returns-in-Full-clause-says
returns-in-Full-clause-says g c =
    let W = g.W.Space in
    let q = W.origin c.args.walker.now in
    let survey = c.args.survey.now in
    let nodes = survey.nodes.items in
    let is = c.requires.surveys in
    let not_all : survey.chart.opened ≡ length nodes + 1 → ⊥ = λ all. c.in_ok-stay.ensures.none c.in_default-2.is (all ∙ sym (ap (λ (ns : List Node). length ns + 1) c.deref.ensures.value)) in
    elim c.in-Full.is [
      | inl full ↦
          let goes = subst (λ (how : Layer). GoesSo W.after W.wanted q c.args.turns c.args._most nodes survey.depth survey.chart.opened how) full is.through in
          stops_full W.after q nodes survey.depth c.args.turns c.args._most is.surveyed.found goes.0 goes.2 goes.3
      | inr done ↦
          let goes = subst (λ (how : Layer). GoesSo W.after W.wanted q c.args.turns c.args._most nodes survey.depth survey.chart.opened how) done is.through in
          stops_last W.after q nodes survey.depth c.args.turns W.wanted c.args._most survey.chart.opened goes not_all
    ]
