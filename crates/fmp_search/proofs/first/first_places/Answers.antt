use Rattle.std.proofs.Common.{ℕ, ◌≤◌, Bool, Option, List, subst, arith}
use Rattle.std.proofs.lemmas.Result.{IfOk-weaker}
use Rattle.fmp_search.specs.declared.layer.Layer.{Layer}
use Rattle.fmp_search.specs.declared.layer.Layer.TheVariants as layer
use Rattle.fmp_search.specs.declared.nodes.Node.{Node}
use Rattle.fmp_search.specs.Keys.{AreKeyed}
use Rattle.fmp_search.specs.Surveys.{GoesSo}
use Rattle.fmp_search.proofs.first.first_places.Goals as goal

-- a search makes no more steps than it may
within : {P : Type 0} (after : P → ℕ → Option P) (wanted : P → Bool) (q : P) (turns room : ℕ) (nodes : List Node) (n opened : ℕ) (how : Layer) →
    GoesSo after wanted q turns room nodes n opened how → n ≤ turns
within after wanted q turns room nodes n opened (layer.Found steps) goes = goes.0
within after wanted q turns room nodes n opened layer.Full goes = let lt = goes.0 in omega (arith, lt)
within after wanted q turns room nodes n opened layer.Wanting goes = let lt = goes.0 in omega (arith, lt)
within after wanted q turns room nodes n opened layer.Over goes = let lt = goes.0 in omega (arith, lt)
within after wanted q turns room nodes n opened layer.Done goes = goes.within

pub returns : goal.returns
returns g c =
    let W = g.W.Space in
    let survey = c.in_ok-survey.survey in
    let surveys = c.in_ok-survey.ensures.surveys in
    let q = W.origin c.args.walkers.0 in
    let nodes = survey.nodes.items in
    IfOk-weaker c.places_of.result _ _
    (λ p keyed. record {
      nodes = nodes;
      steps = survey.depth;
      few = within W.after W.wanted q c.args.turns c.args.most nodes survey.depth survey.chart.opened survey.how surveys.through;
      found = surveys.surveyed.found;
      keyed = subst (λ (ns : List Node). AreKeyed W.after (W.IsKey q p.tables) q p.keys.items ns) c.deref.ensures.value
          (subst (λ q. AreKeyed W.after (W.IsKey q p.tables) q p.keys.items c.deref.result.now) c.in_ok-survey.ensures.origin keyed);
    })
    c.places_of.ensures
