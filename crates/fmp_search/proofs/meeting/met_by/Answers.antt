use Rattle.std.proofs.Common.{◌≡◌, ◌∙◌, ◌+◌, ℕ, Bool, List, None, Option, false, length, refl, sym, subst, inl, inr, rules}
use Rattle.std.specs.Prelude.{IfSome}
use Rattle.fmp_search.specs.declared.layer.Layer.{Layer}
use Rattle.fmp_search.specs.declared.layer.Layer.TheVariants as layer
use Rattle.fmp_search.specs.declared.meeting.Met.{Met}
use Rattle.fmp_search.specs.declared.nodes.Node.{Node}
use Rattle.fmp_search.specs.Growth.{AreFound, IsOverBy}
use Rattle.fmp_search.specs.Meeting.{IsLeftOpen, Meets}
use Rattle.fmp_search.specs.Surveys.{met_by, GoesSo}
use Rattle.fmp_search.proofs.Farther.{stops_full}
use Rattle.fmp_search.proofs.Told.{says}
use Rattle.fmp_search.proofs.meeting.met_by.Goals as goal

-- a search that did not go through all places was ended by what it met, by the room or by who may end it
left_open : {P : Type 0} (after : P → ℕ → Option P) (wanted : P → Bool) (q : P) (turns room : ℕ) (nodes : List Node) (n opened : ℕ) (over : Bool) (how : Layer) →
    (how ≡ layer.Done → ⊥) → (how ≡ layer.Wanting → ⊥) → GoesSo after wanted q turns room nodes n opened how → IsOverBy over how → AreFound after q n nodes → IsLeftOpen after wanted q turns room over
left_open after wanted q turns room nodes n opened over (layer.Found steps) not some goes by all = inl (steps.items, goes.2)
left_open after wanted q turns room nodes n opened over layer.Full not some goes by all =
    inr (inl (n, goes.0, (stops_full after q nodes n turns room all goes.0 goes.2 goes.3).1 goes.0))
left_open after wanted q turns room nodes n opened over layer.Wanting not some goes by all = absurd (some refl)
left_open after wanted q turns room nodes n opened over layer.Over not some goes by all = inr (inr by)
left_open after wanted q turns room nodes n opened over layer.Done not some goes by all = absurd (not refl)

pub returns-in_default-clause-meets : goal.returns-in_default-clause-meets
returns-in_default-clause-meets g c =
    let W = g.W.Space in
    let q = W.origin c.args.walker.now in
    subst (λ (o : Option Met). IfSome o (Meets W.after W.tells q c.args.turns c.args.count)) (sym c.met_of.ensures.met)
    (says W.after W.passes W.tells W.wanted q c.args.turns c.args.most _ false c.args.count c.in_ok-survey.survey c.in_ok-survey.ensures.surveys)

pub returns-in_default-clause-none : goal.returns-in_default-clause-none
returns-in_default-clause-none g c = λ none.
    let W = g.W.Space in
    let q = W.origin c.args.walker.now in
    let survey = c.in_ok-survey.survey in
    let is = c.in_ok-survey.ensures.surveys in
    left_open W.after W.wanted q c.args.turns c.args.most survey.nodes.items survey.depth survey.chart.opened _ survey.how
    (λ done. let both = subst (λ (h : Layer). met_by h survey.chart (length survey.nodes.items + 1) ≡ None) done (sym c.met_of.ensures.met ∙ none) in absurd (search (rules, both)))
    c.in_default.not-Wanting is.through is.ended is.surveyed.found
