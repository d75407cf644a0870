use Rattle.std.proofs.Common.{Option, true, subst, sym}
use Rattle.std.specs.Prelude.{IfSome}
use Rattle.fmp_search.specs.declared.meeting.Met.{Met}
use Rattle.fmp_search.specs.Meeting.{Meets}
use Rattle.fmp_search.proofs.Told.{says}
use Rattle.fmp_search.proofs.staying.for_ever.Goals as goal

pub returns-clause-met : goal.returns-clause-met
returns-clause-met g c =
    let W = g.W.Space in
    let q = W.origin c.args.walker.now in
    subst (λ (o : Option Met). IfSome o (Meets W.after W.tells q c.args.turns c.args.count)) (sym c.met_of.ensures.met)
    (says W.after W.passes W.tells W.wanted q c.args.turns c.args.most _ true c.args.count c.in_ok-survey.survey c.in_ok-survey.ensures.surveys)
