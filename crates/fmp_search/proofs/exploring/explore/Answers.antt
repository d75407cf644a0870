use Rattle.std.proofs.Common.{◌≡◌, ◌∙◌, ◌+◌, ◌==◌, ap, length, Bool, false, Option, refl, subst, sym, arith}
use Rattle.std.specs.Prelude.{IfSome}
use Rattle.fmp_search.specs.declared.exploring.Answer.{Answer}
use Rattle.fmp_search.specs.declared.layer.Layer.{Layer}
use Rattle.fmp_search.specs.declared.meeting.Met.{Met}
use Rattle.fmp_search.specs.Answers.{IsEndedBy, Says}
use Rattle.fmp_search.specs.Extents.{Went}
use Rattle.fmp_search.specs.Meeting.{IsMetBeside, Meets}
use Rattle.fmp_search.specs.Surveys.{answer_by}
use Rattle.fmp_search.proofs.Told.{answers, beside, ends, says, went}
use Rattle.fmp_search.proofs.exploring.explore.Goals as goal

pub returns-clause-says : goal.returns-clause-says
returns-clause-says g c =
    let W = g.W.Space in
    let q = W.origin c.args.walker.now in
    let s = c.in_ok-survey.survey in
    let count = c.len.ensures in
    let long = s.nodes.ok.0 in
    let all : c.len.result ≡ length s.nodes.items = omega (arith, count, long) in
    let whole : Bool = s.chart.opened == (c.len.result + 1) in
    subst (λ (a : Answer). Says W.after W.wanted q c.args.turns c.args.most a) (sym (c.answer_of.ensures ∙ ap (λ (h : Layer). answer_by h s.depth whole) c.met_of-how.ensures.how))
    (answers W.after W.passes W.tells W.wanted q c.args.turns c.args.most _ false c.args.count s c.in_ok-survey.ensures.surveys s.how _ refl
    (ap (λ n. s.chart.opened == (n + 1)) all))

pub returns-clause-went : goal.returns-clause-went
returns-clause-went g c =
    let W = g.W.Space in
    let q = W.origin c.args.walker.now in
    let s = c.in_ok-survey.survey in
    let e = c.in_ok-extent.extent in
    let count = c.len.ensures in
    let long = s.nodes.ok.0 in
    let all : c.len.result ≡ length s.nodes.items = omega (arith, count, long) in
    let whole : Bool = s.chart.opened == (c.len.result + 1) in
    subst (λ (a : Answer). Went W.after q a e) (sym (c.answer_of.ensures ∙ ap (λ (h : Layer). answer_by h s.depth whole) c.met_of-how.ensures.how))
    (went W.after W.passes W.tells W.wanted q c.args.turns c.args.most _ false c.args.count s c.in_ok-survey.ensures.surveys s.how _ e refl
    (ap (λ n. s.chart.opened == (n + 1)) all) c.in_ok-extent.ensures)

pub returns-clause-met : goal.returns-clause-met
returns-clause-met g c =
    let W = g.W.Space in
    let q = W.origin c.args.walker.now in
    subst (λ (o : Option Met). IfSome o (Meets W.after W.tells q c.args.turns c.args.count)) (sym c.met_of-how.ensures.met)
    (says W.after W.passes W.tells W.wanted q c.args.turns c.args.most _ false c.args.count c.in_ok-survey.survey c.in_ok-survey.ensures.surveys)

pub returns-clause-beside : goal.returns-clause-beside
returns-clause-beside g c =
    let W = g.W.Space in
    let q = W.origin c.args.walker.now in
    let s = c.in_ok-survey.survey in
    let count = c.len.ensures in
    let long = s.nodes.ok.0 in
    let all : c.len.result ≡ length s.nodes.items = omega (arith, count, long) in
    let whole : Bool = s.chart.opened == (c.len.result + 1) in
    subst (λ (a : Answer). IsMetBeside c.args.turns a c.met_of-how.result.1) (sym (c.answer_of.ensures ∙ ap (λ (h : Layer). answer_by h s.depth whole) c.met_of-how.ensures.how))
    (subst (λ (o : Option Met). IsMetBeside c.args.turns (answer_by s.how s.depth whole) o) (sym c.met_of-how.ensures.met)
    (beside W.after W.passes W.tells W.wanted q c.args.turns c.args.most _ false c.args.count s c.in_ok-survey.ensures.surveys s.how _ refl
    (ap (λ n. s.chart.opened == (n + 1)) all)))

pub returns-clause-ended : goal.returns-clause-ended
returns-clause-ended g c =
    let s = c.in_ok-survey.survey in
    let over : Bool = g.P.Progress.over c.go_through.new.progress in
    let whole : Bool = s.chart.opened == (c.len.result + 1) in
    subst (λ (a : Answer). IsEndedBy over a) (sym (c.answer_of.ensures ∙ ap (λ (h : Layer). answer_by h s.depth whole) c.met_of-how.ensures.how))
    (ends over whole s.depth s.how c.in_ok-survey.ensures.surveys.ended)
