use Rattle.std.proofs.Common.{subst, sym, ◌∙◌, ap, drop, List}
use Rattle.fmp_search.specs.declared.guided.Choice.{Choice}
use Rattle.fmp_search.specs.Runs.{told_of, Watches}
use Rattle.fmp_search.specs.Guides.{guide, guided_after}
use Rattle.fmp_search.proofs.Along.{watches_guided, drop_one}
use Rattle.fmp_search.proofs.guided.GuidedSpace.watch.Goals as goal

pub returns-clause-goes : goal.returns-clause-goes
returns-clause-goes g c =
    let cs = c.args.self.now.choices.now in
    let left = drop c.args.self.now.made cs in
    let q = g.W.Space.place c.args.self.now.walker in
    let r = g.W.Space.place c.watch.new.self in
    let told = told_of g.W.Space.passes g.W.Space.tells q c.args.step in
    subst (λ (xs : List Choice). Watches (guided_after g.W.Space.after (guide left q) c.args.step) told c.in_ok-report.report (guide xs r))
    (drop_one c.args.self.now.made cs ∙ ap (λ n. drop n cs) (sym c.one_more-self.ensures))
    (watches_guided g.W.Space.after q r left c.args.step told c.in_ok-report.report (sym c.may_choose.ensures ∙ c.if-not-may_choose.false) c.in_ok-report.ensures.goes)
