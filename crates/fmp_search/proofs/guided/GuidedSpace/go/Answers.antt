use Rattle.std.proofs.Common.{subst, sym, ◌∙◌, ap, drop, List}
use Rattle.fmp_search.specs.declared.guided.Choice.{Choice}
use Rattle.fmp_search.specs.Runs.{Goes}
use Rattle.fmp_search.specs.Guides.{guide, guided_after}
use Rattle.fmp_search.proofs.Along.{goes_guided, drop_one}
use Rattle.fmp_search.proofs.guided.GuidedSpace.go.Goals as goal

pub returns-clause-goes : goal.returns-clause-goes
returns-clause-goes g c =
    let cs = c.args.self.now.choices.now in
    let left = drop c.args.self.now.made cs in
    let q = g.W.Space.place c.args.self.now.walker in
    let r = g.W.Space.place c.go.new.self in
    subst (λ (xs : List Choice). Goes (guided_after g.W.Space.after (guide left q) c.args.step) c.in_ok-made.made (guide xs r))
    (drop_one c.args.self.now.made cs ∙ ap (λ n. drop n cs) (sym c.one_more-self.ensures))
    (goes_guided g.W.Space.after q r left c.args.step c.in_ok-made.made (sym c.may_choose.ensures ∙ c.if-not-may_choose.false) c.in_ok-made.ensures.goes)
