use Rattle.std.proofs.Common.{Option, length, subst}
use Rattle.fmp_search.specs.declared.staying.Run.{Run}
use Rattle.fmp_search.specs.Stays.{HasWithin, IsRight}
use Rattle.fmp_search.proofs.staying.report.Goals as goal

pub returns-then-whole-clause-says : goal.returns-then-whole-clause-says
returns-then-whole-clause-says g c =
    let right = subst (λ (o : Option Run). IsRight g.W.Space.after g.W.Space.passes (g.W.Space.origin c.args._walker.now) c.args._turns c.args._tests o) c.in-Some.is c.requires.right in
    λ room over. (right.0, right.1, right.2, λ k others lt ends. subst (λ (o : Option Run). HasWithin o (length others)) c.in-Some.is (c.requires.covers c.if-whole.true k lt others ends))

pub returns-then-whole-2-clause-says : goal.returns-then-whole-2-clause-says
returns-then-whole-2-clause-says g c = λ room over k lt steps ends. subst (λ (o : Option Run). HasWithin o (length steps)) c.in-None.is (c.requires.covers c.if-whole-2.true k lt steps ends)

pub returns-then-whole-clause-all : goal.returns-then-whole-clause-all
returns-then-whole-clause-all g c = c.requires.nearest c.if-whole.true

pub returns-then-whole-2-clause-all : goal.returns-then-whole-2-clause-all
returns-then-whole-2-clause-all g c = c.requires.nearest c.if-whole-2.true
