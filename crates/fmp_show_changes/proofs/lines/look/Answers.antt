use Rattle.std.proofs.Common.{◌∙◌, sym}
use Rattle.fmp_show_changes.proofs.Looking.{is_first, others_within}
use Rattle.fmp_show_changes.specs.Changes.{is_same}
use Rattle.fmp_show_changes.proofs.lines.look.Goals as goal
use Rattle.fmp_show_changes.proofs.lines.look.Goals.{then-is_same-2, else-is_same-2}

pub returns-then-is_same-clause-found : goal.returns-then-is_same-clause-found
returns-then-is_same-clause-found c =
    sym ((rw c.in-Some.is at c.requires) (λ l. is_same c.args.rule l c.args.line.now)
    (is_first c.in-Some.lines.now _ _ c.cut.ensures.prefix c.cut.ensures.rest c.args.rule c.args.line.now (sym c.is_same.ensures ∙ c.if-is_same.true)))

pub returns-then-is_same-clause-within : goal.returns-then-is_same-clause-within
returns-then-is_same-clause-within c =
    others_within c.in-Some.lines.now _ _ c.cut.ensures.prefix c.cut.ensures.rest _ (rw c.in-Some.is at c.requires)

pub returns-clause-within : goal.returns-clause-within
returns-clause-within c =
    elim c.if-is_same-2.branch [
      | then-is_same-2 w ↦ rw w.next-is (others_within c.in-Some.lines.now _ _ c.cut.ensures.prefix c.cut.ensures.rest _ (rw c.in-Some.is at c.requires))
      | else-is_same-2 w ↦ rw w.next-is c.requires
    ]
