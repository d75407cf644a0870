use Rattle.std.proofs.Common.{◌∙◌}
use Rattle.fmp_show_changes.specs.Life.Lines.{is_due_on}
use Rattle.fmp_show_changes.proofs.life.Due.{due_before, due_here}
use Rattle.fmp_show_changes.proofs.life.lines.is_due.Goals as goal
use Rattle.fmp_show_changes.proofs.life.lines.is_due.Goals.{then-due, else-due}

pub loop-index-preserved : goal.loop-index-preserved
loop-index-preserved g c = let W = g.M.Words in
    let f = is_due_on (W.world c.args.machine.now) c.args.handler in
    elim c.if-due.branch [
      | then-due w ↦ due_before f c.loop-index.index c.loop-index.due _ c.loop-index.invariant w.if-due.true (w.due-is ∙ w.if-due.true)
      | else-due w ↦ due_here f c.loop-index.index c.loop-index.due _ _ c.loop-index.invariant w.if-due.false w.from_index.ensures.value (w.due-is ∙ w.is_due_on-due.ensures)
    ]
