use Rattle.fmp_run_view.proofs.Counted.{change_line, no_change_yet}
use Rattle.fmp_run_view.proofs.changes.put_changes_of.Goals as goal

pub loop-index-init : goal.loop-index-init
loop-index-init c = no_change_yet c.args.config.now c.args.all c.args.before.now c.args.after.now c.args.signal c.args.out.now

pub loop-index-preserved : goal.loop-index-preserved
loop-index-preserved c =
    change_line c.args.config.now c.args.all c.args.before.now c.args.after.now c.args.signal c.loop-index.index c.args.out.now c.loop-index.out _
    c.loop-index.invariant c.put_change.ensures
