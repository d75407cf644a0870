use Rattle.fmp_run_wave.specs.Listing.{task_signals}
use Rattle.fmp_run_wave.proofs.Counted.{grown, nothing_yet}
use Rattle.fmp_run_wave.proofs.listing.put_tasks_signals.Goals as goal

pub loop-index-init : goal.loop-index-init
loop-index-init c = nothing_yet (task_signals c.args.form c.args.names.now) c.args.out.now

pub loop-index-preserved : goal.loop-index-preserved
loop-index-preserved c = grown (task_signals c.args.form c.args.names.now) c.loop-index.index c.args.out.now c.loop-index.out _ c.loop-index.invariant c.put_task_signals.ensures
