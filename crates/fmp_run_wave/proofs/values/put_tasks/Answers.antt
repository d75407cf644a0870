use Rattle.fmp_run_wave.specs.Values.{task_lines}
use Rattle.fmp_run_wave.proofs.Counted.{grown, nothing_yet}
use Rattle.fmp_run_wave.proofs.values.put_tasks.Goals as goal

pub loop-index-init : goal.loop-index-init
loop-index-init c = nothing_yet (task_lines c.args.names.now c.args.shown.now) c.args.out.now

pub loop-index-preserved : goal.loop-index-preserved
loop-index-preserved c = grown (task_lines c.args.names.now c.args.shown.now) c.loop-index.index c.args.out.now c.loop-index.out _ c.loop-index.invariant c.put_task.ensures
