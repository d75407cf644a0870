use Rattle.fmp_show_state.proofs.Waiting.{no_wait_yet, wait_reported}
use Rattle.fmp_show_state.proofs.waits.put_lines.Goals as goal

pub loop-index-init : goal.loop-index-init
loop-index-init g c = let W = g.M.Words in no_wait_yet (W.world c.args.machine.now) c.args.names.now c.args.out.now

pub loop-index-preserved : goal.loop-index-preserved
loop-index-preserved g c = let W = g.M.Words in
    wait_reported (W.world c.args.machine.now) c.args.names.now c.loop-index.index c.from_index-t.result c.task.result c.wait_left.result
    c.args.out.now c.loop-index.out _ c.from_index-t.ensures.value c.task.ensures c.wait_left.ensures c.loop-index.invariant c.put_line.ensures
