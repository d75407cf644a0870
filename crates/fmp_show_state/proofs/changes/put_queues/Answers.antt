use Rattle.std.proofs.Common.{refl}
use Rattle.fmp_show_state.specs.Changes.{queue_at}
use Rattle.fmp_show_state.proofs.Lines.{line_added, no_line_yet}
use Rattle.fmp_show_state.proofs.changes.put_queues.Goals as goal

pub loop-index-init : goal.loop-index-init
loop-index-init g c = let W = g.M.Words in no_line_yet (queue_at c.args.names.now (W.world c.args.machine.now).contents) c.args.out.now

pub loop-index-preserved : goal.loop-index-preserved
loop-index-preserved g c = let W = g.M.Words in
    line_added (queue_at c.args.names.now (W.world c.args.machine.now).contents) c.loop-index.index _ c.args.out.now c.loop-index.out _ c.loop-index.invariant
    (rw (c.from_index.ensures.value) refl) c.put_queue.ensures
