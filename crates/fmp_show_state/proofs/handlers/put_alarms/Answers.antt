use Rattle.std.proofs.Common.{refl}
use Rattle.fmp_show_state.specs.Changes.{alarm_at}
use Rattle.fmp_show_state.proofs.Lines.{line_added, no_line_yet}
use Rattle.fmp_show_state.proofs.handlers.put_alarms.Goals as goal

pub loop-index-init : goal.loop-index-init
loop-index-init g c = let W = g.M.Words in no_line_yet (alarm_at c.args.names.now (W.world c.args.machine.now).alarms_left) c.args.out.now

pub loop-index-preserved : goal.loop-index-preserved
loop-index-preserved g c = let W = g.M.Words in
    line_added (alarm_at c.args.names.now (W.world c.args.machine.now).alarms_left) c.loop-index.index _ c.args.out.now c.loop-index.out _ c.loop-index.invariant
    (rw (c.alarm_left.ensures, c.from_index-a.ensures.value) refl) c.put_line.ensures
