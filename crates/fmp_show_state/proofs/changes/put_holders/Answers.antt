use Rattle.std.proofs.Common.{refl}
use Rattle.fmp_show_state.specs.Changes.{holder_at}
use Rattle.fmp_show_state.proofs.Lines.{line_added, no_line_yet}
use Rattle.fmp_show_state.proofs.changes.put_holders.Goals as goal

pub loop-index-init : goal.loop-index-init
loop-index-init g c = let W = g.M.Words in no_line_yet (holder_at c.args.names.now (W.world c.args.machine.now).holders) c.args.out.now

pub loop-index-preserved : goal.loop-index-preserved
loop-index-preserved g c = let W = g.M.Words in
    line_added (holder_at c.args.names.now (W.world c.args.machine.now).holders) c.loop-index.index _ c.args.out.now c.loop-index.out _ c.loop-index.invariant
    (rw (c.holder.ensures, c.from_index-l.ensures.value) refl) c.put_holder.ensures
