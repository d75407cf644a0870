use Rattle.fmp_show_state.proofs.More.{no_processor_yet, processor_line}
use Rattle.fmp_show_state.proofs.processors.put_processors.Goals as goal

pub loop-index-init : goal.loop-index-init
loop-index-init g c = let W = g.M.Words in no_processor_yet W.ordering (W.world c.args.machine.now) c.args.names.now c.args.out.now

pub loop-index-preserved : goal.loop-index-preserved
loop-index-preserved g c = let W = g.M.Words in
    processor_line W.ordering (W.world c.args.machine.now) c.args.names.now c.loop-index.index c.from_index.result c.args.out.now c.loop-index.out _
    c.from_index.ensures.value c.loop-index.invariant c.put_processor.ensures
