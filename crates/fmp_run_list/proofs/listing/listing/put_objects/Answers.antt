use Rattle.fmp_run_list.proofs.listing.Counted.{no_object_yet, object_next}
use Rattle.fmp_run_list.proofs.listing.listing.put_objects.Goals as goal

pub loop-index-init : goal.loop-index-init
loop-index-init c = no_object_yet c.args.config.now c.args.kind c.args.out.now

pub loop-index-preserved : goal.loop-index-preserved
loop-index-preserved c =
    object_next c.args.config.now c.args.kind c.loop-index.index c.args.out.now c.loop-index.out _ c.loop-index.invariant c.put_object_line.ensures
