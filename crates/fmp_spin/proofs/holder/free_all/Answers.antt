use Rattle.std.proofs.Common.{◌<◌, length, arith}
use Rattle.std.proofs.lemmas.List.Edits.{map_over_more}
use Rattle.fmp_spin.specs.Locks.{freed}
use Rattle.fmp_spin.proofs.holder.free_all.Goals as goal

pub loop-holder-preserved : goal.loop-holder-preserved
loop-holder-preserved c =
    let within : c.loop-holder.holder-index < length c.args.holders.now = omega arith in
    rw (c.freed.ensures, ← c.holder-item.is)
    (map_over_more (freed c.args.p) c.args.holders.now c.loop-holder.holders c.loop-holder.holder-index _ within c.loop-holder.invariant c.holder-item.is)
