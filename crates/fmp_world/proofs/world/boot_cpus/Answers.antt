use Rattle.std.proofs.Common.{refl}
use Rattle.fmp_world.proofs.Opening.{seats_more}
use Rattle.fmp_world.proofs.world.boot_cpus.Goals as goal

pub loop-at-preserved : goal.loop-at-preserved
loop-at-preserved c =
    rw c.push.ensures.items
    (seats_more c.args.turns c.loop-at.cpus.items c.in_ok-new.field-0 c.loop-at.at c.loop-at.invariant (rw c.in_ok-new.ensures (c.new.ensures.number, refl, refl)))
