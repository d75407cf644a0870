use Rattle.fmp_smp.proofs.Turning.{in_turn_at_first}
use Rattle.fmp_smp.proofs.clocked.Clocked.new.Goals as goal

pub invariant_of-result : goal.invariant_of-result
invariant_of-result c = in_turn_at_first c.args.ticks c.args.world c.args.config.now c.new.result c.requires.configured c.requires.fresh c.new.ensures
