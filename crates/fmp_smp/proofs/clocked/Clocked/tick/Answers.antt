use Rattle.fmp_smp.proofs.Turning.{tick_in_turn}
use Rattle.fmp_smp.proofs.clocked.Clocked.tick.Goals as goal

pub invariant_of-self : goal.invariant_of-self
invariant_of-self c = tick_in_turn c.self.inside.ticks c.self.inside.world c.self.inside.rounds _ _ _ _ _ c.self.invariant c.give.ensures
