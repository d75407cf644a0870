use Rattle.fmp_smp.proofs.Turning.{turn_in_turn}
use Rattle.fmp_smp.proofs.clocked.Clocked.turn.Goals as goal

pub invariant_of-self : goal.invariant_of-self
invariant_of-self c = turn_in_turn c.self.inside.ticks c.self.inside.world c.self.inside.rounds _ _ _ _ c.self.invariant c.take_turn.ensures
