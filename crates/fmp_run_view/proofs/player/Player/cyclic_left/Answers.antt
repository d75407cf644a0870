use Rattle.fmp_run_view.proofs.Ticked.{few_left}
use Rattle.fmp_run_view.proofs.player.Player.cyclic_left.Goals as goal

pub returns-clause-few : goal.returns-clause-few
returns-clause-few c = rw c.cyclic_left.ensures (few_left _ (rw c.machine.ensures (c.self.invariant.safe.counts.cyclics c.args.c)))
