use Rattle.fmp_run_view.proofs.Ticked.{few_left}
use Rattle.fmp_run_view.proofs.player.Player.alarm_left.Goals as goal

pub returns-clause-few : goal.returns-clause-few
returns-clause-few c = rw c.alarm_left.ensures (few_left _ (rw c.machine.ensures (c.self.invariant.safe.counts.alarms c.args.a)))
