use Rattle.fmp_rules.specs.Tick.{counted_down}
use Rattle.fmp_plain_machine.proofs.object_words.PlainMachineObjects.count_down.Goals as goal

pub returns-clause-state : goal.returns-clause-state
unfolding counted_down
returns-clause-state c =
    let fell = c.count_down.ensures in
    rw (fell.timer, fell.cyclics, fell.cyclics_left, fell.alarms, fell.alarms_left, c.lower.ensures, c.records.ensures.records, ← c.self.view_is)
