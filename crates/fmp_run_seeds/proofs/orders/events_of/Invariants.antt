use Rattle.std.proofs.Common.{◌≡◌, ◌++◌, length}
use Rattle.fmp_smp_histories.specs.Histories.{events_of}
use Rattle.fmp_run_seeds.proofs.orders.events_of.Given as goal

-- the events so far, and those that follow
abbrev pub invariant-loop-report : goal.invariant-loop-report
invariant-loop-report l = l.events.items ++ events_of l.replay ≡ events_of l.history.records

abbrev pub decreases-loop-report : goal.decreases-loop-report
decreases-loop-report l = length l.replay
