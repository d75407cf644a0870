use Rattle.fmp_law_records.proofs.counts.HandlersRuns.{alarms_timed, cyclics_timed, handlers_fall_due}
use Rattle.fmp_law_records.proofs.counts.LastTicks.{rings_at_last_tick}
use Rattle.fmp_law_records.proofs.counts.laws.handlers_become_due_in_time.Goals as goal

pub returns : goal.returns
returns c = record { alarms = alarms_timed; cyclics = cyclics_timed; due = handlers_fall_due; last = rings_at_last_tick }
