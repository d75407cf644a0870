use Rattle.fmp_law_records.proofs.counts.WaitsRuns.{waits_end_in_time, waits_end_at_last_tick}
use Rattle.fmp_law_records.proofs.counts.laws.timed_waits_end_in_time.Goals as goal

pub returns : goal.returns
returns c = record { released = waits_end_in_time; last = waits_end_at_last_tick }
