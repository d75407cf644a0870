use Rattle.std.proofs.Common.{◌≡◌, ◌-◌, ◌≤◌, [], min, drop, length, vec_len, false}
use Rattle.std.specs.Vec.{vec_capacity}
use Rattle.fmp_text.specs.Limits.{most_events}
use Rattle.fmp_text.specs.Events.{reading_from, with_events}
use Rattle.fmp_text.proofs.events.read_events.Given as goal

abbrev pub invariant-loop-found : goal.invariant-loop-found
invariant-loop-found l = record {
  within : l.used ≤ length l.text;
  lines : l.lines ≤ l.used;
  few : vec_len l.events ≤ most_events;
  counted : vec_len l.events ≤ l.used;
  room : min (length l.text) most_events ≤ vec_capacity l.events;
  reading : reading_from l.names false 0 0 [] l.text ≡ with_events l.events.items (reading_from l.names false l.lines (vec_len l.events) [] (drop l.used l.text));
}

abbrev pub decreases-loop-found : goal.decreases-loop-found
decreases-loop-found l = length l.text - l.used
