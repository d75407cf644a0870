use Rattle.std.proofs.Common.{◌≡◌, ◌-◌, ◌<◌}
use Rattle.fmp_bytes.specs.Bytes.{pieces_of}
use Rattle.fmp_rules.specs.Boot.{booted}
use Rattle.fmp_run_events.specs.Before.{after_lines}
use Rattle.fmp_run_events.proofs.before.plain_before.Given as goal

-- the machine is in the state after the lines so far
abbrev pub invariant-loop : goal.invariant-loop
invariant-loop l = record {
  state : after_lines l.config.names (l.n - l.counter) l.plain.state (pieces_of 10 l.rest) ≡ after_lines l.config.names (l.n - 1) (booted l.config) (pieces_of 10 l.text);
  steps : l.plain.steps < l.counter;
}
