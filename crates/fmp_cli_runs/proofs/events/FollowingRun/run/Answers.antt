use Rattle.std.proofs.Common.{Some}
use Rattle.fmp_cli_runs.proofs.events.FollowingRun.run.Goals as goal

pub returns : goal.returns
returns g c = (
  record { left = Some c.run_life.new.config.rest.now; failures = c.run_life.new.config.failures },
  record {
    moves = c.run_life.ensures.moves;
    end = c.run_life.ensures.end;
    owes = λ p. rw (c.as_bytes.ensures.value, c.new-config.ensures.bytes.0, c.new-config.ensures.bytes.2) at (c.run_life.ensures.owes p);
    writes = λ p. rw (c.as_bytes.ensures.value, c.new-config.ensures.bytes.0, c.new-config.ensures.bytes.2) at (c.run_life.ensures.writes p);
  },
)
