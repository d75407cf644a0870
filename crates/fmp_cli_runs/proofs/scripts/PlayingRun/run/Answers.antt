use Rattle.std.proofs.Common.{Some, rules}
use Rattle.fmp_cli_runs.proofs.scripts.PlayingRun.run.Goals as goal

pub run_scripts-requires-sync-T : goal.run_scripts-requires-sync-T
run_scripts-requires-sync-T g c κs within = c.requires.may_run

pub returns-in-Ok : goal.returns-in-Ok
returns-in-Ok g c = (
  record { left = Some c.run_scripts.new.config.rest.now; failures = c.run_scripts.new.config.failures },
  record {
    owes = search rules;
    writes =
        record {
          whole = λ configs scripts traces.
              (c.in-Ok.end.ended, c.status.ensures, rw c.new-config.ensures.bytes.0 at (c.in-Ok.ensures.writes.whole configs scripts traces));
          passed = search rules;
          begun = search rules;
          unwritten = search rules;
        };
    no_thread_fault = search rules;
  },
)

pub returns-in-Err : goal.returns-in-Err
returns-in-Err g c = (record { left = Some c.run_scripts.new.config.rest.now; failures = c.run_scripts.new.config.failures }, record { owes = search rules; writes = search rules; no_thread_fault = search rules })
