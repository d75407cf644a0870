use Rattle.std.proofs.Common.{Some, rules}
use Rattle.fmp_cli_runs.proofs.orders.SearchingMostRun.run.Goals as goal

pub returns-in-Ok : goal.returns-in-Ok
returns-in-Ok g c = (record { left = Some c.run_most.new.config.rest.now; failures = c.run_most.new.config.failures }, record { owes = search rules; writes = search rules })

pub returns-in-Err : goal.returns-in-Err
returns-in-Err g c = (record { left = Some c.run_most.new.config.rest.now; failures = c.run_most.new.config.failures }, record { owes = search rules; writes = search rules })
