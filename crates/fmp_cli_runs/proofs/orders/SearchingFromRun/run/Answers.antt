use Rattle.std.proofs.Common.{Some, rules}
use Rattle.fmp_cli_runs.proofs.orders.SearchingFromRun.run.Goals as goal

pub returns-in-Ok : goal.returns-in-Ok
returns-in-Ok g c = (record { left = Some c.run_explore_from.new.config.rest.now; failures = c.run_explore_from.new.config.failures }, record { owes = search rules; writes = search rules; stray = search rules; long = search rules })

pub returns-in-Err : goal.returns-in-Err
returns-in-Err g c = (record { left = Some c.run_explore_from.new.config.rest.now; failures = c.run_explore_from.new.config.failures }, record { owes = search rules; writes = search rules; stray = search rules; long = search rules })
