use Rattle.std.proofs.Common.{Some, rules}
use Rattle.fmp_cli_runs.proofs.scripts.SeekingRun.run.Goals as goal

pub returns : goal.returns
returns g c = (record { left = Some c.run_seeds.new.config.rest.now; failures = c.run_seeds.new.config.failures }, record { owes = search rules; writes = search rules; ended = search rules })
