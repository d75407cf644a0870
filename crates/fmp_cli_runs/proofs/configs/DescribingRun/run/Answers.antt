use Rattle.std.proofs.Common.{Some, rules}
use Rattle.fmp_cli_runs.proofs.configs.DescribingRun.run.Goals as goal

pub returns-in-Save : goal.returns-in-Save
returns-in-Save g c = (
  record { left = Some c.run_save.new.config.rest.now; failures = c.run_save.new.config.failures },
  record { owes = search rules; writes = rw c.in-Save.is (search rules) },
)

pub returns-in-Listing : goal.returns-in-Listing
returns-in-Listing g c = (
  record { left = Some c.run_list.new.config.rest.now; failures = c.run_list.new.config.failures },
  record { owes = search rules; writes = rw c.in-Listing.is (search rules) },
)
