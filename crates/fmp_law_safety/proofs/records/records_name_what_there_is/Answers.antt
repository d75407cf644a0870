use Rattle.fmp_law_safety.proofs.Counted.{counts_booted}
use Rattle.fmp_law_safety.proofs.Telling.{step_names, runs_name}
use Rattle.fmp_law_safety.proofs.records.records_name_what_there_is.Goals as goal

pub returns-clause-boot : goal.returns-clause-boot
returns-clause-boot c = counts_booted

pub returns-clause-step : goal.returns-clause-step
returns-clause-step c = step_names

pub returns-clause-runs : goal.returns-clause-runs
returns-clause-runs c = runs_name
