use Rattle.fmp_rules.specs.Arrivals.{numbered}
use Rattle.fmp_law_safety.specs.Runs.{processor_of}
use Rattle.fmp_law_safety.proofs.Stepping.{numbered_tops, safe_step}
use Rattle.fmp_law_safety.proofs.Listed.{numbered_lists}
use Rattle.fmp_law_safety.proofs.Booted.{booted_safe, runs_safe}
use Rattle.fmp_law_safety.proofs.laws.runs_stay_safe.Goals as goal

pub returns-clause-boot : goal.returns-clause-boot
returns-clause-boot c = booted_safe

pub returns-clause-step : goal.returns-clause-step
returns-clause-step c = λ m event s n. (safe_step numbered numbered_tops numbered_lists m event s ((processor_of event).least, n)).safe

pub returns-clause-runs : goal.returns-clause-runs
returns-clause-runs c = runs_safe
