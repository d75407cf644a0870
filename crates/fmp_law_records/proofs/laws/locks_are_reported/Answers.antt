use Rattle.fmp_law_records.proofs.LocksRuns.{holders_reported, locks_fit}
use Rattle.fmp_law_records.proofs.laws.locks_are_reported.Goals as goal

pub returns : goal.returns
returns c = record { report = λ c events valid on n l. holders_reported c l events valid on n; fits = locks_fit }
