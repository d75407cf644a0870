use Rattle.fmp_law_records.proofs.PatternsRuns.{patterns_reported, patterns_fit}
use Rattle.fmp_law_records.proofs.laws.patterns_are_reported.Goals as goal

pub returns : goal.returns
returns c = record { report = λ c events valid on n f. patterns_reported c f events valid on n; fits = patterns_fit }
