use Rattle.fmp_law_records.proofs.RequestsRuns.{requests_reported, signals_fit}
use Rattle.fmp_law_records.proofs.laws.requests_are_reported.Goals as goal

pub returns : goal.returns
returns c = record { report = λ c events valid on n p here. requests_reported c p here events valid on n; fits = λ c events valid on e p here. signals_fit c p here events valid on e }
