use Rattle.fmp_law_records.proofs.FlagsRuns.{flags_reported, flags_answered}
use Rattle.fmp_law_records.proofs.laws.flags_are_reported.Goals as goal

pub returns : goal.returns
returns c = record { report = λ c events valid on n p. flags_reported c p events valid on n; answered = flags_answered }
