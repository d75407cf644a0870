use Rattle.fmp_law_records.proofs.refusals.Callers.{callers_reported}
use Rattle.fmp_law_records.proofs.refusals.laws.callers_are_reported.Goals as goal

pub returns : goal.returns
returns c = callers_reported
