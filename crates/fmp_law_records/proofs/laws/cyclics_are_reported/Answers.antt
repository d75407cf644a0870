use Rattle.fmp_law_records.proofs.CyclicsRuns.{cyclics_reported}
use Rattle.fmp_law_records.proofs.laws.cyclics_are_reported.Goals as goal

pub returns : goal.returns
returns c = cyclics_reported
