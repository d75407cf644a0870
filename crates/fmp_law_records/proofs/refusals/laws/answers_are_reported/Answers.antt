use Rattle.fmp_law_records.proofs.refusals.Answers.{answers_reported}
use Rattle.fmp_law_records.proofs.refusals.laws.answers_are_reported.Goals as goal

pub returns : goal.returns
returns c = answers_reported
