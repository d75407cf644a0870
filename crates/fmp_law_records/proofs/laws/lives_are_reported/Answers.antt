use Rattle.fmp_law_records.proofs.LivesRuns.{lives_reported}
use Rattle.fmp_law_records.proofs.laws.lives_are_reported.Goals as goal

pub returns : goal.returns
returns c = lives_reported
