use Rattle.fmp_law_records.proofs.effects.ReleasesRuns.{releases_are_reported}
use Rattle.fmp_law_records.proofs.effects.laws.releases_are_reported.Goals as goal

pub returns : goal.returns
returns c = releases_are_reported
