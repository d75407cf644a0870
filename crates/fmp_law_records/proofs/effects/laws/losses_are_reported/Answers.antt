use Rattle.fmp_law_records.proofs.effects.Losses.{losses_reported}
use Rattle.fmp_law_records.proofs.effects.laws.losses_are_reported.Goals as goal

pub returns : goal.returns
returns c = losses_reported
