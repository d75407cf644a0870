use Rattle.fmp_law_records.proofs.effects.Received.{received_values_reported}
use Rattle.fmp_law_records.proofs.effects.laws.received_values_are_reported.Goals as goal

pub returns : goal.returns
returns c = received_values_reported
