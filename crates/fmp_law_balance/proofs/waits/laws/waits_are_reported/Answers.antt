use Rattle.fmp_law_balance.proofs.waits.Booted.{waits_reported}
use Rattle.fmp_law_balance.proofs.waits.laws.waits_are_reported.Goals as goal

pub returns : goal.returns
returns c = λ c events valid on. waits_reported c valid events on
