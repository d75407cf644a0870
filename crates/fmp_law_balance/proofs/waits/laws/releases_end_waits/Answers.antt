use Rattle.fmp_law_balance.proofs.waits.Booted.{releases_fit}
use Rattle.fmp_law_balance.proofs.waits.laws.releases_end_waits.Goals as goal

pub returns : goal.returns
returns c = λ c events valid on. releases_fit c valid events on
