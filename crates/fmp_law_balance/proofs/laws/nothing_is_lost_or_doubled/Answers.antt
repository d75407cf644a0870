use Rattle.fmp_law_safety.proofs.Booted.{runs_safe}
use Rattle.fmp_law_balance.proofs.Booted.{balanced_throughout}
use Rattle.fmp_law_balance.proofs.laws.nothing_is_lost_or_doubled.Goals as goal

pub returns : goal.returns
returns c = λ c events valid on. balanced_throughout c events valid.few (runs_safe c events valid on)
