use Rattle.fmp_law_balance.proofs.waits.Fewer.{few_releases}
use Rattle.fmp_law_balance.proofs.waits.laws.releases_are_few.Goals as goal

pub returns : goal.returns
returns c = λ c events valid on. few_releases c events valid on
