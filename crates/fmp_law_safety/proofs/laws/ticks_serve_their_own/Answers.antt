use Rattle.fmp_rules.specs.Arrivals.{numbered}
use Rattle.fmp_law_safety.proofs.OwnTicks.{serves_its_own}
use Rattle.fmp_law_safety.proofs.laws.ticks_serve_their_own.Goals as goal

pub returns : goal.returns
returns c = λ m p s. serves_its_own numbered m p s
