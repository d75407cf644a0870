use Rattle.fmp_show_facts.proofs.Asked.{fact_means}
use Rattle.fmp_show_facts.proofs.laws.facts_mean_their_tests.Goals as goal

pub returns : goal.returns
returns c = fact_means
