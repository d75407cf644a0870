use Rattle.fmp_show_facts.proofs.Asked.{facts_mean}
use Rattle.fmp_show_facts.proofs.laws.several_facts_are_asked_of_one_thing.Goals as goal

pub returns : goal.returns
returns c = facts_mean
