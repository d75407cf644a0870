use Rattle.fmp_show_facts.proofs.Asked.{some_mean}
use Rattle.fmp_show_facts.proofs.laws.facts_without_a_thing_are_asked_of_any.Goals as goal

pub returns : goal.returns
returns c = some_mean
