use Rattle.fmp_search_question.proofs.grammar.LastingAsked.{one_lasting}
use Rattle.fmp_search_question.proofs.grammar.laws.for_ever_asks_one_thing.Goals as goal

pub returns : goal.returns
returns c = one_lasting
