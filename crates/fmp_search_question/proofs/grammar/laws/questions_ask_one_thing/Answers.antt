use Rattle.fmp_search_question.proofs.grammar.AskedSteps.{one_question}
use Rattle.fmp_search_question.proofs.grammar.laws.questions_ask_one_thing.Goals as goal

pub returns : goal.returns
returns c = one_question
