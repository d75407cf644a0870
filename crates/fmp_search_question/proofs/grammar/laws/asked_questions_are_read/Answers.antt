use Rattle.fmp_search_question.proofs.grammar.AskedSteps.{asked_is_read}
use Rattle.fmp_search_question.proofs.grammar.laws.asked_questions_are_read.Goals as goal

pub returns : goal.returns
returns c = asked_is_read
