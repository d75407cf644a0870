use Rattle.fmp_search_question.proofs.grammar.ReadSteps.{read_is_asked}
use Rattle.fmp_search_question.proofs.grammar.laws.read_questions_are_asked.Goals as goal

pub returns : goal.returns
returns c = read_is_asked
