use Rattle.fmp_search_question.proofs.grammar.LastingRead.{lasting_is_asked}
use Rattle.fmp_search_question.proofs.grammar.laws.read_for_ever_is_asked.Goals as goal

pub returns : goal.returns
returns c = lasting_is_asked
