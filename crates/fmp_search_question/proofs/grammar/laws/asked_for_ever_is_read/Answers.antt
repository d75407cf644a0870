use Rattle.fmp_search_question.proofs.grammar.LastingAsked.{lasting_is_read}
use Rattle.fmp_search_question.proofs.grammar.laws.asked_for_ever_is_read.Goals as goal

pub returns : goal.returns
returns c = lasting_is_read
