use Rattle.std.proofs.Common.{length}
use Rattle.fmp_fact_words.proofs.speaking.+some_are_of_state.Given as goal

abbrev pub decreases-some_are_of_state : goal.decreases-some_are_of_state
decreases-some_are_of_state l = length l.words.now
