use Rattle.fmp_fact_words.proofs.Named.{one_fact}
use Rattle.fmp_fact_words.proofs.laws.words_are_distinct.Goals as goal

pub returns : goal.returns
returns c = one_fact
