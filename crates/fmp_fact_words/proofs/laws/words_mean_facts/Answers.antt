use Rattle.fmp_fact_words.proofs.Named.{fact_read}
use Rattle.fmp_fact_words.proofs.laws.words_mean_facts.Goals as goal

pub returns : goal.returns
returns c = fact_read
