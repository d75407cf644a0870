use Rattle.std.proofs.Common.{length}
use Rattle.fmp_fact_words.proofs.reading.+word_row.Given as goal

abbrev pub decreases-word_row : goal.decreases-word_row
decreases-word_row l = length l.rows.now
