use Rattle.std.proofs.Common.{length}
use Rattle.fmp_fact_words.proofs.reading.+key_row.Given as goal

abbrev pub decreases-key_row : goal.decreases-key_row
decreases-key_row l = length l.rows.now
