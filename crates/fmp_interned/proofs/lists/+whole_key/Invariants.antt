use Rattle.std.proofs.Common.{length}
use Rattle.fmp_interned.proofs.lists.+whole_key.Given as goal

abbrev pub decreases-whole_key : goal.decreases-whole_key
decreases-whole_key l = length l.numbers.now
