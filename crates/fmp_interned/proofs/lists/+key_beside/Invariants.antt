use Rattle.std.proofs.Common.{length}
use Rattle.fmp_interned.proofs.lists.+key_beside.Given as goal

abbrev pub decreases-key_beside : goal.decreases-key_beside
decreases-key_beside l = length l.numbers.now
