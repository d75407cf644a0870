use Rattle.std.proofs.Common.{length}
use Rattle.fmp_config.proofs.draft.+same.Given as goal

abbrev pub decreases-same : goal.decreases-same
decreases-same l = length l.a.now
