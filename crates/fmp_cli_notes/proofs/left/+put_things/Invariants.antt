use Rattle.std.proofs.Common.{length}
use Rattle.fmp_cli_notes.proofs.left.+put_things.Given as goal

abbrev pub decreases-put_things : goal.decreases-put_things
decreases-put_things l = length l.things.now
