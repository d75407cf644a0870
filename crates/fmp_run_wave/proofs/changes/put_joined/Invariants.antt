use Rattle.std.proofs.Common.{drop}
use Rattle.fmp_out.specs.Putting.{Owes}
use Rattle.fmp_run_wave.specs.Waves.{joined}
use Rattle.fmp_run_wave.proofs.changes.put_joined.Given as goal

-- what was added so far, and what is left
abbrev pub invariant-loop-byte : goal.invariant-loop-byte
invariant-loop-byte l = Owes (joined (drop l.byte-index l.text)) (joined l.fn.text) l.fn.out l.out
