use Rattle.std.proofs.Common.{◌≡◌, length}
use Rattle.fmp_cli_notes.specs.Words.{has_bytes}
use Rattle.fmp_cli_notes.proofs.words.has_bytes.Given as goal

-- whether they stand in what is left
abbrev pub invariant-loop-rest : goal.invariant-loop-rest
invariant-loop-rest l = has_bytes l.bytes l.rest ≡ has_bytes l.bytes l.fn.text

abbrev pub decreases-loop-rest : goal.decreases-loop-rest
decreases-loop-rest l = length l.rest
