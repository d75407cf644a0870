use Rattle.std.proofs.Common.{drop}
use Rattle.fmp_out.specs.Putting.{Owes}
use Rattle.fmp_cli_notes.specs.Patterns.{behind_stars}
use Rattle.fmp_cli_notes.proofs.patterns.put_pieces_behind.Given as goal

-- those that are left
abbrev pub invariant-loop-at : goal.invariant-loop-at
invariant-loop-at l = Owes (behind_stars (drop l.at l.pieces)) (behind_stars l.pieces) l.fn.out l.out
