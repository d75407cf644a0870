use Rattle.std.proofs.Common.{drop}
use Rattle.fmp_out.specs.Putting.{Owes}
use Rattle.fmp_cli_notes.specs.Patterns.{behind_signs}
use Rattle.fmp_cli_notes.proofs.patterns.put_items_behind.Given as goal

-- those that are left
abbrev pub invariant-loop-at : goal.invariant-loop-at
invariant-loop-at l = Owes (behind_signs (drop l.at l.items)) (behind_signs l.items) l.fn.out l.out
