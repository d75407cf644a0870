use Rattle.std.proofs.Common.{drop}
use Rattle.std.specs.Option.{option_copied}
use Rattle.fmp_out.specs.Putting.{Owes}
use Rattle.fmp_cli_notes.specs.Unmade.{call_line, each_line}
use Rattle.fmp_cli_notes.proofs.unmade.tell_each.Given as goal

-- what is told of those that are left
abbrev pub invariant-loop-at : goal.invariant-loop-at
invariant-loop-at g l =
    let line = call_line l.about.asked.now l.orders.config.now l.orders.scripts.now (option_copied l.met) l.turns in
    Owes (each_line line (drop l.at l.calls)) (each_line line l.calls) (g.N.Notes.told l.fn.notes) (g.N.Notes.told l.notes)
