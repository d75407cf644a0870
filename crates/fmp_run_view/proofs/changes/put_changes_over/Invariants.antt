use Rattle.std.proofs.Common.{drop}
use Rattle.fmp_out.specs.Putting.{Owes}
use Rattle.fmp_run_view.specs.Changes.{lines_over}
use Rattle.fmp_run_view.proofs.changes.put_changes_over.Given as goal

-- the lines so far, and those of the signals that are left
abbrev pub invariant-loop-signal : goal.invariant-loop-signal
invariant-loop-signal l =
    Owes (lines_over l.config l.all l.before l.after (drop l.signal-index l.signals)) (lines_over l.config l.all l.before l.after l.fn.signals) l.fn.out l.out
