use Rattle.fmp_out.specs.Putting.{Adds}
use Rattle.fmp_run_view.specs.Changes.{changes_to, lines_of}
use Rattle.fmp_run_view.proofs.changes.put_changes_of.Given as goal

-- the lines so far
abbrev pub invariant-loop-index : goal.invariant-loop-index
invariant-loop-index l = Adds (lines_of (changes_to l.config l.all l.before l.after l.signal l.index)) l.fn.out l.out
