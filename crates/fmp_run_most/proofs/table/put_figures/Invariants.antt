use Rattle.std.proofs.Common.{drop}
use Rattle.fmp_out.specs.Putting.{Owes}
use Rattle.fmp_run_most.specs.Table.{table_from}
use Rattle.fmp_run_most.proofs.table.put_figures.Given as goal

-- what is told of those that are left
abbrev pub invariant-loop-at : goal.invariant-loop-at
invariant-loop-at l = Owes (table_from l.config l.whole l.bounds l.at (drop l.at l.figures)) (table_from l.config l.whole l.bounds 0 l.figures) l.fn.out l.out
