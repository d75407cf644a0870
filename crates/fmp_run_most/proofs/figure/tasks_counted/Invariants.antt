use Rattle.std.proofs.Common.{◌≡◌, ◌≤◌}
use Rattle.fmp_run_most.specs.Figures.{tasks_to}
use Rattle.fmp_run_most.proofs.figure.tasks_counted.Given as goal

-- those so far
abbrev pub invariant-loop-index : goal.invariant-loop-index
invariant-loop-index g l = let W = g.M.Words in
    record {
      so_far : l.count ≡ tasks_to (W.world l.machine) l.figure l.index;
      few : l.count ≤ l.index;
    }
