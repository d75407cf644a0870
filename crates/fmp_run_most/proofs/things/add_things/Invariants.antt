use Rattle.std.proofs.Common.{◌≡◌, ◌++◌}
use Rattle.fmp_run_most.specs.Figures.{of_things}
use Rattle.fmp_run_most.proofs.things.add_things.Given as goal

-- the figures so far
abbrev pub invariant-loop-at : goal.invariant-loop-at
invariant-loop-at l = l.figures.items ≡ l.fn.figures.items ++ of_things l.measures l.at
