use Rattle.std.proofs.Common.{◌≡◌, ◌++◌, drop}
use Rattle.fmp_run_most.specs.Figures.{of_thing}
use Rattle.fmp_run_most.proofs.things.add_thing.Given as goal

-- the figures so far, and those that are left
abbrev pub invariant-loop-measure : goal.invariant-loop-measure
invariant-loop-measure l = l.figures.items ++ of_thing (drop l.measure-index l.measures) l.number ≡ l.fn.figures.items ++ of_thing l.measures l.number
