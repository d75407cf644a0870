use Rattle.std.proofs.Common.{◌≡◌, ◌≤◌, ◌++◌, length}
use Rattle.std.specs.Prelude.{reverse}
use Rattle.fmp_search.specs.Steps.{path_at}
use Rattle.fmp_search.proofs.paths.path_to.Given as goal

abbrev pub invariant-loop-place : goal.invariant-loop-place
invariant-loop-place l =
    (l.place ≤ length l.fn.nodes) × (path_at l.fn.nodes l.place ++ reverse l.steps.items ≡ path_at l.fn.nodes l.fn.at)

abbrev pub decreases-loop-place : goal.decreases-loop-place
decreases-loop-place l = l.place
