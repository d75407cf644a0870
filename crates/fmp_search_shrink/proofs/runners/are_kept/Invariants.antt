use Rattle.std.proofs.Common.{ℕ, ◌<◌}
use Rattle.fmp_search_shrink.specs.Runners.{IsPartOf, calls_by, runner_at}
use Rattle.fmp_search_shrink.proofs.runners.are_kept.Given as goal

-- the calls of the runners so far are kept
abbrev pub invariant-loop-number : goal.invariant-loop-number
invariant-loop-number l = (n : ℕ) → n < l.number → IsPartOf (calls_by (runner_at n) l.made) (calls_by (runner_at n) l.given)
