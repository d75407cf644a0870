use Rattle.std.proofs.Common.{◌≡◌, ◌≤◌, ◌<◌, ℕ, false}
use Rattle.fmp_search_lines.specs.Lasts.{must_at}
use Rattle.fmp_search_lines.proofs.goals.last_must.Given as goal

abbrev pub invariant-loop-end : goal.invariant-loop-end
invariant-loop-end l = record {
  few : l.end ≤ l.goal;
  free : (i : ℕ) → l.end ≤ i → i < l.goal → must_at l.musts i ≡ false;
}

abbrev pub decreases-loop-end : goal.decreases-loop-end
decreases-loop-end l = l.end
