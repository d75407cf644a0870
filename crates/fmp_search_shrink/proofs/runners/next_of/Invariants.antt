use Rattle.std.proofs.Common.{◌≡◌, ◌≤◌, ◌-◌, drop, length}
use Rattle.fmp_search_shrink.specs.Runners.{calls_by}
use Rattle.fmp_search_shrink.proofs.runners.next_of.Given as goal

-- none of the runner's calls was passed
abbrev pub invariant-loop-at : goal.invariant-loop-at
invariant-loop-at l = record {
  within : l.at ≤ length l.made;
  calls : calls_by l.runner (drop l.at l.made) ≡ calls_by l.runner (drop l.from l.made);
}

abbrev pub decreases-loop-at : goal.decreases-loop-at
decreases-loop-at l = length l.made - l.at
