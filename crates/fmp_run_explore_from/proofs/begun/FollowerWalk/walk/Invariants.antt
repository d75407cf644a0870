use Rattle.std.proofs.Common.{◌+◌, ◌<◌, ◌≤◌, length}
use Rattle.fmp_run_explore_from.proofs.Following.{IsSoFar}
use Rattle.fmp_run_explore_from.proofs.begun.FollowerWalk.walk.Given as goal

abbrev pub invariant-loop-choices : goal.invariant-loop-choices
invariant-loop-choices g l = record {
  so_far : IsSoFar l.config l._scripts l.fn._rules l.self.text.now (g.F.Follow.at l.walker).place l.number l.choices.items l.rest;
  room : length l.rest < (g.F.Follow.at l.walker).left;
  count : l.number + length l.rest ≤ 1 + length l.self.text.now;
}

abbrev pub decreases-loop-choices : goal.decreases-loop-choices
decreases-loop-choices g l = length l.rest
