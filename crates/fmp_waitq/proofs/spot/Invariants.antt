use Rattle.std.proofs.Common.{◌≡◌, ◌≤◌, drop, length}
use Rattle.fmp_kernel_parts.specs.Lists.{first_of}
use Rattle.fmp_waitq.specs.Kept.{spot_in, rank_in}
use Rattle.fmp_waitq.proofs.spot.Given as goal

-- what is left of the tasks gives the spot
abbrev pub invariant-loop : goal.invariant-loop
invariant-loop l = record {
  found : spot_in (rank_in l.ranks) l.rank (drop l.counter l.tasks) ≡ spot_in (rank_in l.ranks) l.rank l.tasks;
  here : l.here ≡ first_of (drop l.counter l.tasks);
  few : length l.tasks ≤ 64;
}
