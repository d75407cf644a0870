use Rattle.std.proofs.Common.{◌-◌, ◌<◌, ◌≤◌, length, take}
use Rattle.fmp_search_orders.specs.Shown.{NoneShows}
use Rattle.fmp_run_explore.specs.Came.{SomeShows}
use Rattle.fmp_run_explore.proofs.searched.Searched.came.Given as goal

abbrev pub invariant-loop-beyond : goal.invariant-loop-beyond
invariant-loop-beyond g l = record {
  come : SomeShows l.self.config l.self.scripts l.self.rules (take l.come l.self.question);
  none : NoneShows l.self.config l.self.scripts l.self.rules (take l.beyond l.self.question);
  apart : l.come < l.beyond;
  within : l.beyond ≤ length l.self.question;
}

abbrev pub decreases-loop-beyond : goal.decreases-loop-beyond
decreases-loop-beyond g l = l.beyond - l.come
