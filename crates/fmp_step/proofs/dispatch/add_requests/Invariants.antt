use Rattle.std.proofs.Common.{◌≡◌, ◌≤◌, length, filter}
use Rattle.fmp_rules.specs.World.{processors_to}
use Rattle.fmp_rules.specs.Step.{is_requested}
use Rattle.fmp_step.proofs.dispatch.add_requests.Given as goal

abbrev pub invariant-loop-index : goal.invariant-loop-index
invariant-loop-index g l = let W = g.M.Words in record {
  count : length l.sent ≤ l.index;
  made : l.sent ≡ filter (is_requested W.ordering l.before (W.world l.machine) l.q) (processors_to l.index);
}
