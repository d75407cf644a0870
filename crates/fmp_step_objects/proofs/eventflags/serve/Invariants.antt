use Rattle.std.proofs.Common.{◌≡◌, ◌+◌, ◌≤◌, length, drop}
use Rattle.fmp_rules.specs.Rows.{and_releases}
use Rattle.fmp_rules.specs.SyncCalls.{served}
use Rattle.fmp_step_objects.proofs.eventflags.serve.Given as goal

abbrev pub invariant-loop-t : goal.invariant-loop-t
invariant-loop-t g l = let W = g.M.Words in record {
  made :
      and_releases l.releases (served W.ordering (W.world l.machine) l.f l.bits (drop l.t-index l.tasks))
      ≡ and_releases l.fn.releases (served W.ordering (W.world l.fn.machine) l.f l.x l.tasks);
  few : length l.releases ≤ length l.fn.releases + l.t-index;
  room : W.room l.fn.machine ≤ W.room l.machine + l.t-index;
}
