use Rattle.std.proofs.Common.{◌≡◌, ◌≤◌, length, drop}
use Rattle.fmp_flag.specs.Eventflags.{served}
use Rattle.fmp_flag.proofs.Served.{after}
use Rattle.fmp_flag.proofs.serving.serve.Given as goal

abbrev pub invariant-loop-task : goal.invariant-loop-task
invariant-loop-task l = record {
  made : after l.released.items (served l.flag l.wanted l.left (drop l.task-index l.tasks)) ≡ served l.fn.flag l.wanted l.bits l.tasks;
  few : length l.released.items ≤ l.task-index;
}
