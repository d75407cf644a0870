use Rattle.std.proofs.Common.{◌≡◌, ◌≤◌, drop, length}
use Rattle.fmp_kernel_parts.specs.Digests.{added_all, added_task}
use Rattle.fmp_kernel_parts.specs.Lists.{first_of}
use Rattle.fmp_kernel_parts.proofs.task_list.TaskListToDigest.add_to.Given as goal

-- with what is left of the tasks it becomes what it is to be
abbrev pub invariant-loop : goal.invariant-loop
invariant-loop l = record {
  sum : added_all added_task (drop l.counter l.self) l.digest ≡ added_all added_task l.self l.initial.digest;
  here : l.here ≡ first_of (drop l.counter l.self);
  few : length l.self ≤ 64;
}
