use Rattle.std.proofs.Common.{◌≡◌, ◌≤◌, map, take, drop, length}
use Rattle.fmp_kernel_parts.specs.Lists.{list_at, first_of, AreDisjoint}
use Rattle.fmp_kernel_parts.specs.Tasks.{task_at}
use Rattle.fmp_kernel_parts.proofs.task_list.TaskList.list.Given as goal

-- the tasks so far are a prefix of the list, and the item is the next one
abbrev pub invariant-loop : goal.invariant-loop
invariant-loop l = record {
  prefix : l.tasks.items ≡ map task_at (take l.counter (list_at l.self-inside.links 0));
  next : l.item ≡ first_of (drop l.counter (list_at l.self-inside.links 0));
  few : length (list_at l.self-inside.links 0) ≤ 64;
  disjoint : AreDisjoint 64 l.self-inside.links;
}
