use Rattle.std.proofs.Common.{◌≡◌, ◌≤◌, ◌++◌, not, filter, map, take, drop, length}
use Rattle.fmp_kernel_parts.specs.Tasks.{AreDistinct}
use Rattle.fmp_time.specs.Times.{wait_of, is_marked}
use Rattle.fmp_time.proofs.serving.serve_waits.Given as goal

-- the marked waits so far are served, and the others so far stay before those to come
abbrev pub invariant-loop-task : goal.invariant-loop-task
invariant-loop-task l = record {
  items : l.items.items ≡ map wait_of (filter (is_marked l.marks) (take l.task-index l.task-items));
  waits : l.waits ≡ filter (λ t. not (is_marked l.marks t)) (take l.task-index l.task-items) ++ drop l.task-index l.task-items;
  few : length l.items.items ≤ l.task-index;
  all : l.task-items ≡ l.fn.waits;
  count : length l.task-items ≤ 64;
  distinct : AreDistinct l.fn.waits;
}
