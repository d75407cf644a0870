use Rattle.std.proofs.Common.{◌≡◌, ◌≤◌, filter, take, drop, length}
use Rattle.fmp_kernel_parts.specs.Lists.{first_of}
use Rattle.fmp_time.specs.Times.{is_marked}
use Rattle.fmp_time.proofs.serving.marked_waits.Given as goal

-- the marked waits so far, and the next wait
abbrev pub invariant-loop : goal.invariant-loop
invariant-loop l = record {
  items : l.marked.items ≡ filter (is_marked l.marks) (take l.counter l.waits);
  here : l.here ≡ first_of (drop l.counter l.waits);
  some : length l.marked.items ≤ l.counter;
  few : length l.waits ≤ 64;
}
