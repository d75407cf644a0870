use Rattle.std.proofs.Common.{◌≡◌, ◌-◌, ◌≤◌, filter, length, take}
use Rattle.std.specs.Prelude.{nat_lt}
use Rattle.fmp_kernel_assigned.proofs.expired.tasks_among.Given as goal

-- those so far
abbrev pub invariant-loop-t : goal.invariant-loop-t
invariant-loop-t l = record {
  few : length l.among.items ≤ l.t-index;
  made : l.among.items ≡ filter (λ x. nat_lt (x.number - 1) l.count) (take l.t-index l.tasks);
}
