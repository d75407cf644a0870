use Rattle.std.proofs.Common.{◌≡◌, ◌-◌, ◌≤◌, filter, length, take}
use Rattle.std.specs.Prelude.{nat_lt}
use Rattle.fmp_kernel_assigned.proofs.expired.objects_among.Given as goal

-- those so far
abbrev pub invariant-loop-o : goal.invariant-loop-o
invariant-loop-o l = record {
  few : length l.among.items ≤ l.o-index;
  made : l.among.items ≡ filter (λ x. nat_lt (x.number - 1) l.count) (take l.o-index l.objects);
}
