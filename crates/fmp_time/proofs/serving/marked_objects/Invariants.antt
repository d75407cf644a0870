use Rattle.std.proofs.Common.{◌≡◌, ◌≤◌, filter, map, length}
use Rattle.std.specs.List.{range_with_len}
use Rattle.fmp_codes.specs.Numbers.{as_object}
use Rattle.fmp_time.specs.Times.{is_marked_from}
use Rattle.fmp_time.proofs.serving.marked_objects.Given as goal

-- the marked objects so far
abbrev pub invariant-loop-index : goal.invariant-loop-index
invariant-loop-index l = record {
  items : l.objects.items ≡ filter (is_marked_from l.place l.marks) (map as_object (range_with_len 1 l.index));
  few : length l.objects.items ≤ l.index;
}
