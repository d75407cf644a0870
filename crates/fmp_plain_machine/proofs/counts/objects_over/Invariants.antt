use Rattle.std.proofs.Common.{◌≡◌, ◌≤◌, None, filter, length, map}
use Rattle.std.specs.List.{range_with_len}
use Rattle.fmp_codes.specs.Numbers.{as_object}
use Rattle.fmp_rules.specs.World.{item}
use Rattle.fmp_rules.specs.Tick.{is_over}
use Rattle.fmp_plain_machine.proofs.counts.objects_over.Given as goal

abbrev pub invariant-loop-index : goal.invariant-loop-index
invariant-loop-index l = record {
  few : length l.over.items ≤ l.index;
  made : l.over.items ≡ filter (λ o. is_over (item None l.counts o.number)) (map as_object (range_with_len 1 l.index));
}
