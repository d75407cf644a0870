use Rattle.std.proofs.Common.{◌≡◌, ◌+◌, ◌≤◌, true, drop, length}
use Rattle.std.specs.Prelude.{slice_index}
use Rattle.fmp_kernel_parts.specs.Lists as links
use Rattle.fmp_time.specs.Differences.{ticks_in, entries_from, sum_of}
use Rattle.fmp_time.proofs.differences.ticks_at.Given as goal

-- the item is in what is left of the list
abbrev pub invariant-loop : goal.invariant-loop
invariant-loop l = record {
  ticks : ticks_in (entries_from (slice_index l.more) l.sum (drop l.counter (links.list_at l.links l.list))) l.item ≡ ticks_in (entries_from (slice_index l.more) 0 (links.list_at l.links l.list)) l.item;
  sum : l.sum + sum_of (slice_index l.more) (drop l.counter (links.list_at l.links l.list)) ≡ sum_of (slice_index l.more) (links.list_at l.links l.list);
  here : l.here ≡ links.first_of (drop l.counter (links.list_at l.links l.list));
  there : links.has l.item (drop l.counter (links.list_at l.links l.list)) ≡ true;
  few : length (links.list_at l.links l.list) ≤ 128;
  disjoint : links.AreDisjoint 128 l.links;
}
