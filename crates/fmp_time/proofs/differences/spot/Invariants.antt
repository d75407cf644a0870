use Rattle.std.proofs.Common.{◌≡◌, ◌≤◌, drop, length}
use Rattle.std.specs.Prelude.{slice_index}
use Rattle.fmp_kernel_parts.specs.Lists as links
use Rattle.fmp_time.specs.Differences.{spot_in, rest_in}
use Rattle.fmp_time.proofs.differences.spot.Given as goal

-- what is left of the list and of the ticks gives the spot
abbrev pub invariant-loop : goal.invariant-loop
invariant-loop l = record {
  item : spot_in (slice_index l.more) l.rest (drop l.counter (links.list_at l.links l.list)) ≡ spot_in (slice_index l.more) l.ticks (links.list_at l.links l.list);
  rest : rest_in (slice_index l.more) l.rest (drop l.counter (links.list_at l.links l.list)) ≡ rest_in (slice_index l.more) l.ticks (links.list_at l.links l.list);
  here : l.here ≡ links.first_of (drop l.counter (links.list_at l.links l.list));
  few : length (links.list_at l.links l.list) ≤ 128;
  disjoint : links.AreDisjoint 128 l.links;
}
