use Rattle.std.proofs.Common.{◌≡◌, ◌≤◌, drop, length}
use Rattle.std.specs.Prelude.{slice_index}
use Rattle.fmp_kernel_parts.specs.Lists as links
use Rattle.fmp_time.specs.Differences.{first_adding}
use Rattle.fmp_time.proofs.differences.adding.Given as goal

-- what is left of the list has the first one that adds something
abbrev pub invariant-loop : goal.invariant-loop
invariant-loop l = record {
  value : first_adding (slice_index l.more) (drop l.counter (links.list_at l.links l.list)) ≡ first_adding (slice_index l.more) (links.list_at l.links l.list);
  here : l.here ≡ links.first_of (drop l.counter (links.list_at l.links l.list));
  few : length (links.list_at l.links l.list) ≤ 128;
  disjoint : links.AreDisjoint 128 l.links;
}
