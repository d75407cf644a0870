use Rattle.std.proofs.Common.{◌≡◌, ◌+◌, ◌≤◌, ◌++◌, length}
use Rattle.std.specs.Prelude.{slice_index, slice_set}
use Rattle.fmp_kernel_parts.specs.Lists as links
use Rattle.fmp_time.specs.Differences.{zeros_of, rest_of}
use Rattle.fmp_time.proofs.differences.expire.Given as goal

-- the items so far and those of what is left are all; the other lists stay
abbrev pub invariant-loop : goal.invariant-loop
invariant-loop l = record {
  items : l.items.items ++ zeros_of (slice_index l.more) (links.list_at l.links l.list) ≡ zeros_of (slice_index l.more) (links.list_at l.initial.links l.list);
  rest : rest_of (slice_index l.more) (links.list_at l.links l.list) ≡ rest_of (slice_index l.more) (links.list_at l.initial.links l.list);
  others : l.links ≡ slice_set l.initial.links l.list (links.list_at l.links l.list);
  taken : length l.items.items ≡ l.counter;
  few : length (links.list_at l.links l.list) + l.counter ≤ 128;
  count : length l.links ≡ 8;
  here : l.here ≡ links.first_of (links.list_at l.links l.list);
  disjoint : links.AreDisjoint 128 l.links;
}
