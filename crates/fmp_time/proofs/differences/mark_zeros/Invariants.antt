use Rattle.std.proofs.Common.{◌≡◌, ℕ, ◌<◌, ◌≤◌, ◌||◌, false, drop, length, get_or}
use Rattle.std.specs.Prelude.{slice_index}
use Rattle.fmp_kernel_parts.specs.Lists as links
use Rattle.fmp_time.specs.Differences.{zeros_of}
use Rattle.fmp_time.proofs.differences.mark_zeros.Given as goal

-- the marks so far and the items of what is left are all
abbrev pub invariant-loop : goal.invariant-loop
invariant-loop l = record {
  marks : (k : ℕ) → k < 128 → (get_or l.marks k false || links.has k (zeros_of (slice_index l.more) (drop l.counter (links.list_at l.links l.list))))
      ≡ (get_or l.initial.marks k false || links.has k (zeros_of (slice_index l.more) (links.list_at l.links l.list)));
  count : length l.marks ≡ 128;
  here : l.here ≡ links.first_of (drop l.counter (links.list_at l.links l.list));
  few : length (links.list_at l.links l.list) ≤ 128;
  disjoint : links.AreDisjoint 128 l.links;
}
