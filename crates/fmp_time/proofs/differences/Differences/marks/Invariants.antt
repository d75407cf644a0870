use Rattle.std.proofs.Common.{◌≡◌, ℕ, ◌<◌, ◌≤◌, false, get_or, take}
use Rattle.std.specs.List.{list_any}
use Rattle.fmp_kernel_parts.specs.Lists.{has}
use Rattle.fmp_time.specs.Differences.{due, items_of}
use Rattle.fmp_time.specs.Left.{AreDisjoint}
use Rattle.fmp_time.proofs.differences.Differences.marks.Given as goal

-- the items of the lists so far that have no ticks left are marked
abbrev pub invariant-loop-list : goal.invariant-loop-list
invariant-loop-list l = record {
  marks : (k : ℕ) → k < 128 → get_or l.marks k false ≡ list_any (λ es. has k (items_of (due es))) (take l.list l.self);
  disjoint : 1 ≤ l.list → AreDisjoint l.self;
}
