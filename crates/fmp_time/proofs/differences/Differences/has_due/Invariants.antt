use Rattle.std.proofs.Common.{◌≡◌, ℕ, ◌<◌, ◌≤◌, Some, length}
use Rattle.fmp_time.specs.Differences.{entries_at, ticks_in}
use Rattle.fmp_time.proofs.differences.Differences.has_due.Given as goal

-- all items of the lists so far have a tick left
abbrev pub invariant-loop-list : goal.invariant-loop-list
invariant-loop-list l = record {
  later : (j : ℕ) → j < l.list → (k m : ℕ) → ticks_in (entries_at l.self j) k ≡ Some m → 1 ≤ m;
  count : 1 ≤ l.list → length l.self ≡ 8;
}
