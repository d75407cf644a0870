use Rattle.std.proofs.Common.{◌≡◌, ℕ, ◌<◌, ◌≤◌, [], length}
use Rattle.fmp_time.specs.Differences.{entries_at}
use Rattle.fmp_time.proofs.differences.Differences.is_empty.Given as goal

-- the lists so far have no item
abbrev pub invariant-loop-list : goal.invariant-loop-list
invariant-loop-list l = record {
  none : (j : ℕ) → j < l.list → entries_at l.self j ≡ [];
  count : 1 ≤ l.list → length l.self ≡ 8;
}
