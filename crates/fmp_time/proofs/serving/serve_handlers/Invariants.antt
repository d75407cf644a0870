use Rattle.std.proofs.Common.{◌≡◌, ◌≤◌, ◌-◌, ◌++◌, false, get_or, filter, map, length}
use Rattle.std.specs.List.{range_with_len}
use Rattle.fmp_time.specs.Times.{item_at}
use Rattle.fmp_time.proofs.serving.serve_handlers.Given as goal

-- the marked items so far
abbrev pub invariant-loop-k : goal.invariant-loop-k
invariant-loop-k l = record {
  items : l.items.items ≡ l.fn.items.items ++ map item_at (filter (λ k. get_or l.marks k false) (range_with_len 64 (l.k - 64)));
  few : length l.items.items ≤ l.k;
}
