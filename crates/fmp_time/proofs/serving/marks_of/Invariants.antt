use Rattle.std.proofs.Common.{◌≡◌, ◌<◌, ℕ, false, get_or, take, length}
use Rattle.fmp_kernel_parts.specs.Lists.{has}
use Rattle.fmp_time.proofs.serving.marks_of.Given as goal

-- the items so far are marked
abbrev pub invariant-loop-item : goal.invariant-loop-item
invariant-loop-item l = record {
  marks : (k : ℕ) → k < 128 → get_or l.marks k false ≡ has k (take l.item-index l.items);
  count : length l.marks ≡ 128;
}
