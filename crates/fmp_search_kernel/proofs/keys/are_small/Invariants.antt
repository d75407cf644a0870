use Rattle.std.proofs.Common.{◌≡◌, ◌+◌, ◌<◌, ◌≤◌, ◌^◌, ℕ, true, slice_index}
use Rattle.fmp_search_kernel.proofs.keys.are_small.Given as goal

-- those that were passed are, where none was not
abbrev pub invariant-loop-number : goal.invariant-loop-number
invariant-loop-number l = l.small ≡ true → (i : ℕ) → i < l.number-index → slice_index l.numbers i + 1 ≤ 2 ^ 31
