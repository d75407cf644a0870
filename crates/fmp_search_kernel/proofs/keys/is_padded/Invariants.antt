use Rattle.std.proofs.Common.{◌≡◌, ◌<◌, ◌≤◌, ℕ, true, slice_index}
use Rattle.fmp_search_kernel.proofs.keys.is_padded.Given as goal

-- those that were passed are 0, where none was not
abbrev pub invariant-loop-at : goal.invariant-loop-at
invariant-loop-at l = l.padded ≡ true → (i : ℕ) → l.count ≤ i → i < l.at → slice_index l.numbers i ≡ 0
