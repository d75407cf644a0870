use Rattle.std.proofs.Common.{◌≡◌, ◌≤◌, ◌<◌, ◌+◌, ◌-◌, ℕ, true, false, length}
use Rattle.fmp_codes.specs.Records.{AreOn}
use Rattle.fmp_search_shrink.specs.Shrinking.{AnswersShow, IsLeft, KeepsTo, without}
use Rattle.fmp_search_shrink.proofs.shrinking.pass.Given as goal

-- what is left shows it, and before this place no event can go, where each was tried alone and none went
abbrev pub invariant-loop-at : goal.invariant-loop-at
invariant-loop-at l = record {
  left : IsLeft l.config l.question l.keeping l.fn.events.items l.left.items;
  on : AreOn l.config.processors l.left.items;
  most : length l.left.items ≤ length l.fn.events.items;
  fewer : l.fewer ≡ true → length l.left.items < length l.fn.events.items;
  none : l.size ≡ 1 → l.fewer ≡ false → (i : ℕ) → i < l.at → AnswersShow l.config l.question (without l.left.items i (i + 1)) → KeepsTo l.config l.keeping (without l.left.items i (i + 1)) → ⊥;
  within : l.at ≤ length l.left.items;
}

-- each time events go, or the place goes on
abbrev pub decreases-loop-at : goal.decreases-loop-at
decreases-loop-at l = length l.left.items - l.at
