-- What a search for the lines before a goal says.
use Rattle.std.specs.Prelude.{◌≡◌, ℕ, ◌+◌, ◌<◌, ◌≤◌, Bool, true, false, Option}
use Rattle.fmp_search.specs.declared.exploring.Answer.{Answer}
use Rattle.fmp_search.specs.declared.exploring.Answer.TheVariants as answer
use Rattle.fmp_search_lines.specs.Orders.{FewOpen, IsBeginning, IsRight}
use Rattle.fmp_search_lines.specs.Places.{lines_of, HasMorePlaces}

-- of the lines before a goal none has to be taken from this one on, and the one before it has to be
pub record EndsMusts (must : ℕ → Bool) (goal end : ℕ) : Type 0 where
  pub few : end ≤ goal
  pub free : (i : ℕ) → end ≤ i → i < goal → must i ≡ false
  pub ends : (i : ℕ) → i + 1 ≡ end → must i ≡ true

-- what an answer says of the right orders that have all lines before a goal that have to be taken, where there is room for so many places besides the first
abbrev pub SaysGoal : {S : Type 0} → (S → ℕ → Option S) → (ℕ → ℕ) → ℕ → (ℕ → Bool) → S → ℕ → ℕ → Answer → Type 0
SaysGoal plays last count must s goal room (answer.Found steps) = IsRight plays last count must goal s (lines_of last count steps.items)
SaysGoal plays last count must s goal room answer.Never = FewOpen last count → IsBeginning plays last count must goal s → ⊥
SaysGoal plays last count must s goal room (answer.NotWithin n) = HasMorePlaces plays last count s room
SaysGoal plays last count must s goal room (answer.Wanting n) = Unit {0}
SaysGoal plays last count must s goal room (answer.Ended n) = Unit {0}
