-- How many steps of a question may have been seen in what a machine answered.
use Rattle.std.specs.Prelude.{◌≡◌, ℕ, zero, suc, ◌≤◌, ◌<◌, Bool, true, false, ◌&&◌, ◌||◌, ◌↔◌, List, length, take, Option, None, Some, slice_index_or}
use Rattle.fmp_codes.specs.declared.records.Event.{Event}
use Rattle.fmp_codes.specs.declared.records.Record.{Record}
use Rattle.fmp_setup.specs.Setup.{Setup}
use Rattle.fmp_rules.specs.Arrivals.{numbered}
use Rattle.fmp_rules.specs.Boot.{booted}
use Rattle.fmp_rules.specs.Step.{answers, replay}
use Rattle.fmp_law_lists.specs.Stands.{Stands}
use Rattle.fmp_search_pattern.specs.declared.question.Step.{Step}
use Rattle.fmp_search_pattern.specs.Sights.{Sight}
use Rattle.fmp_search_pattern.specs.Questions.{allows, seen}
use Rattle.fmp_search_orders.specs.declared.rules.Rules.{Rules}
use Rattle.fmp_search_orders.specs.Laws.{TakenAre}
use Rattle.fmp_search_shrink.specs.declared.showing.Watch.{Watch}
use Rattle.fmp_search_orders.specs.Shown.{IsMarked, Shows}

-- the records can be marked so that so many steps were seen
abbrev pub MaySee : Setup → Rules → List Step → List Record → ℕ → Type 0
MaySee c rules question h n = (marks : List Bool) × IsMarked c rules question h marks × (seen marks ≡ n)

-- these numbers of steps, and no others up to that of all steps, may have been seen
abbrev pub AreSeen : Setup → Rules → List Step → List Record → List Bool → Type 0
AreSeen c rules question h numbers = (n : ℕ) → n ≤ length question → (slice_index_or numbers n false ≡ true) ↔ MaySee c rules question h n

-- a machine that answered these events, the ticks that it has taken, and the numbers of steps that may have been seen in its answers
pub record Watches (c : Setup) (rules : Rules) (question : List Step) (given : List Event) (w : Watch) : Type 0 where
  pub stands : Stands w.kernel (replay numbered (booted c) given)
  pub processors : length w.kernel.processors ≡ c.processors
  pub taken_are : TakenAre rules w.taken (answers numbered (booted c) given)
  pub sized : length w.taken ≡ 8
  pub seen : AreSeen c rules question (answers numbered (booted c) given) w.numbers

-- one of these numbers of steps was seen, and an event may be marked so
abbrev pub goes_on : List Step → Sight → List Bool → ℕ → Bool → Bool
goes_on question sight numbers n marked = slice_index_or numbers n false && allows question n marked sight

-- so many steps may have been seen after such an event
abbrev pub is_seen : List Step → Sight → List Bool → ℕ → Bool
is_seen question sight numbers zero = goes_on question sight numbers zero false
is_seen question sight numbers (suc n) = goes_on question sight numbers (suc n) false || goes_on question sight numbers n true

-- the numbers of steps that may have been seen after an event, where these may have been seen before
abbrev pub AreNext : List Step → Sight → List Bool → List Bool → Type 0
AreNext question sight numbers next = (n : ℕ) → n ≤ length question → slice_index_or next n false ≡ is_seen question sight numbers n

-- which of them may have been seen depends on no event any more: not all steps were seen in any way that is left
abbrev pub IsSettled : List Step → List Bool → Type 0
IsSettled question numbers = (n : ℕ) → n < length question → slice_index_or numbers n false ≡ false

-- what the machine answers to the first n of these events shows the question
abbrev pub ShowsAfter : Setup → Rules → List Step → List Event → ℕ → Type 0
ShowsAfter c rules question es n = Shows c rules question (answers numbered (booted c) (take n es))

-- what it answers to so many of them does, and to fewer does not; or it never does
abbrev pub IsShownAt : Setup → Rules → List Step → List Event → Option ℕ → Type 0
IsShownAt c rules question es None = (n : ℕ) → n ≤ length es → ShowsAfter c rules question es n → ⊥
IsShownAt c rules question es (Some n) = (n ≤ length es) × ShowsAfter c rules question es n × ((k : ℕ) → k < n → ShowsAfter c rules question es k → ⊥)
