-- When an order shows what a question asks. Its records are marked: those with a mark are the moments of the question's steps, one
-- after the other, and at one without a mark there is nothing that must not come before the step that is looked for.
use Rattle.std.specs.Prelude.{◌≡◌, ℕ, suc, ◌≤◌, Bool, true, List, take, length, Some, slice_get}
use Rattle.fmp_codes.specs.declared.records.Record.{Record}
use Rattle.fmp_text_scripts.specs.Scripts.{Steps}
use Rattle.fmp_setup.specs.Setup.{Setup}
use Rattle.fmp_smp_histories.specs.Histories.{state_after}
use Rattle.fmp_search_pattern.specs.declared.question.Step.{Step}
use Rattle.fmp_search_pattern.specs.Questions.{allows, seen}
use Rattle.fmp_search_pattern.specs.Sights.{Sight}
use Rattle.fmp_search_orders.specs.declared.rules.Rules.{Rules}
use Rattle.fmp_search_orders.specs.Orders.{counted, IsOrder}
use Rattle.fmp_search_orders.specs.Sights.{sight}

-- what is seen of the last record of a history
abbrev pub last_sight : Setup → Rules → List Record → Record → Sight
last_sight c rules h r = sight c rules (counted rules h) (state_after c h) r

-- each record is marked as the question allows it, where so many of its steps were seen before
pub record IsMarked (c : Setup) (rules : Rules) (question : List Step) (h : List Record) (marks : List Bool) : Type 0 where
  pub as_many : length marks ≡ length h
  pub allowed : (k : ℕ) (r : Record) (m : Bool) → slice_get h k ≡ Some r → slice_get marks k ≡ Some m →
      allows question (seen (take k marks)) m (last_sight c rules (take (suc k) h) r) ≡ true

-- a history shows the question: its records can be marked so that all steps were seen
abbrev pub Shows : Setup → Rules → List Step → List Record → Type 0
Shows c rules question h = (marks : List Bool) × IsMarked c rules question h marks × (seen marks ≡ length question)

-- no order of at most so many records shows the question
abbrev pub NoneShowsWithin : Setup → List Steps → Rules → List Step → ℕ → Type 0
NoneShowsWithin c scripts rules question n = (h : List Record) → IsOrder c scripts rules h → length h ≤ n → Shows c rules question h → ⊥

-- no order does, of whatever length
abbrev pub NoneShows : Setup → List Steps → Rules → List Step → Type 0
NoneShows c scripts rules question = (h : List Record) → IsOrder c scripts rules h → Shows c rules question h → ⊥

-- an order that shows the question, and no shorter one does
pub record IsShortestShow (c : Setup) (scripts : List Steps) (rules : Rules) (question : List Step) (h : List Record) : Type 0 where
  pub order : IsOrder c scripts rules h
  pub shows : Shows c rules question h
  pub shortest : (g : List Record) → IsOrder c scripts rules g → Shows c rules question g → length h ≤ length g
