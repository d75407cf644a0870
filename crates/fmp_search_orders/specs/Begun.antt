-- Orders that go on from a history, the steps of the runs that do, and what an answer over these runs says.
use Rattle.std.specs.Prelude.{◌≡◌, ℕ, ◌+◌, ◌-◌, ◌*◌, ◌≤◌, List, ◌++◌, length, map}
use Rattle.fmp_codes.specs.declared.numbers.Proc.{Proc}
use Rattle.fmp_codes.specs.declared.records.Event.{Event}
use Rattle.fmp_codes.specs.declared.records.Event.TheVariants as event
use Rattle.fmp_codes.specs.declared.records.Record.{Record}
use Rattle.fmp_text_scripts.specs.Scripts.{Steps}
use Rattle.fmp_setup.specs.Setup.{Setup}
use Rattle.fmp_smp_histories.specs.Histories.{events_of}
use Rattle.fmp_search.specs.declared.guided.Choice.{Choice}
use Rattle.fmp_search.specs.Guides.{NoneWithinAlong, NoneEverAlong, IsShortestAlong}
use Rattle.fmp_search_pattern.specs.declared.question.Step.{Step}
use Rattle.fmp_search_orders.specs.declared.rules.Rules.{Rules}
use Rattle.fmp_search_orders.specs.Orders.{IsOrder}
use Rattle.fmp_search_orders.specs.Shown.{Shows}
use Rattle.fmp_search_orders.specs.Places.{origin, after, records}
use Rattle.fmp_search_orders.specs.Laws.{is_seen}

-- a history begins with the records of another
abbrev pub GoesOn : List Record → List Record → Type 0
GoesOn begun h = (rest : List Record) × (begun ++ rest ≡ h)

-- no order of at most so many records that goes on from this history shows the question
abbrev pub NoneShowsWithinFrom : Setup → List Steps → Rules → List Step → List Record → ℕ → Type 0
NoneShowsWithinFrom c scripts rules question begun n =
    (h : List Record) → IsOrder c scripts rules h → GoesOn begun h → length h ≤ n → Shows c rules question h → ⊥

-- none does, of whatever length
abbrev pub NoneShowsFrom : Setup → List Steps → Rules → List Step → List Record → Type 0
NoneShowsFrom c scripts rules question begun = (h : List Record) → IsOrder c scripts rules h → GoesOn begun h → Shows c rules question h → ⊥

-- an order that goes on from it and shows the question, and no shorter one does
pub record IsShortestShowFrom (c : Setup) (scripts : List Steps) (rules : Rules) (question : List Step) (begun h : List Record) : Type 0 where
  pub order : IsOrder c scripts rules h
  pub goes_on : GoesOn begun h
  pub shows : Shows c rules question h
  pub shortest : (g : List Record) → IsOrder c scripts rules g → GoesOn begun g → Shows c rules question g → length h ≤ length g

-- ---- the steps of an event: one without a mark, and one with it

abbrev pub choice_at : Proc → ℕ → Choice
choice_at p k = record { step = (p.number - 1) * 6 + k; other = (p.number - 1) * 6 + k + 3 }

abbrev pub choice_of : Event → Choice
choice_of (event.Call p call) = choice_at p 0
choice_of (event.Ipi p) = choice_at p 1
choice_of (event.Tick p) = choice_at p 2

abbrev pub choices_of : List Record → List Choice
choices_of h = map choice_of (events_of h)

-- ---- what an answer over the places of runs of these steps says of all orders that go on so

pub record BegunAnswer (c : Setup) (scripts : List Steps) (rules : Rules) (question : List Step) (begun : List Record) : Type 0 where
  pub never : NoneEverAlong after is_seen (origin c scripts rules question) (choices_of begun) → NoneShowsFrom c scripts rules question begun
  pub within : (n : ℕ) → NoneWithinAlong after is_seen (origin c scripts rules question) (choices_of begun) n → NoneShowsWithinFrom c scripts rules question begun n
  pub found : (steps : List ℕ) → IsShortestAlong after is_seen (origin c scripts rules question) (choices_of begun) steps →
      (h : List Record) × (length h ≡ length steps) × (h ≡ records (origin c scripts rules question) steps) × IsShortestShowFrom c scripts rules question begun h
