-- What a line of a text says at a place of all orders.
use Rattle.std.specs.Prelude.{◌≡◌, ◌≢◌, ℕ, false, List, ◌++◌, Some}
use Rattle.fmp_codes.specs.declared.records.Event.{Event}
use Rattle.fmp_names.specs.Names.{NameLists}
use Rattle.fmp_rules.specs.Step as machine
use Rattle.fmp_kernel_order.specs.Queues.{listed}
use Rattle.fmp_trace.specs.Fits.{FitsNames}
use Rattle.fmp_trace.specs.Lines.{line_text}
use Rattle.fmp_search.specs.declared.guided.Choice.{Choice}
use Rattle.fmp_search_orders.specs.Places.{Place, event_of, went}
use Rattle.fmp_search_orders.specs.Begun.{choice_of}
use Rattle.fmp_search_kernel.specs.Walked.{Walked}

-- an event that may happen at a place has happened, without a mark
pub record HasHappened (w : Place) (now : Walked) (event : Event) : Type 0 where
  pub step : ℕ
  pub here : event_of w step ≡ Some event
  pub place : now.place ≡ went w false (machine.step listed w.machine event)
  pub report : now.made ≡ (machine.step listed w.machine event).1

-- the text begins with line n, which tells an event that may happen at a place, and what the machine answers there
pub record GoesOnBy (names : NameLists) (n : ℕ) (w next : Place) (text rest : List ℕ) (choice : Choice) : Type 0 where
  pub event : Event
  pub step : ℕ
  pub here : event_of w step ≡ Some event
  pub place : next ≡ went w false (machine.step listed w.machine event)
  pub line : text ≡ line_text names n (machine.step listed w.machine event).1 ++ rest
  pub chosen : choice ≡ choice_of event

-- it begins with no such line
abbrev pub GoesNoFurther : NameLists → ℕ → Place → List ℕ → Type 0
GoesNoFurther names n w text =
    (event : Event) (rest : List ℕ) → event_of w (choice_of event).step ≡ Some event → FitsNames names (machine.step listed w.machine event).1
    → (machine.step listed w.machine event).1.event ≡ event → text ≢ line_text names n (machine.step listed w.machine event).1 ++ rest
