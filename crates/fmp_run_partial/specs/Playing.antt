-- The machine plays lines again, as they stand or in an order.
use Rattle.std.specs.Prelude.{◌≡◌, ℕ, ◌+◌, ◌-◌, ◌≤◌, List, [], ◌∷◌, Option, None, Some, length, slice_get, take}
use Rattle.fmp_codes.specs.declared.records.Event.{Event}
use Rattle.fmp_plain.specs.Run.{Run}
use Rattle.fmp_rules.specs.Arrivals.{State, numbered}
use Rattle.fmp_rules.specs.Boot.{booted}
use Rattle.fmp_rules.specs.Step.{replay}
use Rattle.fmp_setup.specs.Setup.{Setup}
use Rattle.fmp_text.specs.Limits.{most_bytes, most_events}

-- an event before others, if there is one
abbrev pub event_and : Option Event → List Event → List Event
event_and None others = others
event_and (Some e) others = e ∷ others

-- of lines that have these events, those of some, one after the other
abbrev pub events_at : List Event → List ℕ → List Event
events_at events [] = []
events_at events (j ∷ js) = event_and (slice_get events j) (events_at events js)

-- the events of so many lines as they stand, or those of an order
abbrev pub played : List Event → ℕ → Option (List ℕ) → List Event
played events count None = take count events
played events count (Some order) = events_at events order

-- the machine before line k: all lines before it were played, or an order of lines
abbrev pub state_before : Setup → List Event → Option (List ℕ) → ℕ → State
state_before c events order k = replay numbered (booted c) (played events (k - 1) order)

-- the machine played these events, one after the other
pub record Replayed (old : Run) (events : List Event) (new : Run) : Type 0 where
  pub state : new.state ≡ replay numbered old.state events
  pub steps : new.steps ≡ old.steps + length events

-- an order has no more lines than a text may have
abbrev pub HasFew : Option (List ℕ) → Type 0
HasFew None = Unit {0}
HasFew (Some order) = length order ≤ most_events

-- a text was judged, as it stands or by an order of its lines: neither is longer than it may be
pub record Judged (text : List ℕ) (order : Option (List ℕ)) : Type 0 where
  pub short : length text ≤ most_bytes
  pub few : HasFew order
