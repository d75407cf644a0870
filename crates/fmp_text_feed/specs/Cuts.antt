-- The calls that are made on a feed, one after the other, and the text and the events that they make up.
use Rattle.std.specs.Prelude.{◌≡◌, ℕ, false, List, [], ◌∷◌, ◌++◌, Option, Some, None, Result, Ok, Err}
use Rattle.fmp_codes.specs.declared.records.Event.{Event}
use Rattle.fmp_names.specs.Names.{NameLists}
use Rattle.fmp_text.specs.declared.fault.TextFault.{TextFault}
use Rattle.fmp_text_feed.specs.Feed.{Feed, Gives, pushed, closed}

-- a call on a feed: a piece was pushed, the text was closed, or the next event was asked for, with this answer
pub data Move : Type 0 where
  Push : List ℕ → Move
  Close : Move
  Next : Result (Option Event) TextFault → Move

-- the pieces, one after the other
abbrev pub text_of : List Move → List ℕ
text_of [] = []
text_of (Push piece ∷ moves) = piece ++ text_of moves
text_of (Close ∷ moves) = text_of moves
text_of (Next answer ∷ moves) = text_of moves

-- the event that was given before others
abbrev pub given_before : Result (Option Event) TextFault → List Event → List Event
given_before (Ok (Some event)) events = event ∷ events
given_before (Ok None) events = events
given_before (Err fault) events = events

-- the events that were given
abbrev pub events_of : List Move → List Event
events_of [] = []
events_of (Push piece ∷ moves) = events_of moves
events_of (Close ∷ moves) = events_of moves
events_of (Next answer ∷ moves) = given_before answer (events_of moves)

-- these calls lead from one feed to another, each as its contract says. Memory was to be had
abbrev pub LeadsTo : NameLists → Feed → List Move → Feed → Type 0
LeadsTo names old [] new = new ≡ old
LeadsTo names old (Push piece ∷ moves) new = (old.ended ≡ false) × LeadsTo names (pushed old piece) moves new
LeadsTo names old (Close ∷ moves) new = (old.ended ≡ false) × LeadsTo names (closed old) moves new
LeadsTo names old (Next answer ∷ moves) new = (next : Feed) × Gives names old answer next × (next.ended ≡ old.ended) × LeadsTo names next moves new
