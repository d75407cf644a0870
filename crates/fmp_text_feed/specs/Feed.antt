-- Feeds: an event text that comes in pieces, and what is ahead of it.
use Rattle.std.specs.Prelude.{◌≡◌, ◌≤◌, ℕ, ◌+◌, ◌-◌, ◌&&◌, ◌||◌, not, if◌then◌else◌, nat_lt, min, Bool, true, false, List, [], ◌∷◌, ◌++◌, length, take, drop, Option}
use Rattle.std.specs.Prelude.{Some, None, Result, Ok, Err}
use Rattle.fmp_codes.specs.declared.records.Event.{Event}
use Rattle.fmp_names.specs.Names.{NameLists}
use Rattle.fmp_text.specs.declared.fault.TextFault.{TextFault}
use Rattle.fmp_text.specs.declared.fault.TextKind.{TextKind}
use Rattle.fmp_text.specs.declared.fault.TextKind.TheVariants.{CutShort, TooMany, Memory}
use Rattle.fmp_text.specs.Limits.{most_bytes, most_events}
use Rattle.fmp_text.specs.Lines.{is_skipped}
use Rattle.fmp_text.specs.Events.{Reading, HasNoFeed, reading_from, after_line, with_events, faultless}

-- a feed: the bytes that were not read yet, the lines and events that were taken off before them, the bytes that were
-- taken in, whether bytes past the limit were dropped, whether the text has ended, and its fault
pub record Feed : Type 0 where
  pub rest : List ℕ
  pub lines : ℕ
  pub events : ℕ
  pub taken : ℕ
  pub dropped : Bool
  pub ended : Bool
  pub fault : Option TextFault

-- a feed of no bytes yet
abbrev pub new_feed : Feed
new_feed = record { rest = []; lines = 0; events = 0; taken = 0; dropped = false; ended = false; fault = None }

-- how many bytes a feed has room for at least
abbrev pub first_room : ℕ
first_room = 131072

-- a piece stands after the rest, up to the limit
abbrev pub pushed : Feed → List ℕ → Feed
pushed f piece = record f {
  rest = f.rest ++ take (most_bytes - f.taken) piece;
  taken = min most_bytes (f.taken + length piece);
  dropped = f.dropped || nat_lt most_bytes (f.taken + length piece);
}

-- the text has ended
abbrev pub closed : Feed → Feed
closed f = record f { ended = true }

-- it failed
abbrev pub failed : Feed → TextFault → Feed
failed f fault = record f { fault = Some fault }

-- want of memory, which has no line
abbrev pub want_of_memory : TextFault
want_of_memory = record { kind = Memory; line = 0 }

-- more events than a text may have, at this line
abbrev pub too_many : ℕ → TextFault
too_many line = record { kind = TooMany; line = line }

-- no event, and this fault
abbrev pub only : TextFault → Reading
only fault = record { events = []; fault = Some fault }

-- nothing comes after the end
abbrev pub coming : Bool → List ℕ → List ℕ
coming true more = []
coming false more = more

-- after a fault that fault alone
abbrev pub unless_failed : Option TextFault → Reading → Reading
unless_failed None reading = reading
unless_failed (Some fault) reading = only fault

-- what a feed gives from now on, where these bytes are still to come
unfoldable pub ahead : NameLists → Feed → List ℕ → Reading
ahead names f more = unless_failed f.fault (reading_from names (f.dropped || nat_lt most_bytes (f.taken + length (coming f.ended more))) f.lines f.events []
    (f.rest ++ take (most_bytes - f.taken) (coming f.ended more)))

-- what is wrong where no line is whole: the text went on past its limit, or it has ended and its last line is cut short
abbrev pub rest_fault : Feed → Option TextFault
rest_fault f =
    if f.dropped then Some (too_many 0)
    else (if f.ended && not (is_skipped f.rest) then Some (record { kind = CutShort; line = f.lines + 1 }) else None)

-- bytes that are left of others, of which some were taken off the front
pub record IsEndOf (all rest : List ℕ) : Type 0 where
  pub taken : ℕ
  pub is : rest ≡ drop taken all

-- the whole lines that are skipped, and the next one that is not, are taken off, and that one says this
pub record TakesOff (names : NameLists) (old : Feed) (said : Result (Option Event) TextKind) (new : Feed) : Type 0 where
  pub ahead : (more : List ℕ) → ahead names old more ≡ after_line new.lines old.events said (ahead names new more)
      (ahead names (record new { events = old.events + 1 }) more)
  pub whole : said ≡ Ok None → HasNoFeed new.rest
  pub end : IsEndOf old.rest new.rest
  pub others : new ≡ record old { rest = new.rest; lines = new.lines }

-- what a feed answers is a prefix of what was ahead of it, and the rest is ahead of the feed that is left
abbrev pub Gives : NameLists → Feed → Result (Option Event) TextFault → Feed → Type 0
Gives names old (Ok (Some event)) new = (more : List ℕ) → ahead names old more ≡ with_events (event ∷ []) (ahead names new more)
Gives names old (Ok None) new = (more : List ℕ) → ahead names old more ≡ ahead names new more
Gives names old (Err fault) new = ((more : List ℕ) → ahead names old more ≡ only fault) × (new ≡ failed new fault)

-- what is answered where an event is written into one that is there, by whether there is one
abbrev pub answered : Result Bool TextFault → Event → Result (Option Event) TextFault
answered (Ok true) event = Ok (Some event)
answered (Ok false) event = Ok None
answered (Err fault) event = Err fault

-- nothing is left of the text, neither an event nor a fault
abbrev pub IsDone : NameLists → Feed → Type 0
IsDone names f = (more : List ℕ) → ahead names f more ≡ faultless []

-- no line is whole, and no byte was dropped: a further piece is wanted, unless the text has ended
pub record IsWanting (f : Feed) : Type 0 where
  pub fine : f.fault ≡ None
  pub no_line : HasNoFeed f.rest
  pub all_taken : f.dropped ≡ false

-- no line of these bytes has more than so many, its line feed left out
abbrev pub HasLinesWithin : ℕ → List ℕ → Type 0
HasLinesWithin most bytes = (before line following : List ℕ) → bytes ≡ before ++ (line ++ following) → HasNoFeed line → length line ≤ most

-- what every feed keeps of its numbers
pub record IsFeed (rest lines events taken : ℕ) (dropped : Bool) : Type 0 where
  pub lines_fit : lines + rest ≤ taken
  pub taken_fit : taken ≤ most_bytes
  pub events_fit : events ≤ most_events
  pub dropped_full : dropped ≡ true → taken ≡ most_bytes

-- there is no line feed among the first so many bytes after a place
pub record IsSearched (bytes : List ℕ) (start searched : ℕ) : Type 0 where
  pub within : start + searched ≤ length bytes
  pub none : HasNoFeed (take searched (drop start bytes))
