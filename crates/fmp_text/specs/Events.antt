-- Reading the lines of an event text, up to the first fault.
use Rattle.std.specs.Prelude.{◌≡◌, ◌≢◌, ◌<◌, ◌≤◌, ℕ, ◌+◌, ◌⊎◌, ◌==◌, nat_lt, Bool, false, List, [], ◌∷◌, ◌++◌, length, take, drop, slice_index, Option, Some, None}
use Rattle.std.specs.Prelude.{Result, Ok, Err, if◌then◌else◌}
use Rattle.fmp_bytes.specs.Bytes.{line_feed}
use Rattle.fmp_codes.specs.declared.records.Event.{Event}
use Rattle.fmp_text.specs.Limits.{most_bytes, most_events}
use Rattle.fmp_text.specs.declared.fault.TextFault.{TextFault}
use Rattle.fmp_text.specs.declared.fault.TextKind.{TextKind}
use Rattle.fmp_text.specs.declared.fault.TextKind.TheVariants.{CutShort, TooMany, Memory}
use Rattle.fmp_text.specs.declared.scan.Scan.{Scan}
use Rattle.fmp_names.specs.Names.{NameLists}
use Rattle.fmp_text.specs.Lines.{line_event, is_skipped}

-- what a text gives: the events of its lines before the first fault, and that fault
pub record Reading : Type 0 where
  pub events : List Event
  pub fault : Option TextFault

-- want of memory, which has no line
abbrev pub IsMemory : TextFault → Type 0
IsMemory fault = (fault.kind ≡ Memory) × (fault.line ≡ 0)

-- the first fault, or want of memory
abbrev pub IsFirst : Reading → TextFault → Type 0
IsFirst reading fault = (reading.fault ≡ Some fault) ⊎ IsMemory fault

-- these events, and no fault
abbrev pub faultless : List Event → Reading
faultless events = record { events = events; fault = None }

-- no event, and this fault
abbrev pub fault_at : TextKind → ℕ → Reading
fault_at kind line = record { events = []; fault = Some (record { kind = kind; line = line }) }

-- events before those of a reading
abbrev pub with_events : List Event → Reading → Reading
with_events events reading = record { events = events ++ reading.events; fault = reading.fault }

-- an event of this line, where there is room for it after so many others, and then the rest
abbrev pub with_event : ℕ → ℕ → Event → Reading → Reading
with_event line count event rest = if nat_lt count most_events then with_events (event ∷ []) rest else fault_at TooMany line

-- a whole line after so many events, and what follows: where the line has no event, and where it has one
abbrev pub after_line : ℕ → ℕ → Result (Option Event) TextKind → Reading → Reading → Reading
after_line line count (Ok None) without following = without
after_line line count (Ok (Some event)) without following = with_event line count event following
after_line line count (Err kind) without following = fault_at kind line

-- the end of a text whose last line has no line feed. A text that went on past its limit is too long
abbrev pub at_end : Bool → ℕ → List ℕ → Reading
at_end cut line last = if cut then fault_at TooMany 0 else (if is_skipped last then faultless [] else fault_at CutShort line)

-- what bytes give after so many whole lines and events, and the beginning of a line. The text went on past its
-- limit, where it was cut
unfoldable pub reading_from : NameLists → Bool → ℕ → ℕ → List ℕ → List ℕ → Reading
reading_from names cut lines count begun [] = at_end cut (lines + 1) begun
reading_from names cut lines count begun (byte ∷ bytes) =
    if byte == line_feed then after_line (lines + 1) count (line_event names begun) (reading_from names cut (lines + 1) count [] bytes)
    (reading_from names cut (lines + 1) (count + 1) [] bytes)
    else reading_from names cut lines count (begun ++ byte ∷ []) bytes

-- what a whole text gives. One that is too long has that fault before all others
unfoldable pub reading_of : NameLists → List ℕ → Reading
reading_of names text = if nat_lt most_bytes (length text) then fault_at TooMany 0 else reading_from names false 0 0 [] text

-- what a text gives that is answered line by line. That it is too long comes after the faults of its whole lines
-- within the limit
unfoldable pub reading_by_line : NameLists → List ℕ → Reading
reading_by_line names text = reading_from names (nat_lt most_bytes (length text)) 0 0 [] (take most_bytes text)

-- there is no line feed among the bytes
abbrev pub HasNoFeed : List ℕ → Type 0
HasNoFeed bytes = (k : ℕ) → k < length bytes → slice_index bytes k ≢ line_feed

-- so many bytes end with the first line feed, and their line says this
pub record IsFirstLine (names : NameLists) (bytes : List ℕ) (said : Result (Option Event) TextKind) (used : ℕ) : Type 0 where
  pub line : List ℕ
  pub no_feed : HasNoFeed line
  pub parts : bytes ≡ line ++ (line_feed ∷ drop used bytes)
  pub some : 1 ≤ used
  pub within : used ≤ length bytes
  pub says : said ≡ line_event names line

-- however the text goes on, the bytes after so many lines give what the line that was found gives, and then what
-- follows it
abbrev pub ScansTo : NameLists → ℕ → List ℕ → Scan → Type 0
ScansTo names lines bytes scan = (cut : Bool) (count : ℕ) (more : List ℕ) → reading_from names cut lines count [] (bytes ++ more)
    ≡ after_line scan.lines count scan.said (reading_from names cut scan.lines count [] (drop scan.used bytes
    ++ more)) (reading_from names cut scan.lines (count + 1) [] (drop scan.used bytes ++ more))
