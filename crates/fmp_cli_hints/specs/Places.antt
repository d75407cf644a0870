-- The first byte at fault of a line, and what is wanted there.
use Rattle.std.specs.Prelude.{ℕ, Bool, ◌||◌, List, [], ◌∷◌, Option, Some, None, Result, Ok, Err, ◌==◌, if◌then◌else◌}
use Rattle.fmp_bytes.specs.Bytes.{number_sign, slash}
use Rattle.fmp_cli_hints.specs.declared.wanted.Wanted.{Wanted}
use Rattle.fmp_cli_hints.specs.declared.wanted.Wanted.TheVariants as wants
use Rattle.fmp_names.specs.Names.{NameLists}
use Rattle.fmp_text.specs.declared.misfit.Wanted.{Wanted as EventWanted}
use Rattle.fmp_text.specs.declared.misfit.Wanted.TheVariants as events
use Rattle.fmp_text.specs.Places.{Place, line_event}

abbrev pub semicolon : ℕ
semicolon = 59

-- where reading stands: the rest of the line, and what is wanted at its beginning where it does not go on so
pub record Walk : Type 0 where
  pub rest : List ℕ
  pub wanted : Option Wanted

-- reading goes on with this rest
abbrev pub going : List ℕ → Walk
going rest = record { rest = rest; wanted = None }

-- reading ends before it
abbrev pub stuck : List ℕ → Wanted → Walk
stuck rest wanted = record { rest = rest; wanted = Some wanted }

-- the bytes of what would have to be computed: `<`, `>`, `|`, `+` and `~`
abbrev pub is_operator : ℕ → Bool
is_operator b = b == 60 || b == 62 || b == 124 || b == 43 || b == 126

-- what is wanted in place of a byte that may not stand in a line, which begins this text: no `;`, no comment, no `&`, nothing to be computed, or
-- another byte
abbrev pub byte_wanted : List ℕ → Wanted
byte_wanted [] = wants.LineByte
byte_wanted (b ∷ bytes) =
    if b == semicolon then wants.NoStop else (if b == number_sign || b == slash then wants.NoComment
    else (if b == 38 then wants.NoAddress else (if is_operator b then wants.NoSum else wants.LineByte)))

-- what is wanted before this rest of a line of events
abbrev pub event_wanted : List ℕ → EventWanted → Wanted
event_wanted rest events.LineByte = byte_wanted rest
event_wanted rest events.Processor = wants.Processor
event_wanted rest events.Happening = wants.Happening
event_wanted rest events.LineEnd = wants.LineEnd
event_wanted rest (events.Mark call byte) = wants.Mark call byte
event_wanted rest (events.Argument call kind) = wants.Argument call kind
event_wanted rest (events.CallEnd call) = wants.CallEnd call

-- where a line of events that is refused at this place is at fault
abbrev pub refused : Place → Walk
refused place = stuck place.rest (event_wanted place.rest place.wanted)

-- how far a line was read
abbrev pub walked : {A : Type 0} → Result A Place → Walk
walked (Ok a) = going []
walked (Err place) = refused place

-- how far a line of events is read. A carriage return at its end is no part of it
unfoldable pub event_place : NameLists → List ℕ → Walk
event_place names line = walked (line_event names line)
