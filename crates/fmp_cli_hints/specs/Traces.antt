-- The first byte at fault of a trace's line. A beginning of the line fits where the reader takes the line that an ending makes of it, and the first word
-- with which the line does not fit is at fault; of a call that is so, the byte where it is refused, or where it is not what is printed.
use Rattle.std.specs.Prelude.{ℕ, Bool, true, false, ◌+◌, ◌-◌, List, [], ◌∷◌, ◌++◌, length, take, drop, Option, Some, None, Result, Ok, Err, ◌==◌, if◌then◌else◌, is_some, codes}
use Rattle.std.specs.Option.{option_map_or}
use Rattle.fmp_bytes.specs.declared.classes.Class.TheVariants.{Printed, Word}
use Rattle.fmp_bytes.specs.Bytes.{prefix, after, cut_at, pieces_of, close_parenthesis, space}
use Rattle.fmp_calls.specs.Table.{named}
use Rattle.fmp_cli_hints.specs.Places.{Walk, event_wanted, going, stuck}
use Rattle.fmp_cli_hints.specs.declared.fits.Form.{Form}
use Rattle.fmp_cli_hints.specs.declared.fits.Form.TheVariants.{Whole, Partial}
use Rattle.fmp_cli_hints.specs.declared.wanted.Wanted.{Wanted}
use Rattle.fmp_cli_hints.specs.declared.wanted.Wanted.TheVariants as wants
use Rattle.fmp_codes.specs.Numbers.{as_proc}
use Rattle.fmp_codes.specs.declared.calls.Call.{Call}
use Rattle.fmp_codes.specs.declared.records.Event.TheVariants as events
use Rattle.fmp_names.specs.Names.{NameLists}
use Rattle.fmp_text.specs.Places.{Place, call_after}
use Rattle.fmp_text.specs.Printed.{event_text}
use Rattle.fmp_text.specs.declared.fault.TextKind.{TextKind}
use Rattle.fmp_text.specs.declared.fault.TextKind.TheVariants as kinds
use Rattle.fmp_trace.specs.Reading.{line_record}
use Rattle.fmp_trace_partial.specs.Saying.{line_said}

-- ---- what fits

-- a line is read, or is one too many
abbrev pub is_taken : {A : Type 0} → Result A TextKind → Bool
is_taken (Ok a) = true
is_taken (Err kinds.TooMany) = true
is_taken (Err kind) = false

-- the reader of such a trace takes line n
abbrev pub is_line : Form → NameLists → ℕ → List ℕ → Bool
is_line Whole names n line = is_taken (line_record names n line)
is_line Partial names n line = is_taken (line_said names n line)

-- a beginning of line n fits, which this ending makes a line
unfoldable pub fits : Form → NameLists → ℕ → List ℕ → List ℕ → Bool
fits form names n beginning ending = is_line form names n (beginning ++ ending)

-- so much of a line as stands before this end of it, and so many bytes more
abbrev pub before : List ℕ → List ℕ → ℕ → List ℕ
before line text count = take (length line - length text + count) line

-- line n fits with the word, up to the next blank, that begins this end of it
unfoldable pub fits_with : Form → NameLists → ℕ → List ℕ → List ℕ → List ℕ → Bool
fits_with form names n line text ending = fits form names n (before line text (length (cut_at space text).0)) ending

-- ---- the parts of a line, each from the walk over what stands before it

-- one blank
abbrev pub after_blank : Wanted → List ℕ → Walk
after_blank wanted [] = stuck [] wanted
after_blank wanted (b ∷ bytes) = if b == space then going bytes else stuck (b ∷ bytes) wanted

unfoldable pub spaced : Wanted → Walk → Walk
spaced wanted w = if is_some w.wanted then w else after_blank wanted w.rest

-- a word
unfoldable pub word : NameLists → ℕ → List ℕ → List ℕ → Wanted → List ℕ → Walk
word names n line ending wanted text =
    if fits_with Whole names n line text ending then going (drop (length (cut_at space text).0) text) else stuck text wanted

unfoldable pub part : NameLists → ℕ → List ℕ → List ℕ → Wanted → Walk → Walk
part names n line ending wanted w = if is_some w.wanted then w else word names n line ending wanted w.rest

-- ---- the event

-- how many bytes from the first on are the same
abbrev pub agreeing : List ℕ → List ℕ → ℕ
agreeing [] others = 0
agreeing (a ∷ rest) [] = 0
agreeing (a ∷ rest) (b ∷ others) = if a == b then agreeing rest others + 1 else 0

-- all up to the first closing parenthesis
unfoldable pub call_part : List ℕ → List ℕ
call_part text = option_map_or (λ rest. take (length (cut_at close_parenthesis text).0 + 1) text) (cut_at close_parenthesis text).1 text

-- a written call that was read, but is printed otherwise, or that was refused
abbrev pub misread : NameLists → List ℕ → List ℕ → Result Call Place → Walk
misread names written text (Ok call) = stuck (drop (agreeing written (event_text names (events.Call (as_proc 1) call))) text) (wants.Printed call)
misread names written text (Err place) = stuck (drop (length written - length place.rest) text) (event_wanted place.rest place.wanted)

unfoldable pub call_place : NameLists → Call → List ℕ → List ℕ → Walk
call_place names call written text = misread names written text (call_after names call (after Word written))

-- the event is a word, or all up to a closing parenthesis
unfoldable pub event : Form → NameLists → ℕ → List ℕ → List ℕ → Walk
event form names n line text =
    if fits form names n (before line text (length (prefix Word text))) (codes " E_OK") then going (after Word text)
    else (if fits form names n (before line text (length (call_part text))) (codes " E_OK") then going (drop (length (call_part text)) text)
    else option_map_or (λ call. call_place names call (call_part text) text) (named (prefix Word text)) (stuck text wants.Happening))

-- ---- the answer, and what stands behind it

-- what is wanted in place of an answer, and of a word behind it
abbrev pub wanted_after : Form → Wanted × Wanted
wanted_after Whole = (wants.Answer, wants.Tail)
wanted_after Partial = (wants.PartAnswer, wants.PartTail)

-- these are the words of the text that is left, if one is
abbrev pub words_from : Form → NameLists → ℕ → List ℕ → Wanted → List (List ℕ) → Option (List ℕ) → Walk
words_from form names n line wanted [] text = going []
words_from form names n line wanted (first ∷ others) None = going []
words_from form names n line wanted (first ∷ others) (Some text) =
    if fits_with form names n line text [] then words_from form names n line (wanted_after form).1 others (cut_at space text).1
    else stuck text wanted

unfoldable pub words : Form → NameLists → ℕ → List ℕ → List ℕ → Wanted → Walk
words form names n line text wanted = words_from form names n line wanted (pieces_of space text) (Some text)

-- ---- a line

unfoldable pub answered : Form → NameLists → ℕ → List ℕ → Walk → Walk
answered form names n line w = if is_some w.wanted then w else words form names n line w.rest (wanted_after form).0

unfoldable pub from_event : Form → NameLists → ℕ → List ℕ → List ℕ → Walk
from_event form names n line text = answered form names n line (spaced (wanted_after form).0 (event form names n line text))

unfoldable pub headed : NameLists → ℕ → List ℕ → Walk
headed names n line =
    let numbered = part names n line (codes " P1 - tick E_OK") (wants.LineNumber n) (going line) in
    let placed = part names n line (codes " - tick E_OK") wants.Processor (spaced wants.Processor numbered) in
    spaced wants.Happening (part names n line (codes " tick E_OK") wants.Runner (spaced wants.Runner placed))

unfoldable pub line_place : NameLists → ℕ → List ℕ → Walk
line_place names n line = if is_some (headed names n line).wanted then headed names n line else from_event Whole names n line (headed names n line).rest

-- a byte that is not printed, or the carriage return that ended the line
abbrev pub unprinted : List ℕ → Walk
unprinted [] = stuck [] wants.NoReturn
unprinted (b ∷ bytes) = stuck (b ∷ bytes) wants.PrintedByte

abbrev pub byte_place : List ℕ → Walk
byte_place line = unprinted (after Printed line)

-- by the kind of the fault
unfoldable pub trace_place : NameLists → ℕ → List ℕ → TextKind → Walk
trace_place names n line kinds.BadByte = byte_place line
trace_place names n line kinds.BadWord = line_place names n line
trace_place names n line kind = going line
