-- Reading one line of an event text, with its first fault.
use Rattle.std.specs.Prelude.{ℕ, ◌-◌, Bool, ◌&&◌, ◌||◌, List, length, take, Option, Some, None, is_some, Result, Ok, Err, nat_le, nat_lt, ◌==◌, if◌then◌else◌}
use Rattle.std.specs.Prelude.{slice_index, codes}
use Rattle.std.specs.List.{list_all}
use Rattle.std.specs.Option.{ok_or, option_map_or}
use Rattle.std.specs.Str.{bytes_eq}
use Rattle.fmp_codes.specs.Numbers.{as_proc}
use Rattle.fmp_codes.specs.declared.numbers.Proc.{Proc}
use Rattle.fmp_codes.specs.declared.records.Event.{Event}
use Rattle.fmp_codes.specs.declared.records.Event.TheVariants as events
use Rattle.fmp_bytes.specs.declared.classes.Class.TheVariants.{Blank, Word, Line}
use Rattle.fmp_bytes.specs.Bytes.{is_of, prefix, after, following, letter_p, number_sign, carriage_return}
use Rattle.fmp_bytes.specs.Numerals.{are_digits, is_zero_led, magnitude_of}
use Rattle.fmp_bytes.specs.Results.{◌>>=◌}
use Rattle.fmp_text.specs.declared.fault.TextKind.{TextKind}
use Rattle.fmp_text.specs.declared.fault.TextKind.TheVariants.{BadByte, BadWord, WrongArguments, NumberOutOfRange}
use Rattle.fmp_names.specs.Names.{NameLists}
use Rattle.fmp_text.specs.Reading.{call_at}

-- the processor of a number from 1 to how many there are
unfoldable pub in_processors : ℕ → Option ℕ → Option Proc
in_processors most None = None
in_processors most (Some number) = if nat_le 1 number && nat_le number most then Some (as_proc number) else None

-- the processor whose number these digits are
unfoldable pub processor_numbered : NameLists → List ℕ → Option Proc
processor_numbered names digits = in_processors names.processors (magnitude_of 10 digits)

-- `P` and decimal digits
unfoldable pub digits_of : List ℕ → Option (List ℕ)
digits_of word = option_map_or (λ digits. if are_digits 10 digits then Some digits else None) (following letter_p word) None

-- the processor that `P` and a number name
unfoldable pub processor_in : NameLists → List ℕ → Result Proc TextKind
processor_in names word = do
  digits ← ok_or (digits_of word) BadWord
  if is_zero_led digits then Err NumberOutOfRange else ok_or (processor_numbered names digits) NumberOutOfRange

-- an event without arguments, with what follows its word
abbrev pub alone : Event → List ℕ → Result Event TextKind
alone event rest = if list_all (is_of Blank) rest then Ok event else Err WrongArguments

-- what happens on a processor
unfoldable pub event_of : NameLists → Proc → List ℕ → Result Event TextKind
event_of names processor text =
    if bytes_eq (prefix Word text) (codes "tick") then alone (events.Tick processor) (after Word text)
    else (if bytes_eq (prefix Word text) (codes "ipi") then alone (events.Ipi processor) (after Word text)
    else (call_at names text >>= λ call. Ok (events.Call processor call)))

-- a line that begins with no blank
unfoldable pub event_at : NameLists → List ℕ → Result Event TextKind
event_at names text = do
  processor ← processor_in names (prefix Word text)
  event_of names processor (after Blank (after Word text))

-- a line that is not to be skipped
unfoldable pub event_in : NameLists → List ℕ → Result Event TextKind
event_in names line = if list_all (is_of Line) line then event_at names (after Blank line) else Err BadByte

-- a line of blanks, or a comment
unfoldable pub is_skipped : List ℕ → Bool
is_skipped line = list_all (is_of Blank) line || is_some (following number_sign (after Blank line))

-- without a carriage return at its end
unfoldable pub without_return : List ℕ → List ℕ
without_return line = if nat_lt 0 (length line) && (slice_index line (length line - 1) == carriage_return) then take (length line - 1) line else line

-- the event of a whole line, if it has one
unfoldable pub line_event : NameLists → List ℕ → Result (Option Event) TextKind
line_event names line =
    if is_skipped (without_return line) then Ok None
    else (event_in names (without_return line) >>= λ event. Ok (Some event))
