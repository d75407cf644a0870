-- What a line of a script text says.
use Rattle.std.specs.Prelude.{ℕ, ℤ, ◌^◌, ◌==◌, Bool, not, ◌&&◌, ◌||◌, List, Option, None, Some, Result, Ok, Err, find, if◌then◌else◌, codes}
use Rattle.std.specs.List.{list_all}
use Rattle.std.specs.Option.{ok_or}
use Rattle.std.specs.Str.{bytes_eq}
use Rattle.fmp_bytes.specs.declared.classes.Class.TheVariants.{Argument, Blank, Word, Line}
use Rattle.fmp_bytes.specs.Bytes.{is_of, prefix, after, following, colon, is_identifier}
use Rattle.fmp_bytes.specs.Numerals.{number_of, signed_of}
use Rattle.fmp_codes.specs.Codes as code
use Rattle.fmp_codes.specs.declared.codes.Code.{Code}
use Rattle.fmp_bytes.specs.Results.{◌>>=◌}
use Rattle.fmp_codes.specs.declared.kinds.NameKind.TheVariants.{Function}
use Rattle.fmp_text.specs.declared.fault.TextKind.{TextKind}
use Rattle.fmp_text.specs.declared.fault.TextKind.TheVariants.{BadByte, BadWord, NumberOutOfRange, UnknownName, WrongArguments}
use Rattle.fmp_names.specs.Names.{NameLists}
use Rattle.fmp_names.specs.Names.{number_of as number_of_name}
use Rattle.fmp_text.specs.Reading.{call_in}
use Rattle.fmp_text.specs.Lines.{is_skipped, without_return}
use Rattle.fmp_text_scripts.specs.declared.line.Said.{Said}
use Rattle.fmp_text_scripts.specs.declared.line.Said.TheVariants as said
use Rattle.fmp_text_scripts.specs.declared.ways.Pattern.{Pattern}
use Rattle.fmp_text_scripts.specs.declared.ways.Pattern.TheVariants as pattern

-- exactly one name, with blanks around
unfoldable pub name_in : List ℕ → Result (List ℕ) TextKind
name_in text =
    if is_identifier (prefix Word (after Blank text)) && list_all (is_of Blank) (after Word (after Blank text)) then Ok (prefix Word (after Blank text))
    else Err WrongArguments

-- the number of the function with this name
unfoldable pub function_in : NameLists → List ℕ → Result ℕ TextKind
function_in names text = do
  name ← name_in text
  ok_or (number_of_name names Function name) UnknownName

-- a script begins, where none is open
unfoldable pub begins : NameLists → Bool → List ℕ → Result (Option Said) TextKind
begins names inside text = if inside then Err BadWord else (function_in names text >>= λ f. Ok (Some (said.Opens f)))

-- a script ends, where one is open
unfoldable pub ends : Bool → List ℕ → Result (Option Said) TextKind
ends inside text =
    if not inside then Err BadWord
    else (if list_all (is_of Blank) text then Ok (Some said.Closes) else Err WrongArguments)

-- a step, where a script is open
unfoldable pub asks : NameLists → Bool → List ℕ → Result (Option Said) TextKind
asks names inside text = if not inside then Err BadWord else (call_in names text >>= λ call. Ok (Some (said.Asks call)))

-- the code whose name is this word
unfoldable pub code_in : List ℕ → Option Code
code_in word = find (λ c. bytes_eq (code.name_of c) word) code.all_codes

-- the number of a value
unfoldable pub value_in : List ℕ → Result ℤ TextKind
value_in text = do
  number ← ok_or (number_of text) WrongArguments
  magnitude ← if number.zero_led then Err NumberOutOfRange else ok_or number.magnitude NumberOutOfRange
  ok_or (signed_of (2 ^ 63) number.negative magnitude) NumberOutOfRange

-- `refused`, or a code
unfoldable pub pattern_of : List ℕ → Result Pattern TextKind
pattern_of word =
    if not (is_identifier word) then Err WrongArguments
    else (if bytes_eq word (codes "refused") then Ok pattern.Refused
    else (ok_or (code_in word) UnknownName >>= λ c. Ok (pattern.Coded c)))

-- a code with a value
unfoldable pub valued : List ℕ → List ℕ → Result Pattern TextKind
valued word text =
    if not (is_identifier word) then Err WrongArguments
    else (ok_or (code_in word) UnknownName >>= λ c. value_in text >>= λ v. Ok (pattern.Valued c v))

-- the words that begin other lines of a script, so that no label has them
abbrev pub is_taken : List ℕ → Bool
is_taken word =
    bytes_eq word (codes "script") || (bytes_eq word (codes "end") || (bytes_eq word (codes "ret_hdr") || (bytes_eq word (codes "on") || bytes_eq word (codes "goto"))))

-- exactly one name, which a label may have
unfoldable pub label_in : List ℕ → Result (List ℕ) TextKind
label_in text = (name_in text >>= λ name. if is_taken name then Err UnknownName else Ok name)

-- `goto`, and exactly one name
unfoldable pub goal_in : List ℕ → Result (List ℕ) TextKind
goal_in text =
    if bytes_eq (prefix Word (after Blank text)) (codes "goto") then label_in (after Word (after Blank text))
    else Err WrongArguments

-- answers, and where the script goes on after them
abbrev pub turned : Result Pattern TextKind → List ℕ → Result (Option Said) TextKind
turned answer rest = (answer >>= λ a. goal_in rest >>= λ name. Ok (Some (said.Jumps a name)))

abbrev pub turn_with : List ℕ → List ℕ → Option (List ℕ) → Result (Option Said) TextKind
turn_with word rest None = turned (pattern_of word) rest
turn_with word rest (Some text) = turned (valued word (prefix Argument text)) (after Argument text)

unfoldable pub turn_in : List ℕ → Result (Option Said) TextKind
turn_in text = turn_with (prefix Word (after Blank text)) (after Word (after Blank text)) (following colon (after Word (after Blank text)))

-- the script goes on elsewhere, where one is open
unfoldable pub turns : Bool → List ℕ → Result (Option Said) TextKind
turns inside text = if not inside then Err BadWord else turn_in text

unfoldable pub goes : Bool → List ℕ → Result (Option Said) TextKind
goes inside text = if not inside then Err BadWord else (label_in text >>= λ name. Ok (Some (said.Jumps pattern.Any name)))

-- a label, where a script is open
unfoldable pub stands : Bool → List ℕ → List ℕ → Result (Option Said) TextKind
stands inside name text =
    if not inside then Err BadWord
    else (if is_identifier name && list_all (is_of Blank) text then Ok (Some (said.Stands name)) else Err WrongArguments)

-- by what stands after the first word: a label's colon, or else it is a call
abbrev pub other_said : NameLists → Bool → List ℕ → Option (List ℕ) → Result (Option Said) TextKind
other_said names inside text None = asks names inside text
other_said names inside text (Some rest) = stands inside (prefix Word (after Blank text)) rest

-- the bytes of a line of a script text: those of an event's line, and the colon
abbrev pub may_stand : ℕ → Bool
may_stand b = is_of Line b || b == colon

abbrev pub are_line : List ℕ → Bool
are_line line = list_all may_stand line

-- a line that is not skipped, by its first word. The return of a handler is no step
unfoldable pub said_by : NameLists → Bool → List ℕ → Result (Option Said) TextKind
said_by names inside text =
    if bytes_eq (prefix Word (after Blank text)) (codes "script") then begins names inside (after Word (after Blank text))
    else (if bytes_eq (prefix Word (after Blank text)) (codes "end") then ends inside (after Word (after Blank text))
    else (if bytes_eq (prefix Word (after Blank text)) (codes "ret_hdr") then Err BadWord
    else (if bytes_eq (prefix Word (after Blank text)) (codes "on") then turns inside (after Word (after Blank text))
    else (if bytes_eq (prefix Word (after Blank text)) (codes "goto") then goes inside (after Word (after Blank text))
    else other_said names inside text (following colon (after Blank (after Word (after Blank text))))))))

-- what a whole line says, if it says anything
unfoldable pub said_in : NameLists → Bool → List ℕ → Result (Option Said) TextKind
said_in names inside line =
    if is_skipped (without_return line) then Ok None
    else (if are_line (without_return line) then said_by names inside (without_return line) else Err BadByte)
