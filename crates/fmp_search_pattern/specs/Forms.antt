-- Where in the line of a record a word may stand, by the form of this line.
use Rattle.std.specs.Prelude.{ℕ, Bool, true, false, not, ◌&&◌, ◌||◌, ◌==◌, is_some, nat_lt, List, [], ◌∷◌, map, Option, Some, None, if◌then◌else◌, codes}
use Rattle.std.specs.List.{list_any}
use Rattle.std.specs.Option.{option_map_or, option_or}
use Rattle.std.specs.Str.{bytes_eq}
use Rattle.fmp_bytes.specs.Bytes.{following, close_parenthesis, colon, comma, cut_at, equals_sign, minus_sign, open_parenthesis}
use Rattle.fmp_bytes.specs.Numerals.{are_digits, is_zero_led, magnitude_of}
use Rattle.fmp_calls.specs.Table.{is_bare, kinds_of, named}
use Rattle.fmp_codes.specs.declared.kinds.ArgumentKind.{ArgumentKind}
use Rattle.fmp_codes.specs.declared.kinds.ArgumentKind.TheVariants as kinds
use Rattle.fmp_codes.specs.declared.kinds.NameKind.TheVariants as name
use Rattle.fmp_codes.specs.declared.kinds.ObjectKind.{ObjectKind}
use Rattle.fmp_codes.specs.declared.kinds.ObjectKind.TheVariants as objects
use Rattle.fmp_codes.specs.declared.calls.Call.{Call}
use Rattle.fmp_search_pattern.specs.Items.{is_code}
use Rattle.fmp_names.specs.Names.{NameLists, is_object, name_of, number_of}
use Rattle.fmp_search_pattern.specs.declared.forms.TheConstants.{WORD_SPOTS, KEY_SPOTS, TELLING}
use Rattle.fmp_search_pattern.specs.declared.spot.Spot.{Spot}
use Rattle.fmp_search_pattern.specs.declared.spot.Spot.TheVariants as spot
use Rattle.fmp_search_pattern.specs.Words.{star, is_processor}

-- the spot of the first of these rows that has the word
abbrev pub spot_in : List (List ℕ × Spot) → List ℕ → Option Spot
spot_in [] word = None
spot_in (row ∷ rows) word = if bytes_eq row.0 word then Some row.1 else spot_in rows word

abbrev pub word_rows : List (List ℕ × Spot)
word_rows = map (λ row. (row.0.now, row.1)) WORD_SPOTS

abbrev pub key_rows : List (List ℕ × Spot)
key_rows = map (λ row. (row.0.now, row.1)) KEY_SPOTS

-- a number in decimal as a record has it: without a zero that it does not need, after a `-` or not
abbrev pub is_numeral : List ℕ → Bool
is_numeral word = are_digits 10 word && not (is_zero_led word)

abbrev pub is_below_zero : List ℕ → Bool
is_below_zero digits = is_numeral digits && not (bytes_eq digits (codes "0"))

abbrev pub is_number : List ℕ → Bool
is_number word = option_map_or is_below_zero (following minus_sign word) (is_numeral word)

-- an answer to a call: a code; `E_OK` may have a value
abbrev pub code_spot : List ℕ → Option (List ℕ) → Option Spot
code_spot code (Some value) = if bytes_eq code (codes "E_OK") && is_number value then Some spot.Report else None
code_spot code None = if bytes_eq code (codes "E_OK") then Some spot.Accepted else (if is_code code then Some spot.Answer else None)

abbrev pub answer_spot : List ℕ → Option Spot
answer_spot word = code_spot (cut_at colon word).0 (cut_at colon word).1

-- a word of a record as it is, or an answer
abbrev pub plain_spot : List ℕ → Option Spot
plain_spot word = option_or (spot_in word_rows word) (answer_spot word)

-- the name of an object. One that is also a word of a record may be anywhere
abbrev pub is_one : NameLists → ObjectKind → List ℕ → Bool
is_one names kind word = is_some (number_of names (name.Object kind) word)

abbrev pub is_task : NameLists → List ℕ → Bool
is_task names word = is_one names objects.Task word

abbrev pub object_spot : NameLists → List ℕ → Spot
object_spot names word =
    if is_task names word then spot.Task
    else if is_one names objects.Cyclic word || is_one names objects.Alarm word then spot.Handler
    else spot.Object

abbrev pub name_spot : NameLists → List ℕ → Spot
name_spot names word = if is_some (plain_spot word) then spot.Anything else object_spot names word

-- the digit of a processor, above another digit
abbrev pub is_request_above : NameLists → ℕ → ℕ → Bool
is_request_above names least digit = nat_lt least digit && is_processor names.processors (80 ∷ digit ∷ [])

-- digits of processors, each above the one before it, with commas between them: what is left after a digit or a comma
abbrev pub is_request_row : NameLists → ℕ → Bool → List ℕ → Bool
is_request_row names least after_digit [] = after_digit
is_request_row names least true (b ∷ rest) = b == comma && is_request_row names least false rest
is_request_row names least false (b ∷ rest) = is_request_above names least b && is_request_row names b true rest

-- the processors to which requests go, as a record has them
abbrev pub are_requests : NameLists → List ℕ → Bool
are_requests names value = is_request_row names 0 false value

-- the end of a wait: the task's name and, after a colon, what its call answers
abbrev pub is_release : NameLists → List ℕ × Option (List ℕ) → Bool
is_release names (task, None) = false
is_release names (task, Some answer) = is_task names task && is_some (answer_spot answer)

-- what may stand after a `=`
abbrev pub is_value : NameLists → Spot → List ℕ → Bool
is_value names spot.Release value = is_release names (cut_at colon value)
is_value names spot.Requests value = are_requests names value
is_value names other value = is_number value

-- who runs after an event: a task, or `idle`
abbrev pub run_spot : NameLists → List ℕ → Option Spot
run_spot names value = if is_task names value then Some spot.Run else (if bytes_eq value (codes "idle") then Some spot.RunIdle else None)

abbrev pub valued : NameLists → List ℕ → Option Spot → Option Spot
valued names value None = None
valued names value (Some spot.Run) = run_spot names value
valued names value (Some spot) = if is_value names spot value then Some spot else None

abbrev pub key_spot : NameLists → List ℕ → List ℕ → Option Spot
key_spot names key value = valued names value (spot_in key_rows key)

-- what stands before a byte that ends a word, and nowhere else in it
abbrev pub before_end : List ℕ → Option (List ℕ) → Option (List ℕ)
before_end front (Some []) = Some front
before_end front other = None

abbrev pub ended : ℕ → List ℕ → Option (List ℕ)
ended byte word = before_end (cut_at byte word).0 (cut_at byte word).1

-- a number that no object of the kind has, so that a line has the number itself, and not a name
abbrev pub is_unnamed : NameLists → ObjectKind → List ℕ → Bool
is_unnamed names kind digits = option_map_or (λ n. not (is_some (name_of names (name.Object kind) n))) (magnitude_of 10 digits) true

abbrev pub is_stranger : NameLists → ObjectKind → List ℕ → Bool
is_stranger names kind word = option_map_or is_below_zero (following minus_sign word) (is_numeral word && is_unnamed names kind word)

-- the first argument of a call: an object of its kind, by its name where it has one. The caller is `TSK_SELF`, and not 0
abbrev pub is_first : NameLists → ArgumentKind → List ℕ → Bool
is_first names (kinds.Object objects.Task) word =
    bytes_eq word (codes "TSK_SELF") || (is_task names word || (not (bytes_eq word (codes "0")) && is_stranger names objects.Task word))
is_first names (kinds.Object kind) word = is_one names kind word || is_stranger names kind word
is_first names kind word = is_number word

abbrev pub has_first : NameLists → ArgumentKind → Option (List ℕ) → Bool
has_first names kind None = false
has_first names kind (Some word) = is_first names kind word

-- a call that tells a value wherever it answers `E_OK`, or none
abbrev pub called : Bool → Spot
called telling = if telling then spot.CalledReported else spot.Called

abbrev pub begun : Bool → Spot
begun telling = if telling then spot.BegunReported else spot.Begun

abbrev pub is_telling : List ℕ → Bool
is_telling name = list_any (λ w. bytes_eq w.now name) TELLING

-- a call, by the kinds of its arguments and what stands after its `(` in the word: all of one argument, or the first of several
abbrev pub arguments_spot : NameLists → List ArgumentKind → Bool → List ℕ → Option Spot
arguments_spot names [] telling following = if bytes_eq following (codes ")") then Some (called telling) else None
arguments_spot names (kind ∷ []) telling following = if has_first names kind (ended close_parenthesis following) then Some (called telling) else None
arguments_spot names (kind ∷ second ∷ kinds) telling following = if has_first names kind (ended comma following) then Some (begun telling) else None

abbrev pub form_spot : NameLists → List ℕ → List ℕ → Option Call → Option Spot
form_spot names word following None = None
form_spot names word following (Some call) = if is_bare call then None else arguments_spot names (kinds_of call) (is_telling word) following

abbrev pub call_spot : NameLists → List ℕ → List ℕ → Option Spot
call_spot names word following = form_spot names word following (named word)

-- an argument after the first one: a number or a mode
abbrev pub is_further : Option (List ℕ) → Bool
is_further None = false
is_further (Some word) = bytes_eq word (codes "TWF_ANDW") || bytes_eq word (codes "TWF_ORW") || is_number word

abbrev pub argument_spot : List ℕ → Option Spot
argument_spot word =
    if is_further (ended comma word) then Some spot.Argument else (if is_further (ended close_parenthesis word) then Some spot.LastArgument else None)

-- a word with a `=`, one with a `(`, or an argument
abbrev pub cut_spot : NameLists → List ℕ → List ℕ × Option (List ℕ) → List ℕ × Option (List ℕ) → Option Spot
cut_spot names word (key, Some value) call = key_spot names key value
cut_spot names word (key, None) (call, Some following) = call_spot names call following
cut_spot names word (key, None) (call, None) = argument_spot word

abbrev pub made_spot : NameLists → List ℕ → Option Spot
made_spot names word = cut_spot names word (cut_at equals_sign word) (cut_at open_parenthesis word)

-- where in the line of a record a word may stand. What has a star may be anywhere, and a number stands before `times` alone
unfoldable pub spot_of : NameLists → List ℕ → Option Spot
spot_of names word =
    if list_any (λ b. b == star) word then Some spot.Anything
    else if are_digits 10 word then Some spot.Number
    else if is_processor names.processors word then Some spot.Processor
    else if is_object names word then Some (name_spot names word)
    else option_or (plain_spot word) (made_spot names word)
