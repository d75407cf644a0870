-- The record that a line is guessed to print. It is the right one of a printed line, and any one or none of another.
use Rattle.std.specs.Prelude.{ℕ, ◌+◌, Bool, false, List, [], ◌∷◌, ◌++◌, length, take, Option, None, Some, Result, Ok, Err, ◌==◌, if◌then◌else◌, codes}
use Rattle.std.specs.Option.{option_map_or}
use Rattle.std.specs.Str.{bytes_eq}
use Rattle.fmp_codes.specs.Records.{answer_record}
use Rattle.fmp_codes.specs.declared.numbers.Proc.{Proc}
use Rattle.fmp_codes.specs.declared.records.Event.{Event}
use Rattle.fmp_codes.specs.declared.records.Event.TheVariants as events
use Rattle.fmp_codes.specs.declared.records.Runner.{Runner}
use Rattle.fmp_codes.specs.declared.records.Record.{Record}
use Rattle.fmp_bytes.specs.declared.classes.Class.TheVariants.{Word}
use Rattle.fmp_bytes.specs.Bytes.{prefix, after, following, cut_at, pieces_of, close_parenthesis, comma, equals_sign, letter_p, space}
use Rattle.fmp_calls.specs.Table.{is_bare, named}
use Rattle.fmp_text.specs.Argument.{◌>>=◌}
use Rattle.fmp_text.specs.Lines.{processor_numbered}
use Rattle.fmp_names.specs.Names.{NameLists}
use Rattle.fmp_text.specs.Reading.{call_in}
use Rattle.fmp_trace.specs.GuessParts.{signed_in, answer_in, runner_in, release_in, running_in, requests_in}

-- ---- what stands after the answer

unfoldable pub with_release : NameLists → Record → List ℕ → Option Record
with_release names r text = do
  release ← release_in names text
  if length r.releases == 64 then None else Some (record r { releases = r.releases ++ release ∷ [] })

unfoldable pub with_lost : Record → List ℕ → Option Record
with_lost r text = do
  value ← signed_in text
  Some (record r { lost = Some value })

unfoldable pub with_run_change : NameLists → Record → List ℕ → Option Record
with_run_change names r text = do
  running ← running_in names text
  Some (record r { run_change = Some running })

unfoldable pub with_requests : NameLists → Record → List ℕ → Option Record
with_requests names r text = do
  requests ← requests_in names 0 [] (pieces_of comma text)
  Some (record r { requests = requests })

-- a record with what a word of this key says
unfoldable pub with_part : NameLists → Record → List ℕ → List ℕ → Option Record
with_part names r key text =
    if bytes_eq key (codes "rel") then with_release names r text
    else (if bytes_eq key (codes "lost") then with_lost r text
    else (if bytes_eq key (codes "run") then with_run_change names r text
    else (if bytes_eq key (codes "ipi") then with_requests names r text
    else None)))

unfoldable pub with_word : NameLists → Record → List ℕ → Option Record
with_word names r word = do
  text ← (cut_at equals_sign word).1
  with_part names r (cut_at equals_sign word).0 text

-- a record with what these words say
abbrev pub with_words : NameLists → Record → List (List ℕ) → Option Record
with_words names r [] = Some r
with_words names r (word ∷ words) = do
  next ← with_word names r word
  with_words names next words

-- ---- a line

-- the words of a text with blanks between them, where there is one
abbrev pub words_left : Option (List ℕ) → List (List ℕ)
words_left text = option_map_or (pieces_of space) text []

unfoldable pub guess_answer : NameLists → Option Runner → Event → List ℕ → Option Record
guess_answer names runner event text = do
  rest ← following space text
  answer ← answer_in (cut_at space rest).0
  with_words names (answer_record event runner answer) (words_left (cut_at space rest).1)

-- what was read without a fault
abbrev pub read : {A E : Type 0} → Result A E → Option A
read (Ok a) = Some a
read (Err e) = None

-- the word is the name of a call that is written without parentheses
unfoldable pub is_bare_name : List ℕ → Bool
is_bare_name word = option_map_or is_bare (named word) false

-- the text of a call and what follows it: a bare name alone, or all up to the first closing parenthesis
unfoldable pub cut_call : List ℕ → Option (List ℕ × List ℕ)
cut_call text =
    if is_bare_name (prefix Word text) then Some (prefix Word text, after Word text)
    else ((cut_at close_parenthesis text).1 >>= λ rest. Some (take (length (cut_at close_parenthesis text).0 + 1) text, rest))

unfoldable pub guess_call : NameLists → Option Runner → Proc → List ℕ → Option Record
guess_call names runner p text = do
  parts ← cut_call text
  call ← read (call_in names parts.0)
  guess_answer names runner (events.Call p call) parts.1

unfoldable pub guess_event : NameLists → Option Runner → Proc → List ℕ → Option Record
guess_event names runner p text =
    if bytes_eq (prefix Word text) (codes "tick") then guess_answer names runner (events.Tick p) (after Word text)
    else (if bytes_eq (prefix Word text) (codes "ipi") then guess_answer names runner (events.Ipi p) (after Word text)
    else guess_call names runner p text)

unfoldable pub guess_runner : NameLists → Proc → List ℕ → Option Record
guess_runner names p text = do
  rest ← (cut_at space text).1
  runner ← runner_in names (cut_at space text).0
  guess_event names runner p rest

-- what follows the line's number and its blank
unfoldable pub guess_processor : NameLists → List ℕ → Option Record
guess_processor names text = do
  digits ← following letter_p text
  rest ← (cut_at space digits).1
  p ← processor_numbered names (cut_at space digits).0
  guess_runner names p rest

-- the record that a line prints, whatever its number
unfoldable pub guess : NameLists → List ℕ → Option Record
guess names line = do
  rest ← (cut_at space line).1
  guess_processor names rest
