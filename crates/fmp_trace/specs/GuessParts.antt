-- What the parts of a line are guessed to say: numbers, names, codes, answers, runners, releases and requests.
use Rattle.std.specs.Prelude.{ℕ, ◌^◌, ℤ, Bool, false, List, [], ◌∷◌, ◌++◌, Option, None, Some, option_map, find, nat_lt, if◌then◌else◌, codes}
use Rattle.std.specs.Option.{option_map_or, option_or}
use Rattle.std.specs.Str.{bytes_eq}
use Rattle.fmp_codes.specs.Codes as code
use Rattle.fmp_codes.specs.Numbers.{as_task, as_object}
use Rattle.fmp_codes.specs.Records.{word_of, worded}
use Rattle.fmp_codes.specs.declared.codes.Code.{Code}
use Rattle.fmp_codes.specs.declared.numbers.Proc.{Proc}
use Rattle.fmp_codes.specs.declared.numbers.Task.{Task}
use Rattle.fmp_codes.specs.declared.numbers.Object.{Object}
use Rattle.fmp_codes.specs.declared.records.Runner.{Runner}
use Rattle.fmp_codes.specs.declared.records.Runner.TheVariants as runners
use Rattle.fmp_codes.specs.declared.records.Answer.{Answer}
use Rattle.fmp_codes.specs.declared.records.Answer.TheVariants as answers
use Rattle.fmp_codes.specs.declared.records.Release.{Release}
use Rattle.fmp_bytes.specs.Bytes.{cut_at, colon}
use Rattle.fmp_bytes.specs.Numerals.{number_of, signed_of}
use Rattle.fmp_codes.specs.declared.kinds.ObjectKind.{ObjectKind}
use Rattle.fmp_codes.specs.declared.kinds.ObjectKind.TheVariants as objects
use Rattle.fmp_codes.specs.declared.kinds.NameKind.TheVariants as kinds
use Rattle.fmp_text.specs.Argument.{◌>>=◌}
use Rattle.fmp_text.specs.Lines.{processor_numbered}
use Rattle.fmp_names.specs.Names.{NameLists}
use Rattle.fmp_names.specs.Names.{number_of as number_of_name}

-- ---- numbers and names

unfoldable pub signed_in : List ℕ → Option ℤ
signed_in text = do
  number ← number_of text
  magnitude ← number.magnitude
  signed_of (2 ^ 63) number.negative magnitude

unfoldable pub task_in : NameLists → List ℕ → Option Task
task_in names word = option_map as_task (number_of_name names (kinds.Object objects.Task) word)

unfoldable pub object_in : NameLists → ObjectKind → List ℕ → Option Object
object_in names kind word = option_map as_object (number_of_name names (kinds.Object kind) word)

-- ---- answers

unfoldable pub code_in : List ℕ → Option Code
code_in word = find (λ c. bytes_eq (code.name_of c) word) code.all_codes

-- a value, where one follows
abbrev pub value_in : Option (List ℕ) → Option (Option ℤ)
value_in None = Some None
value_in (Some text) = option_map Some (signed_in text)

-- a code with its value
unfoldable pub coded_in : List ℕ → Option (Code × Option ℤ)
coded_in text = do
  c ← code_in (cut_at colon text).0
  value ← value_in (cut_at colon text).1
  Some (c, value)

unfoldable pub done_in : List ℕ → Option Answer
done_in text = do
  coded ← coded_in text
  Some (answers.Done coded.0 coded.1)

-- the answer has this word
abbrev pub has_word : Answer → List ℕ → Bool
has_word answer text = option_map_or (λ word. bytes_eq word text) (word_of answer) false

-- the answers with a word of their own
unfoldable pub word_answer : List ℕ → Option Answer
word_answer text = find (λ answer. has_word answer text) worded

unfoldable pub answer_in : List ℕ → Option Answer
answer_in text = option_or (word_answer text) (done_in text)

-- ---- the runner

unfoldable pub named_runner : NameLists → List ℕ → Option Runner
named_runner names word =
    option_or (option_map runners.Task (task_in names word))
    (option_or (option_map runners.Alarm (object_in names objects.Alarm word)) (option_map runners.Cyclic (object_in names objects.Cyclic word)))

unfoldable pub runner_in : NameLists → List ℕ → Option (Option Runner)
runner_in names word = if bytes_eq word (codes "-") then Some None else option_map Some (named_runner names word)

-- ---- what stands after the answer

unfoldable pub release_in : NameLists → List ℕ → Option Release
release_in names text = do
  rest ← (cut_at colon text).1
  task ← task_in names (cut_at colon text).0
  coded ← coded_in rest
  Some (record { task = task; code = coded.0; value = coded.1 })

unfoldable pub running_in : NameLists → List ℕ → Option (Option Task)
running_in names text = if bytes_eq text (codes "idle") then Some None else option_map Some (task_in names text)

-- a processor after one of this number
unfoldable pub request_in : NameLists → ℕ → List ℕ → Option Proc
request_in names least text = do
  p ← processor_numbered names text
  if nat_lt least p.number then Some p else None

-- the processors of these pieces, in ascending order after those made so far
abbrev pub requests_in : NameLists → ℕ → List Proc → List (List ℕ) → Option (List Proc)
requests_in names least made [] = Some made
requests_in names least made (piece ∷ pieces) = do
  p ← request_in names least piece
  requests_in names p.number (made ++ p ∷ []) pieces
