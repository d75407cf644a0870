-- What the words of a line leave out of codes and answers, and the line with something put in there.
use Rattle.std.specs.Prelude.{ℕ, Bool, ◌&&◌, ◌||◌, is_some, List, [], ◌∷◌, ◌++◌, length, Option, None, Some, true, false, ◌==◌, if◌then◌else◌, codes}
use Rattle.std.specs.Option.{option_map_or}
use Rattle.std.specs.Str.{bytes_eq}
use Rattle.fmp_bytes.specs.Bytes.{cut_at, pieces_of, colon, equals_sign, space}
use Rattle.fmp_bytes.specs.Numerals.{number_of, unsigned_limited}
use Rattle.fmp_text.specs.Argument.{◌>>=◌}
use Rattle.fmp_trace.specs.Guess.{words_left}
use Rattle.fmp_trace_partial.specs.declared.codes_kept.AnswerKept.{AnswerKept}
use Rattle.fmp_trace_partial.specs.declared.codes_kept.AnswerKept.TheVariants as of_answer
use Rattle.fmp_trace_partial.specs.declared.codes_kept.CodeKept.{CodeKept}
use Rattle.fmp_trace_partial.specs.declared.codes_kept.CodeKept.TheVariants as of_code
use Rattle.fmp_trace_partial.specs.declared.marks.Marks.{Marks}

-- ---- codes

-- how much of a code a text writes
unfoldable pub code_kept_in : List ℕ → CodeKept
code_kept_in text =
    if bytes_eq text (codes "*") then of_code.Nothing
    else (if option_map_or (λ value. bytes_eq value (codes "*")) (cut_at colon text).1 false then of_code.NoValue
    else of_code.Whole)

-- a text that writes so much of a code, with one put in where it writes none, and with no value where it leaves that out
abbrev pub code_filled : CodeKept → List ℕ → List ℕ
code_filled of_code.Whole text = text
code_filled of_code.NoValue text = (cut_at colon text).0
code_filled of_code.Nothing text = codes "E_OK"

unfoldable pub filled_code : List ℕ → List ℕ
filled_code text = code_filled (code_kept_in text) text

-- ---- words

-- how much of an answer is written whose code is written so
abbrev pub answer_of_code : CodeKept → AnswerKept
answer_of_code of_code.Whole = of_answer.Whole
answer_of_code of_code.NoValue = of_answer.NoValue
answer_of_code of_code.Nothing = of_answer.Whole

-- how much of an answer a word writes
unfoldable pub answer_kept_in : List ℕ → AnswerKept
answer_kept_in word =
    if bytes_eq word (codes "?") then of_answer.Happened
    else (if bytes_eq word (codes "open") then of_answer.Open
    else answer_of_code (code_kept_in word))

unfoldable pub filled_answer : List ℕ → List ℕ
filled_answer word = if bytes_eq word (codes "?") || bytes_eq word (codes "open") then codes "none" else filled_code word

-- what stands behind the `=` of a word: where a colon is in it, a code follows that
unfoldable pub filled_part : List ℕ → List ℕ
filled_part text = option_map_or (λ code. (cut_at colon text).0 ++ codes ":" ++ filled_code code) (cut_at colon text).1 text

-- a word of a line, which may be its answer; one with a `=` stands after that
unfoldable pub filled_word : Bool → List ℕ → List ℕ
filled_word is_answer word =
    option_map_or (λ text. (cut_at equals_sign word).0 ++ codes "=" ++ filled_part text) (cut_at equals_sign word).1
    (if is_answer then filled_answer word else word)

-- a word has a `=`
abbrev pub is_keyed : List ℕ → Bool
is_keyed word = is_some (cut_at equals_sign word).1

-- a word tells the line's bound
unfoldable pub is_bound : List ℕ → Bool
is_bound word = is_keyed word && bytes_eq (cut_at equals_sign word).0 (codes "by")

-- a word after a blank; the bound is left out
unfoldable pub filled_led : Bool → List ℕ → List ℕ
filled_led is_answer word = if is_bound word then [] else codes " " ++ filled_word is_answer word

-- these words may follow the answer: the first of them, if there is one, has a `=`
abbrev pub ends_answer : List (List ℕ) → Bool
ends_answer [] = true
ends_answer (word ∷ words) = is_keyed word

abbrev pub filled_words : List (List ℕ) → List ℕ
filled_words [] = []
filled_words (word ∷ words) = filled_led (ends_answer words) word ++ filled_words words

-- a line, whose first word is no answer
unfoldable pub filled : List ℕ → List ℕ
filled line = (cut_at space line).0 ++ filled_words (words_left (cut_at space line).1)

-- ---- marks

-- one code more of those after the answer
unfoldable pub with_code : Marks → List ℕ → Option Marks
with_code m code = if length m.releases == 64 then None else Some (record m { releases = m.releases ++ code_kept_in code ∷ [] })

-- the number of a line, where it has 32 bits
unfoldable pub bound_in : List ℕ → Option ℕ
bound_in text = do
  number ← number_of text
  magnitude ← number.magnitude
  unsigned_limited number.negative magnitude

unfoldable pub with_bound : Marks → List ℕ → Option Marks
with_bound m text = do
  last ← bound_in text
  Some (record m { bound = Some last })

-- what stands behind this key
unfoldable pub with_part : Marks → List ℕ → List ℕ → Option Marks
with_part m key text =
    if bytes_eq key (codes "by") then with_bound m text
    else option_map_or (with_code m) (cut_at colon text).1 (Some m)

-- one word more
unfoldable pub with_mark : Marks → List ℕ → Option Marks
with_mark m word = option_map_or (with_part m (cut_at equals_sign word).0) (cut_at equals_sign word).1 (Some (record m { answer = answer_kept_in word }))

abbrev pub with_marks : Marks → List (List ℕ) → Option Marks
with_marks m [] = Some m
with_marks m (word ∷ words) = do
  next ← with_mark m word
  with_marks next words

abbrev pub no_marks : Marks
no_marks = record { answer = of_answer.Whole; releases = []; bound = None }

-- what a line leaves out, and its bound
abbrev pub marks_in : List ℕ → Option Marks
marks_in line = with_marks no_marks (pieces_of space line)
