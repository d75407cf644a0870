-- How a question of what stays for ever is read: moments with `for ever` after each and `or` between them, or `deadlock`.
use Rattle.std.specs.Prelude.{ℕ, ◌==◌, Bool, true, false, not, ◌&&◌, ◌||◌, nat_le, is_some, List, [], ◌∷◌, ◌++◌, length, Option, None, Some, Result, Ok, Err}
use Rattle.std.specs.Prelude.{if◌then◌else◌, codes}
use Rattle.std.specs.List.{list_all}
use Rattle.std.specs.Str.{bytes_eq}
use Rattle.fmp_bytes.specs.Bytes.{space, pieces_of}
use Rattle.fmp_codes.specs.declared.kinds.ObjectKind.TheVariants.{Task}
use Rattle.fmp_codes.specs.declared.kinds.NameKind.TheVariants.{Object}
use Rattle.fmp_names.specs.Names.{NameLists, number_of}
use Rattle.fmp_search_question.specs.declared.fault.QuestionFault.{QuestionFault}
use Rattle.fmp_search_question.specs.declared.fault.QuestionFault.TheVariants.{BadWord, BadForm, UnknownName, TooLong}
use Rattle.fmp_search_question.specs.declared.stage.Stage.{Stage}
use Rattle.fmp_search_question.specs.declared.stage.Stage.TheVariants as stage
use Rattle.fmp_search_pattern.specs.Lasting.{Lasting}
use Rattle.fmp_search_pattern.specs.Words.{is_printed}
use Rattle.fmp_search_question.specs.Resolved.{resolved_lasting}
use Rattle.fmp_search_question.specs.Waiting.{comma, waits_but}
use Rattle.fmp_search_question.specs.Reading as reading
use Rattle.fmp_search_question.specs.WordByWord.{after_words, result_then}

-- what was read so far: the complete parts, the patterns of the one that is being read, and what the words so far end with
pub record Parts : Type 0 where
  pub lasting : List Lasting
  pub draft : reading.Draft
  pub stage : Stage

abbrev pub no_parts : Parts
no_parts = record { lasting = []; draft = reading.nothing_read; stage = stage.Words }

-- nothing was read of the part
abbrev pub is_fresh : Parts → Bool
is_fresh d = not d.draft.negated && length d.draft.items == 0 && length d.draft.pattern == 0

-- `for` after the last word of a pattern
abbrev pub before_ever : Parts → Option reading.Draft → Result Parts QuestionFault
before_ever d None = Err BadForm
before_ever d (Some e) = Ok (record d { draft = e; stage = stage.For })

-- `ever` ends a part
abbrev pub with_part : Parts → Parts
with_part d = record d {
  lasting = d.lasting ++ (d.draft.items ∷ []) ∷ [];
  draft = record d.draft { items = [] };
  stage = stage.Ever;
}

abbrev pub with_draft : Parts → Result reading.Draft QuestionFault → Result Parts QuestionFault
with_draft d (Err fault) = Err fault
with_draft d (Ok e) = Ok (record d { draft = e })

-- words of other questions, and those that have no place in a pattern
abbrev pub is_elsewhere : List ℕ → Bool
is_elsewhere word =
    bytes_eq word (codes "then") || bytes_eq word (codes "without") || bytes_eq word (codes "times") || bytes_eq word (codes "or") || bytes_eq word (codes "ever")

-- a word of a part
unfoldable pub in_part : NameLists → Parts → List ℕ → Result Parts QuestionFault
in_part names d word =
    if bytes_eq word (codes "for") then before_ever d (reading.with_pattern d.draft)
    else if is_elsewhere word then Err BadForm
    else if bytes_eq word (codes "deadlock") && is_fresh d && length d.lasting == 0 then Ok (record d { lasting = waits_but names []; stage = stage.Deadlock })
    else with_draft d (reading.after_word names d.draft word)

-- each of the names after `but` is that of a task
abbrev pub is_task : NameLists → List ℕ → Bool
is_task names name = is_some (number_of names (Object Task) name)

abbrev pub are_tasks : NameLists → List ℕ → Bool
are_tasks names word = list_all (is_task names) (pieces_of comma word)

-- those after `but` may wait: some other task is left
abbrev pub with_others : Parts → List Lasting → Result Parts QuestionFault
with_others d waits = if length waits == 0 then Err BadForm else Ok (record d { lasting = waits; stage = stage.Named })

-- `ever` after `for`
abbrev pub ever_in : Parts → List ℕ → Result Parts QuestionFault
ever_in d word = if bytes_eq word (codes "ever") then Ok (with_part d) else Err BadForm

-- the word that has to stand there
abbrev pub expected : Parts → Bool → Stage → Result Parts QuestionFault
expected d is next = if is then Ok (record d { stage = next }) else Err BadForm

abbrev pub in_stage : NameLists → Parts → List ℕ → Stage → Result Parts QuestionFault
in_stage names d word stage.Words = in_part names d word
in_stage names d word stage.For = ever_in d word
in_stage names d word stage.Ever = expected d (bytes_eq word (codes "or")) stage.Words
in_stage names d word stage.Deadlock = expected d (bytes_eq word (codes "but")) stage.But
in_stage names d word stage.But =
    if are_tasks names word then with_others d (waits_but names (pieces_of comma word)) else Err UnknownName
in_stage names d word stage.Named = Err BadForm

-- one word more
unfoldable pub after_word : NameLists → Parts → List ℕ → Result Parts QuestionFault
after_word names d word = if is_printed word then in_stage names d word d.stage else Err BadWord

-- the greatest number of parts
abbrev pub most_parts : ℕ
most_parts = 64

-- a question may end there
abbrev pub may_end : Stage → Bool
may_end stage.Words = false
may_end stage.For = false
may_end stage.Ever = true
may_end stage.Deadlock = true
may_end stage.But = false
may_end stage.Named = true

abbrev pub ended : ℕ → Parts → Result (List Lasting) (QuestionFault × ℕ)
ended bytes d =
    if may_end d.stage then (if nat_le (length d.lasting) most_parts then Ok d.lasting else Err (TooLong, bytes)) else Err (BadForm, bytes)

-- the parts of a question as it is written, each pattern as one of a record, or its first fault
unfoldable pub written_in : NameLists → List ℕ → Result (List Lasting) (QuestionFault × ℕ)
written_in names text = result_then (ended (length text)) (after_words (after_word names) (length text) no_parts (pieces_of space text))

-- the parts of a question, or its first fault
unfoldable pub lasting_in : NameLists → List ℕ → Result (List Lasting) (QuestionFault × ℕ)
lasting_in names text = result_then (λ parts. Ok (resolved_lasting names parts)) (written_in names text)

-- ---- which questions are read so

-- the words of a text, two of which are `for ever`, or the first of which is `deadlock`
abbrev pub has_for_ever : Bool → List (List ℕ) → Bool
has_for_ever for [] = false
has_for_ever for (word ∷ words) = (for && bytes_eq word (codes "ever")) || has_for_ever (bytes_eq word (codes "for")) words

abbrev pub begins_so : List (List ℕ) → Bool
begins_so [] = false
begins_so (word ∷ words) = bytes_eq word (codes "deadlock")

unfoldable pub is_lasting : List ℕ → Bool
is_lasting text = begins_so (pieces_of space text) || has_for_ever false (pieces_of space text)
