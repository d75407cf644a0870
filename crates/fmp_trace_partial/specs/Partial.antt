-- Lines that leave out parts of what is printed of a record.
use Rattle.std.specs.Prelude.{ℕ, ◌≤◌, ◌<◌, ◌^◌, ℤ, Bool, true, false, List, [], ◌∷◌, ◌++◌, Option, None, Some, codes, decimal, if◌then◌else◌}
use Rattle.fmp_codes.specs.Codes.{name_of}
use Rattle.fmp_codes.specs.Records.{processor_of}
use Rattle.fmp_codes.specs.declared.codes.Code.{Code}
use Rattle.fmp_codes.specs.declared.records.Answer.{Answer}
use Rattle.fmp_codes.specs.declared.records.Answer.TheVariants as answers
use Rattle.fmp_codes.specs.declared.records.Record.{Record}
use Rattle.fmp_codes.specs.declared.records.Release.{Release}
use Rattle.fmp_codes.specs.declared.records.Runner.{Runner}
use Rattle.fmp_names.specs.Names.{NameLists}
use Rattle.fmp_trace.specs.Lines.{runner_text, event_text, answer_text, code_text, task_text, lost_text, run_change_text, requests_from}
use Rattle.fmp_trace_partial.specs.declared.codes_kept.AnswerKept.{AnswerKept}
use Rattle.fmp_trace_partial.specs.declared.codes_kept.AnswerKept.TheVariants as of_answer
use Rattle.fmp_trace_partial.specs.declared.codes_kept.CodeKept.{CodeKept}
use Rattle.fmp_trace_partial.specs.declared.codes_kept.CodeKept.TheVariants as of_code
use Rattle.fmp_trace_partial.specs.declared.kept.Kept.{Kept}

-- ---- before the event

abbrev pub number_text : Bool → ℕ → List ℕ
number_text true n = decimal n ++ codes " "
number_text false n = []

abbrev pub runner_lead : NameLists → Bool → Option Runner → List ℕ
runner_lead names true runner = runner_text names runner ++ codes " "
runner_lead names false runner = []

-- what is kept before the event
abbrev pub kept_head : NameLists → ℕ → Kept → Record → List ℕ
kept_head names n kept r = number_text kept.number n ++ codes "P" ++ decimal (processor_of r.event).number ++ codes " " ++ runner_lead names kept.runner r.runner

-- ---- codes and answers

-- a code whose value is left out, and whether it has one
abbrev pub bare_code_text : Code → List ℕ
bare_code_text c = name_of c ++ codes ":*"

-- what is kept of a code with its value
abbrev pub kept_code_text : CodeKept → Code → Option ℤ → List ℕ
kept_code_text of_code.Whole c value = code_text c value
kept_code_text of_code.NoValue c value = bare_code_text c
kept_code_text of_code.Nothing c value = codes "*"

-- an answer without its value; only a code has one
abbrev pub bare_answer_text : Answer → List ℕ
bare_answer_text (answers.Done c value) = bare_code_text c
bare_answer_text other = answer_text other

-- what is kept of an answer
abbrev pub kept_answer_text : AnswerKept → Answer → List ℕ
kept_answer_text of_answer.Whole a = answer_text a
kept_answer_text of_answer.NoValue a = bare_answer_text a
kept_answer_text of_answer.Happened a = codes "?"
kept_answer_text of_answer.Open a = codes "open"

-- ---- after the answer

-- the end of a wait, with what is kept of its code
unfoldable pub kept_release_text : NameLists → CodeKept → Release → List ℕ
kept_release_text names kept r = codes " rel=" ++ task_text names r.task ++ codes ":" ++ kept_code_text kept r.code r.value

-- how much is kept of the next code: all of it beyond the list
abbrev pub next_kept : List CodeKept → CodeKept
next_kept [] = of_code.Whole
next_kept (kept ∷ others) = kept

-- how much is kept of the codes after the next one
abbrev pub later_kept : List CodeKept → List CodeKept
later_kept [] = []
later_kept (kept ∷ others) = others

-- the ends of waits, with what is kept of the code of each
abbrev pub kept_each : NameLists → List CodeKept → List Release → List ℕ
kept_each names kept [] = []
kept_each names kept (r ∷ rs) = kept_release_text names (next_kept kept) r ++ kept_each names (later_kept kept) rs

-- the same, where they are kept: none is where the list is empty
abbrev pub kept_releases_text : NameLists → List CodeKept → List Release → List ℕ
kept_releases_text names [] rs = []
kept_releases_text names (kept ∷ others) rs = kept_each names (kept ∷ others) rs

-- what is kept after the answer
unfoldable pub kept_tail : NameLists → Kept → Record → List ℕ
kept_tail names kept r =
    kept_releases_text names kept.releases r.releases ++ lost_text (if kept.lost then r.lost else None)
    ++ run_change_text names (if kept.run_change then r.run_change else None) ++ requests_from 0 (if kept.requests then r.requests else [])

-- ---- the line

-- what is kept of line n, without its bound and its line feed
unfoldable pub kept_text : NameLists → ℕ → Kept → Record → List ℕ
kept_text names n kept r = kept_head names n kept r ++ event_text names r.event ++ codes " " ++ kept_answer_text kept.answer r.answer ++ kept_tail names kept r

-- the last line whose event may take effect before this one's, where that is told
abbrev pub bound_text : Option ℕ → List ℕ
bound_text None = []
bound_text (Some last) = codes " by=" ++ decimal last

-- line n, without its line feed
unfoldable pub bounded_text : NameLists → ℕ → Kept → Option ℕ → Record → List ℕ
bounded_text names n kept bound r = kept_text names n kept r ++ bound_text bound

-- the bound of line n is no line before it, and has 32 bits
abbrev pub IsBound : ℕ → Option ℕ → Type 0
IsBound n None = Unit {0}
IsBound n (Some last) = (n ≤ last) × (last < 2 ^ 32)
