-- What a line of a partial trace leaves out, put in from what the machine answers.
use Rattle.std.specs.Prelude.{ℕ, ◌+◌, List, [], ◌∷◌, Option, None, Some, Result, Ok, Err, slice_get, unwrap_or, if◌then◌else◌}
use Rattle.std.specs.Str.{bytes_eq}
use Rattle.fmp_codes.specs.Codes.{name_of}
use Rattle.fmp_codes.specs.declared.records.Answer.{Answer}
use Rattle.fmp_codes.specs.declared.records.Answer.TheVariants.{Done}
use Rattle.fmp_codes.specs.declared.records.Record.{Record}
use Rattle.fmp_codes.specs.declared.records.Release.{Release}
use Rattle.fmp_rules.specs.Arrivals.{State, numbered}
use Rattle.fmp_rules.specs.Step.{step}
use Rattle.fmp_names.specs.Names.{NameLists}
use Rattle.fmp_text.specs.declared.fault.TextKind.{TextKind}
use Rattle.fmp_trace.specs.Lines.{line_text}
use Rattle.fmp_trace_partial.specs.Saying.{line_said}
use Rattle.fmp_trace_partial.specs.declared.codes_kept.AnswerKept.{AnswerKept}
use Rattle.fmp_trace_partial.specs.declared.codes_kept.AnswerKept.TheVariants as of_answer
use Rattle.fmp_trace_partial.specs.declared.codes_kept.CodeKept.{CodeKept}
use Rattle.fmp_trace_partial.specs.declared.codes_kept.CodeKept.TheVariants as of_code
use Rattle.fmp_trace_partial.specs.declared.telling.Said.{Said}

-- an answer without its value, where that of the machine has this code: with the machine's value
abbrev pub valued : Answer → Answer → Answer
valued (Done c v) (Done d w) = if bytes_eq (name_of c) (name_of d) then Done d w else Done c v
valued said own = said

-- an answer of which so much is written, and the machine's
abbrev pub filled_answer : AnswerKept → Answer → Answer → Answer
filled_answer of_answer.Whole said own = said
filled_answer of_answer.NoValue said own = valued said own
filled_answer of_answer.Happened said own = own
filled_answer of_answer.Open said own = own

-- the end of a wait of whose code so much is written, and that in the same place of the machine's
abbrev pub filled_by : CodeKept → Release → Release → Release
filled_by of_code.Whole said own = said
filled_by of_code.NoValue said own =
    if bytes_eq (name_of said.code) (name_of own.code) then record { task = said.task; code = said.code; value = own.value } else said
filled_by of_code.Nothing said own = record { task = said.task; code = own.code; value = own.value }

abbrev pub filled_release : CodeKept → Release → Option Release → Release
filled_release kept said None = said
filled_release kept said (Some own) = filled_by kept said own

-- the ends of waits from a place on
abbrev pub filled_from : List CodeKept → List Release → ℕ → List Release → List Release
filled_from kept own i [] = []
filled_from kept own i (r ∷ rs) = filled_release (unwrap_or (slice_get kept i) of_code.Whole) r (slice_get own i) ∷ filled_from kept own (i + 1) rs

-- all of them; where none is written, the machine's
abbrev pub filled_releases : List CodeKept → List Release → List Release → List Release
filled_releases [] said own = own
filled_releases (k ∷ kept) said own = filled_from (k ∷ kept) own 0 said

-- what a line says, and the rest as the machine answers
abbrev pub filled : Said → Record → Record
filled s r =
    record {
      event = r.event;
      runner = if s.kept.runner then s.entry.runner else r.runner;
      answer = filled_answer s.kept.answer s.entry.answer r.answer;
      releases = filled_releases s.kept.releases s.entry.releases r.releases;
      lost = if s.kept.lost then s.entry.lost else r.lost;
      run_change = if s.kept.run_change then s.entry.run_change else r.run_change;
      requests = if s.kept.requests then s.entry.requests else r.requests;
    }

-- line n, which says this, as a whole line with another number
abbrev pub filled_text : NameLists → ℕ → State → Result Said TextKind → List ℕ
filled_text names number w (Ok s) = line_text names number (filled s (step numbered w s.entry.event).1)
filled_text names number w (Err kind) = []

abbrev pub filled_line : NameLists → ℕ → ℕ → State → Option (List ℕ) → List ℕ
filled_line names n number w None = []
filled_line names n number w (Some line) = filled_text names number w (line_said names n line)
