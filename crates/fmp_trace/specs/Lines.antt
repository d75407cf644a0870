-- believed: see docs/PROOF.md, "What has to be believed"
-- The text of a trace as a function of its records.
use Rattle.std.specs.Prelude.{ℕ, zero, suc, ◌+◌, ℤ, List, [], ◌∷◌, ◌++◌, Option, Some, None, unwrap_or, codes, decimal}
use Rattle.std.specs.Fmt.{signed_decimal}
use Rattle.fmp_codes.specs.Codes as code
use Rattle.fmp_codes.specs.Records.{processor_of, word_of}
use Rattle.fmp_codes.specs.declared.codes.Code.{Code}
use Rattle.fmp_codes.specs.declared.numbers.Proc.{Proc}
use Rattle.fmp_codes.specs.declared.numbers.Task.{Task}
use Rattle.fmp_codes.specs.declared.records.Runner.{Runner}
use Rattle.fmp_codes.specs.declared.records.Runner.TheVariants as runners
use Rattle.fmp_codes.specs.declared.records.Answer.{Answer}
use Rattle.fmp_codes.specs.declared.records.Answer.TheVariants as answers
use Rattle.fmp_codes.specs.declared.records.Release.{Release}
use Rattle.fmp_codes.specs.declared.records.Record.{Record}
use Rattle.fmp_codes.specs.declared.kinds.ObjectKind.TheVariants as objects
use Rattle.fmp_names.specs.Names.{NameLists}
use Rattle.fmp_trace.specs.Values.{named}
pub use Rattle.fmp_text.specs.Printed.{event_text}

abbrev pub task_text : NameLists → Task → List ℕ
task_text lists t = named lists objects.Task t.number

abbrev pub runner_text : NameLists → Option Runner → List ℕ
runner_text lists None = codes "-"
runner_text lists (Some (runners.Task t)) = task_text lists t
runner_text lists (Some (runners.Alarm a)) = named lists objects.Alarm a.number
runner_text lists (Some (runners.Cyclic c)) = named lists objects.Cyclic c.number

-- a value after a code
abbrev pub after_code : Option ℤ → List ℕ
after_code None = []
after_code (Some v) = codes ":" ++ signed_decimal v

-- a code, with its value if it has one
unfoldable pub code_text : Code → Option ℤ → List ℕ
code_text c v = code.name_of c ++ after_code v

-- what a call returned
abbrev pub returned_text : Answer → List ℕ
returned_text (answers.Done c v) = code_text c v
returned_text _ = []

-- the answer's word, or what the call returned
abbrev pub answer_text : Answer → List ℕ
answer_text answer = unwrap_or (word_of answer) (returned_text answer)

-- the end of a wait
unfoldable pub release_text : NameLists → Release → List ℕ
release_text lists r = codes " rel=" ++ task_text lists r.task ++ codes ":" ++ code_text r.code r.value

abbrev pub releases_text : NameLists → List Release → List ℕ
releases_text lists [] = []
releases_text lists (r ∷ rs) = release_text lists r ++ releases_text lists rs

-- a value that was overwritten
abbrev pub lost_text : Option ℤ → List ℕ
lost_text None = []
lost_text (Some v) = codes " lost=" ++ signed_decimal v

abbrev pub running_text : NameLists → Option Task → List ℕ
running_text lists None = codes "idle"
running_text lists (Some t) = task_text lists t

-- what the event's processor runs now, where that is another task than before
abbrev pub run_change_text : NameLists → Option (Option Task) → List ℕ
run_change_text lists None = []
run_change_text lists (Some running) = codes " run=" ++ running_text lists running

-- what stands before the processor at this index
abbrev pub request_lead : ℕ → List ℕ
request_lead zero = codes " ipi="
request_lead (suc i) = codes ","

-- the processors to which a request is sent, from this index on
abbrev pub requests_from : ℕ → List Proc → List ℕ
requests_from i [] = []
requests_from i (p ∷ ps) = request_lead i ++ decimal p.number ++ requests_from (i + 1) ps

-- what stands before the event in line n
unfoldable pub head_text : NameLists → ℕ → Record → List ℕ
head_text lists n r = decimal n ++ codes " P" ++ decimal (processor_of r.event).number ++ codes " " ++ runner_text lists r.runner ++ codes " "

-- what stands after the answer
unfoldable pub tail_text : NameLists → Record → List ℕ
tail_text lists r = releases_text lists r.releases ++ lost_text r.lost ++ run_change_text lists r.run_change ++ requests_from 0 r.requests

-- line n, without its line feed
unfoldable pub core_text : NameLists → ℕ → Record → List ℕ
core_text lists n r = head_text lists n r ++ event_text lists r.event ++ codes " " ++ answer_text r.answer ++ tail_text lists r

-- line n, with its line feed
unfoldable pub line_text : NameLists → ℕ → Record → List ℕ
line_text lists n r = core_text lists n r ++ codes "\n"

-- the greatest number of bytes of a line, with its line feed: no name has more than 64 bytes, and no number more than 64 digits
abbrev pub most_line_bytes : ℕ
most_line_bytes = 10394

-- the lines of these records, numbered from n
abbrev pub lines_from : NameLists → ℕ → List Record → List ℕ
lines_from lists n [] = []
lines_from lists n (r ∷ rs) = line_text lists n r ++ lines_from lists (n + 1) rs
