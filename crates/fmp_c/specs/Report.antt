-- What C is told of an event, as plain numbers.
use Rattle.std.specs.Prelude.{ℕ, ℤ, pos, Option, None, Some, length}
use Rattle.fmp_codes.specs.Codes.{number_of}
use Rattle.fmp_codes.specs.Records.{processor_of}
use Rattle.fmp_codes.specs.declared.numbers.Task.{Task}
use Rattle.fmp_codes.specs.declared.records.Answer.{Answer}
use Rattle.fmp_codes.specs.declared.records.Answer.TheVariants as answers
use Rattle.fmp_codes.specs.declared.records.Record.{Record}
use Rattle.fmp_codes.specs.declared.records.Release.{Release}
use Rattle.fmp_codes.specs.declared.records.Runner.{Runner}
use Rattle.fmp_codes.specs.declared.records.Runner.TheVariants as runners
use Rattle.fmp_config_statements.specs.declared.fault.ConfigKind.{ConfigKind}
use Rattle.fmp_config_statements.specs.declared.fault.ConfigKind.TheVariants as faults
use Rattle.fmp_c.specs.declared.report.Freed.{Freed}
use Rattle.fmp_c.specs.declared.report.Report.{Report}

-- F1 to F13
abbrev pub kind_number : ConfigKind → ℕ
kind_number faults.Syntax = 1
kind_number faults.CutShort = 2
kind_number faults.Unsupported = 3
kind_number faults.OutsideClass = 4
kind_number faults.UnknownClass = 5
kind_number faults.NameTaken = 6
kind_number faults.OutOfRange = 7
kind_number faults.BadAttribute = 8
kind_number faults.TooMany = 9
kind_number faults.NoProcessors = 10
kind_number faults.BadClass = 11
kind_number faults.Memory = 12
kind_number faults.ForeignHandler = 13

-- 1 where there is a value, and the value or 0
abbrev pub flag : Option ℤ → ℕ
flag None = 0
flag (Some value) = 1

abbrev pub value_or_zero : Option ℤ → ℤ
value_or_zero None = pos 0
value_or_zero (Some value) = value

abbrev pub runner_kind : Option Runner → ℕ
runner_kind None = 0
runner_kind (Some (runners.Task t)) = 1
runner_kind (Some (runners.Alarm a)) = 2
runner_kind (Some (runners.Cyclic c)) = 3

abbrev pub runner_number : Option Runner → ℕ
runner_number None = 0
runner_number (Some (runners.Task t)) = t.number
runner_number (Some (runners.Alarm a)) = a.number
runner_number (Some (runners.Cyclic c)) = c.number

abbrev pub answer_number : Answer → ℕ
answer_number (answers.Done code value) = 0
answer_number answers.Wait = 1
answer_number answers.Spin = 2
answer_number answers.Gone = 3
answer_number answers.Idle = 4
answer_number answers.Held = 5
answer_number answers.Taken = 6
answer_number answers.Nothing = 7

abbrev pub answer_code : Answer → ℤ
answer_code (answers.Done code value) = number_of code
answer_code other = pos 0

abbrev pub answer_value : Answer → Option ℤ
answer_value (answers.Done code value) = value
answer_value other = None

-- whether another task runs now, and which, 0 for none
abbrev pub changed : Option (Option Task) → ℕ
changed None = 0
changed (Some task) = 1

abbrev pub running : Option (Option Task) → ℕ
running (Some (Some task)) = task.number
running other = 0

-- what an event did, by its number and its record
abbrev pub report_of : ℕ → Record → Report
report_of n r = record {
  number = n;
  processor = (processor_of r.event).number;
  runner_kind = runner_kind r.runner;
  runner = runner_number r.runner;
  answer = answer_number r.answer;
  code = answer_code r.answer;
  has_value = flag (answer_value r.answer);
  releases = length r.releases;
  requests = length r.requests;
  has_lost = flag r.lost;
  run_changed = changed r.run_change;
  run = running r.run_change;
  value = value_or_zero (answer_value r.answer);
  lost = value_or_zero r.lost;
}

-- the end of a wait
abbrev pub freed_of : Release → Freed
freed_of r = record { task = r.task.number; code = number_of r.code; has_value = flag r.value; value = value_or_zero r.value }
