-- Words for scenarios: small configurations, and the records of a run.
use Rattle.std.proofs.Common.{◌≡◌, ℕ, ℤ, Bool, true, false, Option, None, Some, List, ◌∷◌, map, slice_set, replicate, ◌-◌}
use Rattle.fmp_codes.specs.Records.{answer_record}
use Rattle.fmp_codes.specs.Numbers.{as_proc, as_task, as_object, as_pri}
use Rattle.fmp_codes.specs.declared.calls.Call.{Call}
use Rattle.fmp_codes.specs.declared.codes.Code.{Code}
use Rattle.fmp_codes.specs.declared.codes.Code.TheVariants as code
use Rattle.fmp_codes.specs.declared.numbers.Task.{Task}
use Rattle.fmp_codes.specs.declared.records.Event.{Event}
use Rattle.fmp_codes.specs.declared.records.Event.TheVariants as event
use Rattle.fmp_codes.specs.declared.records.Answer.{Answer}
use Rattle.fmp_codes.specs.declared.records.Answer.TheVariants as answer
use Rattle.fmp_codes.specs.declared.records.Runner.TheVariants as runner
use Rattle.fmp_codes.specs.declared.records.Record.{Record}
use Rattle.fmp_codes.specs.declared.records.Release.{Release}
use Rattle.fmp_setup.specs.declared.setup.Class.{Class}
use Rattle.fmp_setup.specs.declared.setup.TaskSetup.{TaskSetup}
use Rattle.fmp_setup.specs.Setup.{Setup}
use Rattle.fmp_rules.specs.Arrivals.{numbered}
use Rattle.fmp_rules.specs.Step.{answers}
use Rattle.fmp_rules.specs.Boot.{booted}

-- the machine of this configuration makes these records of their own events
abbrev pub Plays : Setup → List Record → Type 0
Plays c records = answers numbered (booted c) (map (λ r. r.event) records) ≡ records

-- a task of this class and priority, with the first function, and whether it is started at boot
abbrev pub a_task : Class → ℕ → Bool → TaskSetup
a_task c n starts = record { class = c; main = 1; priority = as_pri n; starts = starts }

-- the class of this processor alone
abbrev pub sole : ℕ → Class
sole p = record { initial = as_proc p; members = slice_set (replicate 8 false) (p - 1) true }

-- the class of processors 1 and 2 that begins at this one
abbrev pub both : ℕ → Class
both p = record { initial = as_proc p; members = true ∷ true ∷ replicate 6 false }

abbrev pub ok : Answer
ok = answer.Done code.Accepted None

abbrev pub value : ℤ → Answer
value v = answer.Done code.Accepted (Some v)

abbrev pub error : Code → Answer
error c = answer.Done c None

-- an event with this answer on a processor with neither a handler nor a task
abbrev pub nobody : Event → Answer → Record
nobody e a = answer_record e None a

-- the same, where the runner is the task of this number
abbrev pub by_task : ℕ → Event → Answer → Record
by_task t e a = record (nobody e a) { runner = Some (runner.Task (as_task t)) }

-- the same, where it is the alarm or the cyclic handler of this number
abbrev pub by_alarm : ℕ → Event → Answer → Record
by_alarm n e a = record (nobody e a) { runner = Some (runner.Alarm (as_object n)) }

abbrev pub by_cyclic : ℕ → Event → Answer → Record
by_cyclic n e a = record (nobody e a) { runner = Some (runner.Cyclic (as_object n)) }

-- a call, a tick and an interrupt on the processor of this number
abbrev pub call_on : ℕ → Call → Event
call_on p c = event.Call (as_proc p) c

abbrev pub tick_on : ℕ → Event
tick_on p = event.Tick (as_proc p)

abbrev pub ipi_on : ℕ → Event
ipi_on p = event.Ipi (as_proc p)

-- a processor runs the task of this number from now on
abbrev pub runs : ℕ → Option (Option Task)
runs t = Some (Some (as_task t))

-- the end of the wait of the task of this number
abbrev pub released : ℕ → Code → Option ℤ → Release
released t c v = record { task = as_task t; code = c; value = v }
