-- What is assigned to processors, and the ticks that each has left.
use Rattle.std.specs.Prelude.{ℕ, Option, None, List, map, length, slice_index_or, option_map}
use Rattle.std.specs.List.{range_with_len}
use Rattle.fmp_codes.specs.Numbers.{as_proc}
use Rattle.fmp_codes.specs.declared.numbers.Proc.{Proc}
use Rattle.fmp_codes.specs.declared.numbers.Task.{Task}
use Rattle.fmp_codes.specs.declared.numbers.Object.{Object}
use Rattle.fmp_setup.specs.declared.setup.Timer.{Timer}
use Rattle.fmp_rules.specs.declared.machine.TaskRecord.{TaskRecord}
use Rattle.fmp_rules.specs.declared.machine.Cyclic.{Cyclic}
use Rattle.fmp_rules.specs.declared.machine.Alarm.{Alarm}
use Rattle.fmp_rules.specs.Due.{AreLeft, IsLeast}
use Rattle.fmp_rules.specs.Objects.{no_cyclic, no_alarm}
use Rattle.fmp_rules.specs.World.{item}
use Rattle.fmp_time.specs.Left.{Left, ticks_of}
use Rattle.fmp_time.specs.Times.{Times}

pub record Assignments : Type 0 where
  pub timer : Timer
  pub tasks : List TaskRecord
  pub waits_left : List (Option ℕ)  -- the ticks left of each task's wait, where it is timed
  pub timed : List Task  -- the tasks whose waits have ticks left, in the order in which these waits began
  pub cyclics : List Cyclic
  pub cyclics_left : List (Option ℕ)  -- the ticks left of each cyclic that is started
  pub alarms : List Alarm
  pub alarms_left : List (Option ℕ)  -- the ticks left of each alarm that is started

-- what stands where there is no handler
abbrev pub blank_cyclic : Cyclic
blank_cyclic = record { setup = no_cyclic; assigned = as_proc 1 }

abbrev pub blank_alarm : Alarm
blank_alarm = record { setup = no_alarm; assigned = as_proc 1 }

abbrev pub cyclic_in : List Cyclic → Object → Cyclic
cyclic_in cyclics c = item blank_cyclic cyclics c.number

abbrev pub alarm_in : List Alarm → Object → Alarm
alarm_in alarms a = item blank_alarm alarms a.number

-- the ticks left of so many items of the timers, from a place on
unfoldable pub lefts : List (Option Left) → ℕ → ℕ → List (Option ℕ)
lefts left place n = map (λ k. option_map ticks_of (slice_index_or left k None)) (range_with_len place n)

-- what the parts show. The timers have first the waits, then the alarms from 64 on, then the cyclics from 96 on
abbrev pub assignments_of : Timer → List TaskRecord → List Cyclic → List Alarm → Times → Assignments
assignments_of timer tasks cyclics alarms m = record {
  timer = timer;
  tasks = tasks;
  waits_left = lefts m.left 0 (length tasks);
  timed = m.waits;
  cyclics = cyclics;
  cyclics_left = lefts m.left 96 (length cyclics);
  alarms = alarms;
  alarms_left = lefts m.left 64 (length alarms);
}

-- the least ticks left for which a tick on p counts, if there are some
abbrev pub IsNextDue : Assignments → Proc → Option ℕ → Type 0
IsNextDue a p next = IsLeast (AreLeft a.timer p a.tasks a.waits_left a.cyclics a.cyclics_left a.alarms a.alarms_left) next
