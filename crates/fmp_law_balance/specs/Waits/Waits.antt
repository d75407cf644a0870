-- The wait of each task, as the records of a run tell it.
use Rattle.std.specs.Prelude.{ℕ, ℤ, pos, negsuc, Bool, true, false, ◌&&◌, ◌||◌, ◌==◌, Option, None, Some, List, [], ◌∷◌, if◌then◌else◌, option_map, slice_index_or, ◌-◌}
use Rattle.std.specs.List.{list_any}
use Rattle.std.specs.Option.{option_or}
use Rattle.fmp_codes.specs.Numbers.{as_proc}
use Rattle.fmp_codes.specs.declared.numbers.Proc.{Proc}
use Rattle.fmp_codes.specs.declared.numbers.Task.{Task}
use Rattle.fmp_codes.specs.declared.calls.Call.TheVariants as call
use Rattle.fmp_codes.specs.declared.calls.TaskCall.TheVariants as task
use Rattle.fmp_codes.specs.declared.records.Answer.{Answer}
use Rattle.fmp_codes.specs.declared.records.Answer.TheVariants as answer
use Rattle.fmp_codes.specs.declared.records.Event.{Event}
use Rattle.fmp_codes.specs.declared.records.Event.TheVariants as event
use Rattle.fmp_codes.specs.declared.records.Record.{Record}
use Rattle.fmp_codes.specs.declared.records.Release.{Release}
use Rattle.fmp_codes.specs.Records.{is_taken}
use Rattle.fmp_setup.specs.declared.setup.TaskSetup.{TaskSetup}
use Rattle.fmp_setup.specs.declared.setup.Timer.{Timer}
use Rattle.fmp_setup.specs.Setup.{Setup}
use Rattle.fmp_law_balance.specs.Words.{is_clocked_by}
use Rattle.fmp_rules.specs.World.{no_task}
use Rattle.fmp_law_balance.specs.Waits.Meanings.{after_tick}
use Rattle.fmp_law_balance.specs.Accepted.{is_accepted}
use Rattle.fmp_law_balance.specs.Queues.{is_call_of}
use Rattle.fmp_law_balance.specs.Waits.Asked.{OpenWait, asked_by}

-- How a wait begins.

-- the caller waits from now on
abbrev pub is_waiting : Answer → Bool
is_waiting answer.Wait = true
is_waiting other = false

-- the wait of a task that begins with this record, if one does
abbrev pub begins : Task → Record → Option OpenWait
begins t r = if is_waiting r.answer && is_call_of t r.runner r.event then asked_by r.event else None

-- How it ends.

-- an argument is the number of this task
abbrev pub is_number_of : Task → ℤ → Bool
is_number_of t (pos n) = n == t.number
is_number_of t (negsuc n) = false

-- one of these releases is of this task
abbrev pub is_released : Task → List Release → Bool
is_released t xs = list_any (λ x. x.task.number == t.number) xs

-- the event is a call that terminates this task
abbrev pub terminates : Task → Event → Bool
terminates t (event.Call p (call.Task (task.TerTsk id))) = is_number_of t id
terminates t other = false

-- the wait of a task ends with this record: the task is released or terminated
abbrev pub ends : Task → Record → Bool
ends t r = is_released t r.releases || (is_accepted r.answer && terminates t r.event)

-- What becomes of it before: a tick takes one of the ticks left, and a migration assigns the task to another processor.

-- a tick was taken that counts for what is assigned to q
abbrev pub is_tick_for : Timer → Proc → Answer → Event → Bool
is_tick_for timer q a (event.Tick p) = is_taken a && is_clocked_by timer p q
is_tick_for timer q a other = false

-- the number of the processor to which the event, a call, migrates this task
abbrev pub migrates : Task → Event → Option ℤ
migrates t (event.Call p (call.Task (task.MigTsk id to))) = if is_number_of t id then Some to else None
migrates t other = None

-- how a task is configured
abbrev pub setup_of : Setup → Task → TaskSetup
setup_of c t = slice_index_or c.tasks (t.number - 1) no_task.setup

-- the processor of a task that was assigned to q and is migrated to this one, where 0 is the initial one of its class
abbrev pub assigned_by : Setup → Task → Option ℤ → Proc → Proc
assigned_by c t (Some (pos n)) q = if n == 0 then (setup_of c t).class.initial else as_proc n
assigned_by c t other q = q

-- the ticks left after this record, and the processor, of a wait that it does not end
abbrev pub left_after : Setup → Record → OpenWait → Option ℕ
left_after c r o = if is_tick_for c.timer o.assigned r.answer r.event then after_tick o.left else o.left

abbrev pub assigned_after : Setup → Task → Record → OpenWait → Proc
assigned_after c t r o = if is_accepted r.answer then assigned_by c t (migrates t r.event) o.assigned else o.assigned

-- the wait of a task after a record that does not end it
abbrev pub lasts : Setup → Task → Record → OpenWait → OpenWait
lasts c t r o = record { wait = o.wait; left = left_after c r o; assigned = assigned_after c t r o }

-- From the first record to the last.

-- for each task the wait that it began last and that is not ended, if there is one
abbrev pub OpenWaits : Type 0
OpenWaits = Task → Option OpenWait

abbrev pub nobody_waits : OpenWaits
nobody_waits t = None

-- the open waits after one record more, and after all of these
abbrev pub after_record : Setup → OpenWaits → Record → OpenWaits
after_record c pending r t = if ends t r then None else option_or (begins t r) (option_map (lasts c t r) (pending t))

abbrev pub after_records : Setup → OpenWaits → List Record → OpenWaits
after_records c pending [] = pending
after_records c pending (r ∷ rs) = after_records c (after_record c pending r) rs
