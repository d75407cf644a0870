-- The counts of runs, computed: activations, wakeups, and the time of waits, alarms and cyclic handlers.
use Rattle.std.proofs.Common.{◌≡◌, ℕ, pos, true, false, Some, None, List, [], ◌∷◌, ◌++◌, map, refl}
use Rattle.std.specs.Prelude.{sum_by}
use Rattle.fmp_codes.specs.Numbers.{as_task, as_object}
use Rattle.fmp_codes.specs.declared.calls.Call.TheVariants as call
use Rattle.fmp_codes.specs.declared.calls.TaskCall.{TaskCall}
use Rattle.fmp_codes.specs.declared.calls.TaskCall.TheVariants as tasks
use Rattle.fmp_codes.specs.declared.calls.TimeCall.TheVariants as time
use Rattle.fmp_codes.specs.declared.records.Runner.TheVariants as runner
use Rattle.fmp_rules.specs.TimeCalls.{sta_alm}
use Rattle.fmp_codes.specs.declared.codes.Code.TheVariants as code
use Rattle.fmp_codes.specs.declared.records.Event.{Event}
use Rattle.fmp_codes.specs.declared.records.Record.{Record}
use Rattle.fmp_setup.specs.Setup.{Setup, of_tasks}
use Rattle.fmp_rules.specs.World.{task, item}
use Rattle.fmp_rules.specs.Arrivals.{State, numbered}
use Rattle.fmp_rules.specs.Tasks.{finish}
use Rattle.fmp_rules.specs.TaskCalls.{act, can_act, ter_tsk, tslp_tsk, wup, can_wup}
use Rattle.fmp_rules.specs.Tick.{counted_down, ticked, with_handlers_due}
use Rattle.fmp_rules.specs.Step.{replay, answers, before_event, settled, unchanged}
use Rattle.fmp_rules.specs.Boot.{booted}
use Rattle.fmp_rules.proofs.Scenario.{a_task, both, call_on, tick_on, released}
use Rattle.fmp_law_balance.specs.Accepted.{one_if}
use Rattle.fmp_law_records.specs.Counts.Lives.{activated, ended, taken_back}
use Rattle.fmp_law_records.specs.Counts.Wakeups.{queued_by}
use Rattle.fmp_law_balance.specs.Waits.Waits.{nobody_waits, after_records}
use Rattle.fmp_law_balance.specs.Waits.Laws.{left_of}
use Rattle.fmp_law_records.specs.Counts.Waits.{ticks_for}
use Rattle.fmp_law_records.specs.Counts.Alarms.{alarm_left_by}
use Rattle.fmp_law_records.specs.Counts.Cyclics.{cyclic_left_by, cyclic_at_boot}

-- a call of a task from a processor
abbrev asks : ℕ → TaskCall → Event
asks p c = call_on p (call.Task c)

-- Activations: two tasks of one processor, of which the first starts at boot and the second does not.

abbrev one_starts : Setup
one_starts = of_tasks 1 (a_task (both 1) 10 true ∷ a_task (both 1) 10 false ∷ [])

-- the second task is activated, once more and once in vain; it ends and starts anew; an activation is queued and taken back
abbrev activating : List Event
activating =
    asks 1 (tasks.ActTsk (pos 2))
    ∷ asks 1 (tasks.ActTsk (pos 2))
    ∷ asks 1 (tasks.ActTsk (pos 2))
    ∷ asks 1 (tasks.TerTsk (pos 2))
    ∷ asks 1 (tasks.CanAct (pos 2))
    ∷ asks 1 (tasks.ActTsk (pos 2))
    ∷ asks 1 (tasks.CanAct (pos 2))
    ∷ []

abbrev report : Setup → List Event → List Record
report c events = answers numbered (booted c) events

abbrev later : Setup → List Event → State
later c events = replay numbered (booted c) events

-- three activations: a life that goes on, none that is queued, one that ended and one that was taken back
activations_reported :
    sum_by (activated (as_task 2)) (report one_starts activating)
    ∷ one_if (task (later one_starts activating) (as_task 2)).active
    ∷ (task (later one_starts activating) (as_task 2)).activations
    ∷ sum_by (ended (as_task 2)) (report one_starts activating)
    ∷ sum_by (taken_back (as_task 2)) (report one_starts activating)
    ∷ [] ≡ 3 ∷ 1 ∷ 0 ∷ 1 ∷ 1 ∷ []
unfolding numbered before_event settled unchanged act can_act ter_tsk finish
activations_reported = refl

-- Wakeups and waits: a task on each of two processors.

abbrev both_start : Setup
both_start = of_tasks 2 (a_task (both 1) 10 true ∷ a_task (both 2) 10 true ∷ [])

-- two wakeups are queued, one is taken, and so is the other; a third releases; one more is taken back, and a last one is queued
abbrev waking : List Event
waking =
    asks 1 (tasks.WupTsk (pos 2))
    ∷ asks 1 (tasks.WupTsk (pos 2))
    ∷ asks 2 tasks.SlpTsk
    ∷ asks 2 tasks.SlpTsk
    ∷ asks 2 tasks.SlpTsk
    ∷ asks 1 (tasks.WupTsk (pos 2))
    ∷ asks 1 (tasks.WupTsk (pos 2))
    ∷ asks 1 (tasks.CanWup (pos 2))
    ∷ asks 1 (tasks.WupTsk (pos 2))
    ∷ []

wakeups_reported : queued_by (as_task 2) (report both_start waking) 0 ∷ (task (later both_start waking) (as_task 2)).wakeups ∷ [] ≡ 1 ∷ 1 ∷ []
unfolding numbered before_event settled unchanged tslp_tsk wup can_wup
wakeups_reported = refl

-- a task sleeps for two ticks; ticks of the other processor do not count, and the third of its own releases it
abbrev sleeping : List Event
sleeping = asks 2 (tasks.TslpTsk (pos 2)) ∷ tick_on 2 ∷ tick_on 1 ∷ tick_on 2 ∷ []

left_reported : left_of (after_records both_start nobody_waits (report both_start sleeping) (as_task 2)) ∷ item None (later both_start sleeping).waits_left 2 ∷ [] ≡ Some 1 ∷ Some 1 ∷ []
unfolding numbered before_event settled unchanged tslp_tsk counted_down ticked with_handlers_due
left_reported = refl

-- so far as many ticks counted for it as it sleeps for
ticks_reported : ticks_for (as_task 2) (later both_start (asks 2 (tasks.TslpTsk (pos 2)) ∷ [])) (tick_on 2 ∷ tick_on 1 ∷ tick_on 2 ∷ []) ≡ 2
unfolding numbered before_event settled unchanged tslp_tsk counted_down ticked with_handlers_due
ticks_reported = refl

last_tick : map (λ r. r.releases) (report both_start (sleeping ++ tick_on 2 ∷ [])) ≡ [] ∷ [] ∷ [] ∷ [] ∷ (released 2 code.TimedOut None ∷ []) ∷ []
unfolding numbered before_event settled unchanged tslp_tsk counted_down ticked with_handlers_due
last_tick = refl

-- Handlers: an alarm, and a cyclic handler with a period of two ticks that starts at boot.

abbrev with_handlers : Setup
with_handlers = record one_starts {
  alarms = record { class = both 1; handler = 1 } ∷ [];
  cyclics = record { class = both 1; handler = 1; period = 2; phase = 1; starts = true } ∷ [];
}

-- the alarm is started with a time of one tick, which leaves two, and a tick leaves one to it and one to the cyclic handler
abbrev ringing : List Event
ringing = call_on 1 (call.Time (time.StaAlm (pos 1) (pos 1))) ∷ tick_on 1 ∷ []

handlers_reported : alarm_left_by (as_object 1) (booted with_handlers) ringing None ∷ cyclic_left_by (as_object 1) (booted with_handlers) ringing (cyclic_at_boot with_handlers (as_object 1)) ∷ []
    ≡ Some 1 ∷ Some 1 ∷ []
unfolding numbered before_event settled unchanged sta_alm counted_down ticked with_handlers_due
handlers_reported = refl

-- the next tick makes both due, the alarm first. The alarm is stopped, and the cyclic handler begins its period
abbrev rung : List Event
rung = ringing ++ tick_on 1 ∷ []

handlers_due : item [] (later with_handlers rung).due 1 ≡ runner.Alarm (as_object 1) ∷ runner.Cyclic (as_object 1) ∷ []
unfolding numbered before_event settled unchanged sta_alm counted_down ticked with_handlers_due
handlers_due = refl

handlers_after : alarm_left_by (as_object 1) (booted with_handlers) rung None ∷ cyclic_left_by (as_object 1) (booted with_handlers) rung (cyclic_at_boot with_handlers (as_object 1)) ∷ []
    ≡ None ∷ Some 2 ∷ []
unfolding numbered before_event settled unchanged sta_alm counted_down ticked with_handlers_due
handlers_after = refl
