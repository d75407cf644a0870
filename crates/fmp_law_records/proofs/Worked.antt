-- What the records of runs tell, computed: suspension, priorities, lives, which calls are due, the locked and the disabled state, due
-- handlers, requests, the order in which waiting tasks are served, and that of the ready tasks.
use Rattle.std.proofs.Common.{◌≡◌, ℕ, ◌++◌, pos, Bool, true, false, List, [], ◌∷◌, map, arith, refl, sym, ap, Some, None}
use Rattle.std.proofs.lemmas.Bool.{false≢true}
use Rattle.fmp_codes.specs.Numbers.{as_proc, as_task, as_object, as_pri}
use Rattle.fmp_codes.specs.declared.calls.Call.TheVariants as call
use Rattle.fmp_codes.specs.declared.calls.TaskCall.{TaskCall}
use Rattle.fmp_codes.specs.declared.calls.TaskCall.TheVariants as tasks
use Rattle.fmp_codes.specs.declared.calls.SyncCall.TheVariants as sync
use Rattle.fmp_codes.specs.declared.calls.SystemCall.TheVariants as system
use Rattle.fmp_codes.specs.declared.calls.TimeCall.TheVariants as time
use Rattle.fmp_codes.specs.declared.records.Answer.TheVariants as answer
use Rattle.fmp_codes.specs.declared.records.Event.{Event}
use Rattle.fmp_codes.specs.declared.records.Record.{Record}
use Rattle.fmp_codes.specs.declared.codes.Code.TheVariants as code
use Rattle.fmp_codes.specs.declared.records.Release.{Release}
use Rattle.fmp_codes.specs.declared.records.Runner.{Runner}
use Rattle.fmp_codes.specs.declared.records.Runner.TheVariants as runner
use Rattle.fmp_setup.specs.declared.setup.Order.TheVariants as order
use Rattle.fmp_setup.specs.declared.setup.Timer.TheVariants as timer
use Rattle.fmp_setup.specs.Setup.{Setup, of_tasks}
use Rattle.fmp_rules.specs.declared.machine.Wait.TheVariants as wait
use Rattle.fmp_rules.specs.World.{item, task, processor}
use Rattle.fmp_rules.specs.Arrivals.{State, numbered}
use Rattle.fmp_rules.specs.TaskCalls.{act, mact, ext_tsk, chg_pri, dly_tsk, sus_tsk, rsm_tsk}
use Rattle.fmp_rules.specs.Tasks.{finish}
use Rattle.fmp_rules.specs.Processors.{opened}
use Rattle.std.specs.Prelude.{unwrap_or, option_map}
use Rattle.fmp_rules.specs.SystemCalls.{rotation}
use Rattle.fmp_rules.specs.SyncCalls.{twai_sem, sig_sem}
use Rattle.fmp_rules.specs.TimeCalls.{sta_alm}
use Rattle.fmp_rules.specs.SpinCalls.{ret_hdr}
use Rattle.fmp_rules.specs.Tick.{counted_down, ticked, with_handlers_due}
use Rattle.fmp_rules.specs.Step.{step, replay, answers, before_event, settled, unchanged}
use Rattle.fmp_rules.specs.Boot.{booted}
use Rattle.fmp_rules.proofs.Scenario.{a_task, sole, both, call_on, tick_on, ipi_on}
use Rattle.fmp_law_records.specs.Suspensions.{suspended_by}
use Rattle.fmp_law_records.specs.Priorities.{report_priority}
use Rattle.fmp_law_records.specs.Lives.{LifeReported, report_life}
use Rattle.fmp_law_records.specs.Accepting.{report_task, TaskCallFits}
use Rattle.fmp_law_records.specs.Flags.{locked_by, disabled_by}
use Rattle.fmp_law_records.specs.Due.{handlers_by, handlers_at_boot}
use Rattle.fmp_law_records.specs.Requests.{report_processor, SignalsFit}
use Rattle.fmp_law_records.specs.Served.{Places, places_by, places_at_boot, began_before, is_served_before, ServesInOrder}
use Rattle.fmp_law_records.specs.Tops.{changes_top, RequestsAreDue}
use Rattle.fmp_law_records.specs.Standing.{Standing, report_standing, ready_reported, AreReadyReported}
use Rattle.fmp_law_balance.specs.Waits.Asked.{OpenWait}

abbrev pub asks : ℕ → TaskCall → Event
asks p c = call_on p (call.Task c)

abbrev pub report : Setup → List Event → List Record
report c events = answers numbered (booted c) events

abbrev pub later : Setup → List Event → State
later c events = replay numbered (booted c) events

-- A task on each of two processors.

abbrev pub both_start : Setup
both_start = of_tasks 2 (a_task (both 1) 10 true ∷ a_task (both 2) 10 true ∷ [])

-- the second one waits for one tick and is suspended meanwhile; two ticks end its wait, and it is suspended still
abbrev pub over_while_suspended : List Event
over_while_suspended = asks 2 (tasks.DlyTsk (pos 1)) ∷ asks 1 (tasks.SusTsk (pos 2)) ∷ tick_on 2 ∷ tick_on 2 ∷ []

still_suspended : suspended_by (as_task 2) (report both_start over_while_suspended) false ∷ (task (later both_start over_while_suspended) (as_task 2)).suspended ∷ [] ≡ true ∷ true ∷ []
unfolding numbered before_event settled unchanged dly_tsk sus_tsk counted_down ticked with_handlers_due
still_suspended = refl

-- the same two tasks under a global timer: the second one is suspended and resumed, and gets another priority
abbrev pub one_timer : Setup
one_timer = record both_start { timer = timer.Global (as_proc 1) }

abbrev pub resumed : List Event
resumed = asks 1 (tasks.SusTsk (pos 2)) ∷ asks 1 (tasks.RsmTsk (pos 2)) ∷ []

resumed_again : suspended_by (as_task 2) (report one_timer resumed) false ∷ (task (later one_timer resumed) (as_task 2)).suspended ∷ [] ≡ false ∷ false ∷ []
unfolding numbered before_event settled unchanged sus_tsk rsm_tsk
resumed_again = refl

abbrev pub more_urgent : List Event
more_urgent = asks 1 (tasks.ChgPri (pos 2) (pos 5)) ∷ []

other_priority : report_priority one_timer (as_task 2) (report one_timer more_urgent) ∷ (task (later one_timer more_urgent) (as_task 2)).priority ∷ [] ≡ as_pri 5 ∷ as_pri 5 ∷ []
unfolding numbered before_event settled unchanged chg_pri
other_priority = refl

-- The second task is activated for processor 1 while it is active, ends, and begins another life there.

abbrev pub living_again : List Event
living_again = asks 1 (tasks.MactTsk (pos 2) (pos 1)) ∷ asks 2 tasks.ExtTsk ∷ []

abbrev pub second_life : List Event → LifeReported
second_life events = report_life both_start (as_task 2) (report both_start events)

queued_reported : (second_life (asks 1 (tasks.MactTsk (pos 2) (pos 1)) ∷ [])).queued ≡ Some (Some (as_proc 1))
unfolding numbered before_event settled unchanged mact
queued_reported = refl

another_life : (second_life living_again).active ∷ (task (later both_start living_again) (as_task 2)).active ∷ [] ≡ true ∷ true ∷ []
unfolding numbered before_event settled unchanged mact ext_tsk finish opened
another_life = refl

moved_life : (second_life living_again).at ∷ (task (later both_start living_again) (as_task 2)).assigned ∷ [] ≡ as_proc 1 ∷ as_proc 1 ∷ []
unfolding numbered before_event settled unchanged mact ext_tsk finish opened
moved_life = refl

-- it cannot be resumed where it is not suspended: a record in which that is accepted is refused, and so is one in which its
-- suspension is refused as unsuited
abbrev pub resuming : Record
resuming = (step numbered (booted both_start) (asks 1 (tasks.RsmTsk (pos 2)))).1

abbrev pub suspending : Record
suspending = (step numbered (booted both_start) (asks 1 (tasks.SusTsk (pos 2)))).1

needless_acceptance_refused : TaskCallFits (as_task 2) (report_task both_start (as_task 2) []) (record resuming { answer = answer.Done code.Accepted None }) → ⊥
unfolding numbered before_event settled unchanged rsm_tsk
needless_acceptance_refused h = false≢true ((h refl).suited refl)

needless_refusal_refused : TaskCallFits (as_task 2) (report_task both_start (as_task 2) []) (record suspending { answer = answer.Done code.ObjectState None }) → ⊥
unfolding numbered before_event settled unchanged sus_tsk
needless_refusal_refused h = false≢true (sym ((h refl).unsuited refl))

-- A task of priority 1 disables dispatching, and locks its processor.

abbrev pub most_urgent : Setup
most_urgent = of_tasks 1 (a_task (both 1) 1 true ∷ [])

abbrev pub holding : List Event
holding = call_on 1 (call.System system.DisDsp) ∷ call_on 1 (call.System system.LocCpu) ∷ []

held : disabled_by (as_proc 1) (report most_urgent holding) false ∷ (processor (later most_urgent holding) (as_proc 1)).disabled ∷ locked_by (as_proc 1) (report most_urgent holding) false ∷ (processor (later most_urgent holding) (as_proc 1)).locked ∷ [] ≡ true ∷ true ∷ true ∷ true ∷ []
unfolding numbered before_event settled unchanged
held = refl

-- An alarm and a cyclic handler of processor 2, and another cyclic handler of processor 1.

abbrev pub with_handlers : Setup
with_handlers = record both_start {
  alarms = record { class = both 2; handler = 1 } ∷ [];
  cyclics = record { class = both 1; handler = 1; period = 2; phase = 0; starts = true } ∷ record { class = both 2; handler = 1; period = 2; phase = 1; starts = true } ∷ [];
}

-- the alarm rings at the second tick of processor 2, with the cyclic handler of that processor and before it
abbrev pub ringing : List Event
ringing = call_on 1 (call.Time (time.StaAlm (pos 1) (pos 1))) ∷ tick_on 2 ∷ tick_on 2 ∷ []

abbrev pub due_on : ℕ → List Event → List (List Runner)
due_on p events = (handlers_by with_handlers (as_proc p) (report with_handlers events) (handlers_at_boot with_handlers)).due ∷ item [] (later with_handlers events).due p ∷ []

both_due : due_on 2 ringing ≡ (runner.Alarm (as_object 1) ∷ runner.Cyclic (as_object 2) ∷ []) ∷ (runner.Alarm (as_object 1) ∷ runner.Cyclic (as_object 2) ∷ []) ∷ []
unfolding numbered before_event settled unchanged sta_alm counted_down ticked with_handlers_due
both_due = refl

-- a tick that is held makes none due, and the first of them returns
abbrev pub returning : List Event
returning = ringing ++ tick_on 2 ∷ call_on 2 call.RetHdr ∷ []

one_due : due_on 2 returning ≡ (runner.Cyclic (as_object 2) ∷ []) ∷ (runner.Cyclic (as_object 2) ∷ []) ∷ []
unfolding numbered before_event settled unchanged sta_alm counted_down ticked with_handlers_due ret_hdr
one_due = refl

none_due : due_on 1 returning ≡ [] ∷ [] ∷ []
unfolding numbered before_event settled unchanged sta_alm counted_down ticked with_handlers_due ret_hdr
none_due = refl

-- A task suspends one of processor 2, whose dispatching is disabled: the interrupt is held back, and the request waits for it to be
-- enabled.

abbrev pub pending_on_second : List Event → List Bool
pending_on_second events = (report_processor both_start (as_proc 2) (report both_start events)).pending ∷ (processor (later both_start events) (as_proc 2)).latch ∷ []

abbrev pub asking : List Event
asking = call_on 2 (call.System system.DisDsp) ∷ asks 1 (tasks.SusTsk (pos 2)) ∷ ipi_on 2 ∷ []

request_pending : pending_on_second asking ≡ true ∷ true ∷ []
unfolding numbered before_event settled unchanged sus_tsk
request_pending = refl

-- a record in which the interrupt takes the request there is refused
abbrev pub asked : List Event
asked = call_on 2 (call.System system.DisDsp) ∷ asks 1 (tasks.SusTsk (pos 2)) ∷ []

wrong_answer_refused : SignalsFit both_start (as_proc 2) (report_processor both_start (as_proc 2) (report both_start asked)) (record (step numbered (later both_start asked) (ipi_on 2)).1 { answer = answer.Taken }) → ⊥
unfolding numbered before_event settled unchanged sus_tsk
wrong_answer_refused h = false≢true (sym (h.interrupt_taken refl))

request_over : pending_on_second (asking ++ call_on 2 (call.System system.EnaDsp) ∷ []) ≡ false ∷ false ∷ []
unfolding numbered before_event settled unchanged sus_tsk
request_over = refl

-- A task of each of two processors waits for a semaphore that is served by priority. The third task, which comes second, is the more
-- urgent one.

abbrev pub queueing : Setup
queueing = record (of_tasks 3 (a_task (sole 1) 10 true ∷ a_task (sole 2) 10 true ∷ a_task (sole 3) 5 true ∷ [])) {
  semaphores = record { order = order.Priority; initial = 0; most = 1 } ∷ [];
}

abbrev pub waiting : List Event
waiting = call_on 2 (call.Sync (sync.WaiSem (pos 1))) ∷ call_on 3 (call.Sync (sync.WaiSem (pos 1))) ∷ []

abbrev pub giving : Event
giving = call_on 1 (call.Sync (sync.SigSem (pos 1)))

abbrev pub places : List Event → Places
places events = places_by queueing (report queueing events) (places_at_boot queueing)

abbrev pub given_by : List Event → Record
given_by events = (step numbered (later queueing events) giving).1

-- the second task began to wait first, and the third one is served
order_reported : began_before (places waiting) (as_task 2) (as_task 3) ∷ is_served_before (places waiting) true (as_task 3) (as_task 2) ∷ [] ≡ true ∷ true ∷ []
unfolding numbered before_event settled unchanged twai_sem
order_reported = refl

third_served : map (λ x. x.task.number) (given_by waiting).releases ≡ 3 ∷ []
unfolding numbered before_event settled unchanged twai_sem sig_sem
third_served = refl

-- with the same priority as the third task the second one comes after it, since its wait begins anew
abbrev pub as_urgent : List Event
as_urgent = waiting ++ asks 1 (tasks.ChgPri (pos 2) (pos 5)) ∷ []

anew_reported : is_served_before (places as_urgent) true (as_task 3) (as_task 2) ∷ is_served_before (places as_urgent) true (as_task 2) (as_task 3) ∷ [] ≡ true ∷ false ∷ []
unfolding numbered before_event settled unchanged twai_sem chg_pri
anew_reported = refl

third_served_again : map (λ x. x.task.number) (given_by as_urgent).releases ≡ 3 ∷ []
unfolding numbered before_event settled unchanged twai_sem sig_sem chg_pri
third_served_again = refl

-- a record in which the second task is served is refused
abbrev pub wrong_release : Release
wrong_release = record { task = as_task 2; code = code.Accepted; value = None }

wrong_refused : ServesInOrder queueing (places waiting) (record (given_by waiting) { releases = wrong_release ∷ [] }) → ⊥
unfolding numbered before_event settled unchanged twai_sem sig_sem
wrong_refused h =
    let second : OpenWait = record { wait = wait.Semaphore (as_object 1); left = None; assigned = as_proc 2 } in
    let third : OpenWait = record { wait = wait.Semaphore (as_object 1); left = None; assigned = as_proc 3 } in
    false≢true (sym (h.next refl 0 wrong_release (omega arith) refl refl second third (as_task 3) refl refl refl))

-- Three tasks of one processor: the first one rotates the ready tasks of its priority, and later the third one is released.

abbrev pub lining_up : Setup
lining_up = record (of_tasks 1 (a_task (sole 1) 10 true ∷ a_task (sole 1) 10 true ∷ a_task (sole 1) 10 true ∷ [])) {
  semaphores = record { order = order.First; initial = 0; most = 1 } ∷ [];
}

abbrev pub rotating : List Event
rotating = call_on 1 (call.System (system.RotRdq (pos 10))) ∷ []

abbrev pub stand : List Event → Standing
stand events = report_standing lining_up (report lining_up events)

abbrev pub line_reported : List Event → List ℕ
line_reported events = map (λ t. t.number) (ready_reported lining_up (stand events) (as_proc 1) (as_pri 10))

abbrev pub line_there : List Event → List ℕ
line_there events = let m = later lining_up events in map (λ t. t.number) (numbered.ready m.order m.tasks (as_proc 1) (as_pri 10))

second_first : line_reported rotating ∷ line_there rotating ∷ [] ≡ (2 ∷ 3 ∷ 1 ∷ []) ∷ (2 ∷ 3 ∷ 1 ∷ []) ∷ []
unfolding numbered before_event settled unchanged rotation
second_first = refl

-- the second and the third task wait, and the second one is served: it comes after the first one, which runs
abbrev pub serving : List Event
serving = rotating ++ call_on 1 (call.Sync (sync.WaiSem (pos 1))) ∷ call_on 1 (call.Sync (sync.WaiSem (pos 1))) ∷ call_on 1 (call.Sync (sync.SigSem (pos 1))) ∷ []

second_after : line_reported serving ∷ line_there serving ∷ [] ≡ (1 ∷ 2 ∷ []) ∷ (1 ∷ 2 ∷ []) ∷ []
unfolding numbered before_event settled unchanged rotation twai_sem sig_sem
second_after = refl

-- a state in which the first task is still the top is refused
wrong_top_refused : AreReadyReported lining_up (stand rotating) (booted lining_up) (as_proc 1) → ⊥
unfolding numbered before_event settled unchanged rotation
wrong_top_refused h = let e : 1 ≡ 2 = ap (λ o. unwrap_or (option_map (λ t. t.number) o) 0) h.top in omega (arith, e)

-- The task of processor 1 activates one of processor 2 that is more urgent than what runs there, and so sends it a request.

abbrev pub urgent : Setup
urgent = of_tasks 2 (a_task (sole 1) 10 true ∷ a_task (sole 2) 10 true ∷ a_task (sole 2) 5 false ∷ [])

abbrev pub activation : Record
activation = (step numbered (booted urgent) (asks 1 (tasks.ActTsk (pos 3)))).1

request_sent : map (λ p. p.number) activation.requests ≡ 2 ∷ []
unfolding numbered before_event settled unchanged act
request_sent = refl

top_changes : changes_top urgent (report_standing urgent []) activation (as_proc 2) ≡ true
unfolding numbered before_event settled unchanged act
top_changes = refl

-- a record without the request is refused
lost_request_refused : RequestsAreDue urgent (report_standing urgent []) (record activation { requests = [] }) → ⊥
unfolding numbered before_event settled unchanged act
lost_request_refused h = false≢true (h.sent (as_proc 2) (omega arith))

abbrev pub lining_up_apart : Setup
lining_up_apart = of_tasks 2 (a_task (sole 1) 10 true ∷ a_task (sole 2) 10 true ∷ a_task (sole 2) 10 false ∷ [])

-- so is one in which the task of processor 1 activates one that is no more urgent, and sends a request
abbrev pub needless : Record
needless = (step numbered (booted lining_up_apart) (asks 1 (tasks.ActTsk (pos 3)))).1

needless_request_refused : RequestsAreDue lining_up_apart (report_standing lining_up_apart []) (record needless { requests = as_proc 2 ∷ [] }) → ⊥
unfolding numbered before_event settled unchanged act
needless_request_refused h = false≢true (sym (h.sent (as_proc 2) (omega arith)))
