-- The texts of the values. Places count from 0, and numbers from 1.
use Rattle.std.specs.Prelude.{ℕ, ◌+◌, Bool, true, false, Option, None, Some, List, [], ◌∷◌, ◌++◌, length, codes, decimal}
use Rattle.fmp_codes.specs.Numbers.{as_object, as_proc, as_task, task_number}
use Rattle.fmp_codes.specs.declared.numbers.Object.{Object}
use Rattle.fmp_codes.specs.declared.numbers.Pri.{Pri}
use Rattle.fmp_codes.specs.declared.numbers.Proc.{Proc}
use Rattle.fmp_codes.specs.declared.numbers.Task.{Task}
use Rattle.fmp_codes.specs.declared.records.Runner.{Runner}
use Rattle.fmp_codes.specs.declared.records.Runner.TheVariants as runners
use Rattle.fmp_rules.specs.World.{item, processor, task}
use Rattle.fmp_rules.specs.Objects.{alarm, cyclic, eventflag, holder, pool, semaphore, values, free_blocks}
use Rattle.fmp_rules.specs.declared.machine.Pool.{Pool}
use Rattle.fmp_rules.specs.declared.machine.Processor.{Processor}
use Rattle.fmp_rules.specs.declared.machine.TaskRecord.{TaskRecord}
use Rattle.fmp_rules.specs.declared.machine.Wait.{Wait}
use Rattle.fmp_rules.specs.declared.machine.Wait.TheVariants as waits
use Rattle.fmp_rules.specs.TaskStates.{task_state}
use Rattle.fmp_run_view.specs.declared.signal.Signal.{Signal}
use Rattle.fmp_run_view.specs.declared.signal.Signal.TheVariants as signals
use Rattle.fmp_rules.specs.declared.states.TaskState.{TaskState}
use Rattle.fmp_rules.specs.declared.states.TaskState.TheVariants.{Dormant, Ready, Running, Waiting, Suspended, WaitingSuspended}
use Rattle.fmp_run_view.specs.declared.value.Value.{Value}
use Rattle.fmp_run_view.specs.declared.value.Value.TheVariants as shown
use Rattle.fmp_run_view.specs.Moments.{Moment}
use Rattle.fmp_run_view.specs.Ticks.{started_text, until_of, until_text}

abbrev pub proc_number : Option Proc → ℕ
proc_number None = 0
proc_number (Some p) = p.number

abbrev pub flag_text : Bool → List ℕ → List ℕ
flag_text true text = text
flag_text false text = []

-- the letters of what holds on a processor: locked, disabled, a pending request
unfoldable pub flags_text : Bool → Bool → Bool → List ℕ
flags_text false false false = codes "-"
flags_text locked disabled latch = flag_text locked (codes "l") ++ flag_text disabled (codes "d") ++ flag_text latch (codes "i")

abbrev pub handler_text : Runner → List ℕ
handler_text (runners.Task t) = codes "T" ++ decimal t.number
handler_text (runners.Alarm a) = codes "A" ++ decimal a.number
handler_text (runners.Cyclic c) = codes "C" ++ decimal c.number

abbrev pub handlers_after : List Runner → List ℕ
handlers_after [] = []
handlers_after (r ∷ rs) = codes "," ++ handler_text r ++ handlers_after rs

-- the due handlers, the running one first
abbrev pub due_text : List Runner → List ℕ
due_text [] = codes "-"
due_text (r ∷ rs) = handler_text r ++ handlers_after rs

abbrev pub state_letter : TaskState → List ℕ
state_letter Dormant = codes "-"
state_letter Ready = codes "y"
state_letter Running = codes "r"
state_letter Waiting = codes "w"
state_letter Suspended = codes "s"
state_letter WaitingSuspended = codes "x"

unfoldable pub object_wait : List ℕ → Object → List ℕ
object_wait word o = word ++ decimal o.number

-- what a task waits for
abbrev pub wait_text : Option Wait → List ℕ
wait_text None = []
wait_text (Some waits.Sleep) = codes " slp"
wait_text (Some waits.Delay) = codes " dly"
wait_text (Some (waits.Semaphore s)) = object_wait (codes " sem ") s
wait_text (Some (waits.Eventflag f pattern mode)) = object_wait (codes " flg ") f
wait_text (Some (waits.Send d value)) = object_wait (codes " sdtq ") d
wait_text (Some (waits.Receive d)) = object_wait (codes " rdtq ") d
wait_text (Some (waits.Pool m)) = object_wait (codes " mpf ") m

-- a task's state, what it waits for, and when that is over
unfoldable pub state_text : TaskState → Option Wait → Option ℕ → List ℕ
state_text state wait until = state_letter state ++ wait_text wait ++ until_text until

-- a task's processor, priority, queued activations and queued wakeups
unfoldable pub rest_text : Proc → Pri → ℕ → ℕ → List ℕ
rest_text p priority activations wakeups =
    decimal p.number ++ codes " " ++ decimal priority.number ++ codes " " ++ decimal activations ++ codes " " ++ decimal wakeups

-- the text of a value
abbrev pub text_of : Value → List ℕ
text_of (shown.Number n) = decimal n
text_of (shown.Flags locked disabled latch) = flags_text locked disabled latch
text_of (shown.State state wait until) = state_text state wait until
text_of (shown.Rest p priority activations wakeups) = rest_text p priority activations wakeups
text_of (shown.Started p until) = started_text p until

abbrev pub flags_of : Processor → Value
flags_of x = shown.Flags x.locked x.disabled x.latch

abbrev pub rest_of : TaskRecord → Value
rest_of x = shown.Rest x.assigned x.priority x.activations x.wakeups

module _ (m : Moment) where
  abbrev pub state_of : Task → TaskRecord → Value
  state_of t x = shown.State (task_state t x (processor m.state x.assigned).running) x.wait (until_of m x.assigned (item None m.state.waits_left t.number))

  -- a handler that is assigned to a processor and has so many ticks left, if it is started
  abbrev pub started_of : Proc → Option ℕ → Value
  started_of p left = shown.Started p (until_of m p left)

  -- the text of the value at this place
  abbrev pub value_text : Signal → ℕ → List ℕ
  value_text signals.Running i = decimal (task_number (processor m.state (as_proc (i + 1))).running)
  value_text signals.Flags i = text_of (flags_of (processor m.state (as_proc (i + 1))))
  value_text signals.Due i = due_text (item [] m.state.due (as_proc (i + 1)).number)
  value_text signals.State i = text_of (state_of (as_task (i + 1)) (task m.state (as_task (i + 1))))
  value_text signals.Place i = decimal (item 0 m.state.order.ready (as_task (i + 1)).number)
  value_text signals.Rest i = text_of (rest_of (task m.state (as_task (i + 1))))
  value_text signals.Semaphore i = decimal (semaphore m.state (as_object (i + 1))).count
  value_text signals.Eventflag i = decimal (eventflag m.state (as_object (i + 1))).pattern
  value_text signals.DataQueue i = decimal (length (values m.state (as_object (i + 1))))
  value_text signals.Pool i = decimal (free_blocks (pool m.state (as_object (i + 1))))
  value_text signals.Cyclic i = text_of (started_of (cyclic m.state (as_object (i + 1))).assigned (item None m.state.cyclics_left (as_object (i + 1)).number))
  value_text signals.Alarm i = text_of (started_of (alarm m.state (as_object (i + 1))).assigned (item None m.state.alarms_left (as_object (i + 1)).number))
  value_text signals.SpinLock i = decimal (proc_number (holder m.state (as_object (i + 1))))
