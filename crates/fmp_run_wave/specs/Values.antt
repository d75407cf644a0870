-- The values of all signals, a line for each.
use Rattle.std.specs.Prelude.{ℕ, zero, suc, Bool, true, false, ◌==◌, ◌/◌, ◌%◌, nat_lt, Option, None, Some, List, [], ◌++◌, length, if◌then◌else◌, codes}
use Rattle.fmp_codes.specs.Numbers.{as_object, as_proc, as_task}
use Rattle.fmp_codes.specs.declared.numbers.Object.{Object}
use Rattle.fmp_codes.specs.declared.numbers.Proc.{Proc}
use Rattle.fmp_codes.specs.declared.numbers.Task.{Task}
use Rattle.fmp_codes.specs.declared.records.Runner.{Runner}
use Rattle.fmp_codes.specs.declared.kinds.ObjectKind.{ObjectKind}
use Rattle.fmp_codes.specs.declared.kinds.ObjectKind.TheVariants as objects
use Rattle.fmp_rules.specs.declared.machine.Wait.{Wait}
use Rattle.fmp_rules.specs.declared.machine.Wait.TheVariants as waits
use Rattle.fmp_names.specs.Names.{NameLists}
use Rattle.fmp_trace.specs.Lines.{runner_text, running_text}
use Rattle.fmp_trace.specs.Values.{named}
use Rattle.fmp_run_wave.specs.declared.resource.Resource.{Resource}
use Rattle.fmp_run_wave.specs.declared.resource.Resource.TheVariants as resources
use Rattle.fmp_run_wave.specs.declared.signal.Signal.{Signal}
use Rattle.fmp_run_wave.specs.declared.signal.Signal.TheVariants as signals
use Rattle.fmp_run_wave.specs.declared.snapshot.ShownProcessor.{ShownProcessor}
use Rattle.fmp_run_wave.specs.declared.snapshot.TaskNumbers.{TaskNumbers}
use Rattle.fmp_rules.specs.declared.states.TaskState.{TaskState}
use Rattle.fmp_rules.specs.declared.states.TaskState.TheVariants as states
use Rattle.fmp_run_wave.specs.Listing.{each}
use Rattle.fmp_run_wave.specs.Resources.{signal_of}
use Rattle.fmp_run_wave.specs.Shown.{Shown, number_at, numbers_of, on_processor, on_task}
use Rattle.fmp_run_wave.specs.Signals.{identifier}

-- what stands after a value of more than a bit
unfoldable pub value_end : Signal → ℕ → List ℕ
value_end signal n = codes " " ++ identifier signal n ++ codes "\n"

-- a value that is a text
unfoldable pub text_value : Signal → ℕ → List ℕ → List ℕ
text_value signal n text = codes "s" ++ text ++ value_end signal n

abbrev pub bit_text : Bool → List ℕ
bit_text true = codes "1"
bit_text false = codes "0"

unfoldable pub bit_value : Signal → ℕ → Bool → List ℕ
bit_value signal n bit = bit_text bit ++ identifier signal n ++ codes "\n"

-- the last so many bits of a number, the highest first, without zeros before them
unfoldable pub bits_text : ℕ → ℕ → List ℕ
bits_text zero n = []
bits_text (suc k) n = if nat_lt n 2 then bit_text (n == 1) else bits_text k (n / 2) ++ bit_text (n % 2 == 1)

-- a value that is a number, which has 64 bits at most
unfoldable pub number_value : Signal → ℕ → ℕ → List ℕ
number_value signal n number = codes "b" ++ bits_text 64 number ++ value_end signal n

-- the task that runs on a processor
abbrev pub running_value : NameLists → Proc → Option Task → List ℕ
running_value lists p running = text_value signals.Running p.number (running_text lists running)

-- the handler that is due on a processor
abbrev pub due_value : NameLists → Proc → Option Runner → List ℕ
due_value lists p due = text_value signals.Due p.number (runner_text lists due)

unfoldable pub flag_values : Proc → ShownProcessor → List ℕ
flag_values p x =
    bit_value signals.Locked p.number x.locked ++ bit_value signals.Disabled p.number x.disabled ++ bit_value signals.Latch p.number x.latch

-- before the first event there was none on a processor
unfoldable pub processor_values : NameLists → Proc → ShownProcessor → List ℕ
processor_values lists p x = running_value lists p x.running ++ text_value signals.Call p.number (codes "-") ++ flag_values p x ++ due_value lists p x.due

abbrev pub state_word : TaskState → List ℕ
state_word states.Dormant = codes "dormant"
state_word states.Ready = codes "ready"
state_word states.Running = codes "running"
state_word states.Waiting = codes "waiting"
state_word states.Suspended = codes "suspended"
state_word states.WaitingSuspended = codes "waiting-suspended"

abbrev pub state_value : Task → TaskState → List ℕ
state_value t state = text_value signals.State t.number (state_word state)

-- what a wait is for, and the name of the object
unfoldable pub object_wait : NameLists → List ℕ → ObjectKind → Object → List ℕ
object_wait lists word kind o = word ++ codes ":" ++ named lists kind o.number

-- what a task waits for, if it waits
abbrev pub wait_text : NameLists → Option Wait → List ℕ
wait_text lists None = codes "-"
wait_text lists (Some waits.Sleep) = codes "slp"
wait_text lists (Some waits.Delay) = codes "dly"
wait_text lists (Some (waits.Semaphore s)) = object_wait lists (codes "sem") objects.Semaphore s
wait_text lists (Some (waits.Eventflag f pattern mode)) = object_wait lists (codes "flg") objects.Eventflag f
wait_text lists (Some (waits.Send d value)) = object_wait lists (codes "sdtq") objects.DataQueue d
wait_text lists (Some (waits.Receive d)) = object_wait lists (codes "rdtq") objects.DataQueue d
wait_text lists (Some (waits.Pool m)) = object_wait lists (codes "mpf") objects.Pool m

abbrev pub wait_value : NameLists → Task → Option Wait → List ℕ
wait_value lists t wait = text_value signals.Wait t.number (wait_text lists wait)

-- the numbers of a task
unfoldable pub counts_values : Task → TaskNumbers → List ℕ
counts_values t x =
    number_value signals.Priority t.number x.priority
    ++ number_value signals.Activations t.number x.activations
    ++ number_value signals.Wakeups t.number x.wakeups

module _ (lists : NameLists) (s : Shown) where
  -- of the processor, and of the task, of this number
  unfoldable pub processor_lines : ℕ → List ℕ
  processor_lines n = processor_values lists (as_proc n) (on_processor s (as_proc n))

  unfoldable pub task_lines : ℕ → List ℕ
  task_lines n =
      state_value (as_task n) (on_task s (as_task n)).state
      ++ wait_value lists (as_task n) (on_task s (as_task n)).wait
      ++ counts_values (as_task n) (on_task s (as_task n)).numbers

-- of the object of a kind with this number
unfoldable pub number_line : Shown → Resource → ℕ → List ℕ
number_line s r n = number_value (signal_of r) (as_object n).number (number_at s r (as_object n))

-- of all objects of a kind
abbrev pub numbers_values : Shown → Resource → List ℕ
numbers_values s r = each (number_line s r) (length (numbers_of s r))

unfoldable pub objects_values : Shown → List ℕ
objects_values s =
    numbers_values s resources.Semaphore
    ++ numbers_values s resources.Eventflag
    ++ numbers_values s resources.DataQueue
    ++ numbers_values s resources.Pool
    ++ numbers_values s resources.SpinLock

unfoldable pub values_text : NameLists → Shown → List ℕ
values_text lists s = each (processor_lines lists s) (length s.processors) ++ each (task_lines lists s) (length s.tasks) ++ objects_values s
