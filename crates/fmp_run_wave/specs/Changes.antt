-- The lines of the signals whose values an event changed, in the order of their declarations.
use Rattle.std.specs.Prelude.{ℕ, Bool, true, false, ◌==◌, Option, List, [], ◌++◌, length, if◌then◌else◌}
use Rattle.std.specs.Str.{bytes_eq}
use Rattle.fmp_codes.specs.Numbers.{as_proc, as_task}
use Rattle.fmp_codes.specs.declared.numbers.Proc.{Proc}
use Rattle.fmp_codes.specs.declared.numbers.Task.{Task}
use Rattle.fmp_codes.specs.declared.records.Runner.{Runner}
use Rattle.fmp_rules.specs.declared.machine.Wait.{Wait}
use Rattle.fmp_rules.specs.World.{item}
use Rattle.fmp_names.specs.Names.{NameLists}
use Rattle.fmp_trace.specs.Lines.{runner_text, running_text}
use Rattle.fmp_run_wave.specs.declared.resource.Resource.{Resource}
use Rattle.fmp_run_wave.specs.declared.resource.Resource.TheVariants as resources
use Rattle.fmp_run_wave.specs.declared.signal.Signal.{Signal}
use Rattle.fmp_run_wave.specs.declared.signal.Signal.TheVariants as signals
use Rattle.fmp_run_wave.specs.declared.snapshot.ShownProcessor.{ShownProcessor}
use Rattle.fmp_run_wave.specs.declared.snapshot.ShownTask.{ShownTask}
use Rattle.fmp_run_wave.specs.declared.snapshot.TaskNumbers.{TaskNumbers}
use Rattle.fmp_rules.specs.declared.states.TaskState.{TaskState}
use Rattle.fmp_run_wave.specs.Listing.{each}
use Rattle.fmp_run_wave.specs.Resources.{signal_of}
use Rattle.fmp_run_wave.specs.Shown.{Shown, no_task_shown, nothing_shown, numbers_of}
use Rattle.fmp_run_wave.specs.Values.{bit_value, due_value, number_value, running_value, state_value, state_word, wait_text, wait_value}

-- a line, if the text of its value is not the old one
abbrev pub if_other : List ℕ → List ℕ → List ℕ → List ℕ
if_other old new line = if bytes_eq old new then [] else line

-- a signal of one bit
abbrev pub bit_change : Signal → ℕ → Bool → Bool → List ℕ
bit_change signal n true true = []
bit_change signal n false false = []
bit_change signal n old new = bit_value signal n new

-- the task that runs on a processor
abbrev pub running_change : NameLists → Proc → Option Task → Option Task → List ℕ
running_change lists p old new = if_other (running_text lists old) (running_text lists new) (running_value lists p new)

-- the locks of a processor and its latch
unfoldable pub flag_changes : Proc → ShownProcessor → ShownProcessor → List ℕ
flag_changes p old new =
    bit_change signals.Locked p.number old.locked new.locked
    ++ bit_change signals.Disabled p.number old.disabled new.disabled
    ++ bit_change signals.Latch p.number old.latch new.latch

-- the handler that is due on a processor
abbrev pub due_change : NameLists → Proc → Option Runner → Option Runner → List ℕ
due_change lists p old new = if_other (runner_text lists old) (runner_text lists new) (due_value lists p new)

unfoldable pub processor_changes : NameLists → Proc → ShownProcessor → ShownProcessor → List ℕ
processor_changes lists p old new = running_change lists p old.running new.running ++ flag_changes p old new ++ due_change lists p old.due new.due

-- the state of a task, and what it waits for
abbrev pub state_change : Task → TaskState → TaskState → List ℕ
state_change t old new = if_other (state_word old) (state_word new) (state_value t new)

abbrev pub wait_change : NameLists → Task → Option Wait → Option Wait → List ℕ
wait_change lists t old new = if_other (wait_text lists old) (wait_text lists new) (wait_value lists t new)

-- a number
abbrev pub number_change : Signal → ℕ → ℕ → ℕ → List ℕ
number_change signal n old new = if old == new then [] else number_value signal n new

-- the numbers of a task
unfoldable pub counts_change : Task → TaskNumbers → TaskNumbers → List ℕ
counts_change t old new =
    number_change signals.Priority t.number old.priority new.priority
    ++ number_change signals.Activations t.number old.activations new.activations
    ++ number_change signals.Wakeups t.number old.wakeups new.wakeups

-- the state of a task, what it waits for, and its numbers
unfoldable pub task_changes : NameLists → Task → ShownTask → ShownTask → List ℕ
task_changes lists t old new = state_change t old.state new.state ++ wait_change lists t old.wait new.wait ++ counts_change t old.numbers new.numbers

-- of the processor, of the task, and of the object of a kind that has this number
abbrev pub processor_told : NameLists → ℕ → ShownProcessor → ShownProcessor → List ℕ
processor_told lists n old new = processor_changes lists (as_proc n) old new

abbrev pub task_told : NameLists → ℕ → ShownTask → ShownTask → List ℕ
task_told lists n old new = task_changes lists (as_task n) old new

abbrev pub number_told : Resource → ℕ → ℕ → ℕ → List ℕ
number_told r n old new = number_change (signal_of r) n old new

-- of all that a list shows now, by what was shown before
abbrev pub told_of : {X : Type 0} → (ℕ → X → X → List ℕ) → X → List X → List X → List ℕ
told_of told blank old new = each (λ n. told n (item blank old n) (item blank new n)) (length new)

module _ (old new : Shown) where
  -- of all objects of a kind
  abbrev pub numbers_changes : Resource → List ℕ
  numbers_changes r = told_of (number_told r) 0 (numbers_of old r) (numbers_of new r)

-- of all objects that have a number
unfoldable pub objects_changes : Shown → Shown → List ℕ
objects_changes old new =
    numbers_changes old new resources.Semaphore
    ++ numbers_changes old new resources.Eventflag
    ++ numbers_changes old new resources.DataQueue
    ++ numbers_changes old new resources.Pool
    ++ numbers_changes old new resources.SpinLock

-- of all signals but the calls, which are told of each event
unfoldable pub changes_text : NameLists → Shown → Shown → List ℕ
changes_text lists old new =
    told_of (processor_told lists) nothing_shown old.processors new.processors
    ++ told_of (task_told lists) no_task_shown old.tasks new.tasks
    ++ objects_changes old new
