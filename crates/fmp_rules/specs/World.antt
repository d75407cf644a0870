-- believed: see docs/PROOF.md, "What has to be believed"
-- The state of the machine, over any way Q to keep what came before what.
-- All is numbered from 1. Where there is none of a number, a lookup gives a blank record and a change does nothing.
-- A block `module _ (..) where` says once what its rules take first: what is `act t` in it is `act k w t` elsewhere.
use Rattle.std.specs.Prelude.{ℕ, ℤ, ◌-◌, Bool, false, ◌||◌, Option, None, Some, List, [], ◌∷◌, map, length, slice_index_or, slice_set, option_map, replicate, is_some}
use Rattle.std.specs.List.{range_with_len}
use Rattle.std.specs.Option.{option_or}
use Rattle.fmp_codes.specs.Numbers.{as_proc, as_pri}
use Rattle.fmp_codes.specs.declared.numbers.Proc.{Proc}
use Rattle.fmp_codes.specs.declared.numbers.Task.{Task}
use Rattle.fmp_codes.specs.declared.records.Runner.{Runner}
use Rattle.fmp_codes.specs.declared.records.Runner.TheVariants as runner
use Rattle.fmp_setup.specs.declared.setup.Timer.{Timer}
use Rattle.fmp_setup.specs.declared.setup.Limits.{Limits}
use Rattle.fmp_setup.specs.declared.setup.TaskSetup.{TaskSetup}
use Rattle.fmp_setup.specs.declared.setup.DataQueueSetup.{DataQueueSetup}
use Rattle.fmp_rules.specs.declared.machine.TaskRecord.{TaskRecord}
use Rattle.fmp_rules.specs.declared.machine.Processor.{Processor}
use Rattle.fmp_rules.specs.declared.machine.Semaphore.{Semaphore}
use Rattle.fmp_rules.specs.declared.machine.Eventflag.{Eventflag}
use Rattle.fmp_rules.specs.declared.machine.Pool.{Pool}
use Rattle.fmp_rules.specs.declared.machine.Cyclic.{Cyclic}
use Rattle.fmp_rules.specs.declared.machine.Alarm.{Alarm}

pub record World (Q : Type 0) : Type 0 where
  pub timer : Timer
  pub limits : Limits
  pub tasks : List TaskRecord
  pub waits_left : List (Option ℕ)  -- the ticks left of each task's wait, where it is timed
  pub processors : List Processor
  pub due : List (List Runner)  -- the handlers that are due on each processor, the running one first
  pub semaphores : List Semaphore
  pub eventflags : List Eventflag
  pub data_queues : List DataQueueSetup
  pub contents : List (List ℤ)  -- the values of each data queue, the oldest first
  pub pools : List Pool
  pub cyclics : List Cyclic
  pub cyclics_left : List (Option ℕ)  -- the ticks left of each cyclic that is started
  pub alarms : List Alarm
  pub alarms_left : List (Option ℕ)  -- the ticks left of each alarm that is started
  pub holders : List (Option Proc)  -- the processor that holds each spin lock
  pub order : Q

-- the item of a number from 1; past the last one the blank. No number is 0, by the types of the numbers
abbrev pub item : {X : Type 0} → X → List X → ℕ → X
item blank xs n = slice_index_or xs (n - 1) blank

-- the items with another one in the place of this number
abbrev pub with_item : {X : Type 0} → List X → ℕ → X → List X
with_item xs n x = slice_set xs (n - 1) x

-- the processors from 1 to n
abbrev pub processors_to : ℕ → List Proc
processors_to n = map as_proc (range_with_len 1 n)

abbrev pub first : {X : Type 0} → List X → Option X
first [] = None
first (x ∷ xs) = Some x

abbrev pub rest : {X : Type 0} → List X → List X
rest [] = []
rest (x ∷ xs) = xs

-- a dormant task, at the initial processor of its class
abbrev pub resting : TaskSetup → TaskRecord
resting s = record {
  setup = s;
  assigned = s.class.initial;
  priority = s.priority;
  active = false;
  wait = None;
  suspended = false;
  activations = 0;
  kept = None;
  wakeups = 0;
}

-- what stands where there is no task
abbrev pub no_task : TaskRecord
no_task = resting (record { class = record { initial = as_proc 1; members = replicate 8 false }; main = 1; priority = as_pri 1; starts = false })

-- what stands where there is no processor
abbrev pub no_processor : Processor
no_processor = record { running = None; locked = false; disabled = false; latch = false }

module _ {Q : Type 0} (w : World Q) where
  abbrev pub task : Task → TaskRecord
  task t = item no_task w.tasks t.number

  abbrev pub processor : Proc → Processor
  processor p = item no_processor w.processors p.number

  abbrev pub with_processor : Proc → Processor → World Q
  with_processor p x = record w { processors = with_item w.processors p.number x }

  -- all processors
  abbrev pub processors_of : List Proc
  processors_of = processors_to (length w.processors)

  -- the handler that is due on a processor, and runs there
  abbrev pub handler : Proc → Option Runner
  handler p = first (item [] w.due p.number)

  -- who makes the calls from a processor: the due handler, else the running task
  abbrev pub runner_of : Proc → Option Runner
  runner_of p = option_or (handler p) (option_map runner.Task (processor p).running)

  -- dispatching on a processor is held
  abbrev pub is_held : Proc → Bool
  is_held p = is_some (handler p) || (processor p).locked || (processor p).disabled
