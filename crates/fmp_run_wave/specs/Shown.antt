-- What a waveform shows of a state: what is shown of each processor, task and object, and nothing else.
use Rattle.std.specs.Prelude.{ℕ, false, None, List, length, map, if◌then◌else◌}
use Rattle.std.specs.List.{range_with_len}
use Rattle.fmp_codes.specs.Numbers.{as_object, as_proc, as_task}
use Rattle.fmp_codes.specs.declared.numbers.Object.{Object}
use Rattle.fmp_codes.specs.declared.numbers.Proc.{Proc}
use Rattle.fmp_codes.specs.declared.numbers.Task.{Task}
use Rattle.fmp_rules.specs.declared.machine.TaskRecord.{TaskRecord}
use Rattle.fmp_rules.specs.World.{World, handler, item, processor, task}
use Rattle.fmp_rules.specs.TaskStates.{task_state}
use Rattle.fmp_run_wave.specs.declared.resource.Resource.{Resource}
use Rattle.fmp_run_wave.specs.declared.resource.Resource.TheVariants.{Semaphore, Eventflag, DataQueue, Pool, SpinLock}
use Rattle.fmp_run_wave.specs.declared.snapshot.ShownProcessor.{ShownProcessor}
use Rattle.fmp_run_wave.specs.declared.snapshot.ShownTask.{ShownTask}
use Rattle.fmp_run_wave.specs.declared.snapshot.TaskNumbers.{TaskNumbers}
use Rattle.fmp_rules.specs.declared.states.TaskState.TheVariants.{Dormant}
use Rattle.fmp_run_wave.specs.Resources.{count_in, number_in}

-- of each processor, of each task, and of each object its number, in the order of their numbers
pub record Shown : Type 0 where
  pub processors : List ShownProcessor
  pub tasks : List ShownTask
  pub semaphores : List ℕ
  pub eventflags : List ℕ
  pub data_queues : List ℕ
  pub pools : List ℕ
  pub holders : List ℕ

-- what stands where there is no processor
abbrev pub nothing_shown : ShownProcessor
nothing_shown = record { running = None; locked = false; disabled = false; latch = false; due = None }

abbrev pub on_processor : Shown → Proc → ShownProcessor
on_processor s p = item nothing_shown s.processors p.number

-- what stands where there is no task, or a dormant one
abbrev pub no_numbers : TaskNumbers
no_numbers = record { priority = 0; activations = 0; wakeups = 0 }

-- what stands where there is no task: it is dormant
abbrev pub no_task_shown : ShownTask
no_task_shown = record { state = Dormant; wait = None; numbers = no_numbers }

abbrev pub on_task : Shown → Task → ShownTask
on_task s t = item no_task_shown s.tasks t.number

-- the priority of a task that is not dormant, and how many activations and wakeups of it are queued
abbrev pub task_numbers : TaskRecord → TaskNumbers
task_numbers x = if x.active then record { priority = x.priority.number; activations = x.activations; wakeups = x.wakeups } else no_numbers

-- the numbers of the objects of a kind
abbrev pub numbers_of : Shown → Resource → List ℕ
numbers_of s Semaphore = s.semaphores
numbers_of s Eventflag = s.eventflags
numbers_of s DataQueue = s.data_queues
numbers_of s Pool = s.pools
numbers_of s SpinLock = s.holders

-- that of one of them: 0 where there is none
abbrev pub number_at : Shown → Resource → Object → ℕ
number_at s r o = item 0 (numbers_of s r) o.number

module _ {Q : Type 0} (w : World Q) where
  abbrev pub shown_processor : Proc → ShownProcessor
  shown_processor p =
      let x = processor w p in
      record { running = x.running; locked = x.locked; disabled = x.disabled; latch = x.latch; due = handler w p }

  -- the state of a task, what it waits for, and its numbers
  abbrev pub shown_task : Task → ShownTask
  shown_task t =
      let x = task w t in
      record { state = task_state t x (processor w x.assigned).running; wait = x.wait; numbers = task_numbers x }

  abbrev pub shown_processors : List ShownProcessor
  shown_processors = map (λ n. shown_processor (as_proc n)) (range_with_len 1 (length w.processors))

  abbrev pub shown_tasks : List ShownTask
  shown_tasks = map (λ n. shown_task (as_task n)) (range_with_len 1 (length w.tasks))

  abbrev pub shown_numbers : Resource → List ℕ
  shown_numbers r = map (λ n. number_in w r (as_object n)) (range_with_len 1 (count_in w r))

  -- of the whole state
  abbrev pub shown_of : Shown
  shown_of = record {
    processors = shown_processors;
    tasks = shown_tasks;
    semaphores = shown_numbers Semaphore;
    eventflags = shown_numbers Eventflag;
    data_queues = shown_numbers DataQueue;
    pools = shown_numbers Pool;
    holders = shown_numbers SpinLock;
  }
