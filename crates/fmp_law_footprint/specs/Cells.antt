-- A state, cut into cells: the parts that an event may change or read. Cells of a kind have places from 0, as in a list: what has the number 1 is at place 0.
use Rattle.std.specs.Prelude.{ℕ, ℤ, ◌-◌, Bool, false, Option, None, List, [], slice_index_or}
use Rattle.fmp_codes.specs.Numbers.{as_proc}
use Rattle.fmp_codes.specs.declared.numbers.Proc.{Proc}
use Rattle.fmp_codes.specs.declared.numbers.Task.{Task}
use Rattle.fmp_codes.specs.declared.numbers.Object.{Object}
use Rattle.fmp_codes.specs.declared.records.Runner.{Runner}
use Rattle.fmp_rules.specs.declared.machine.TaskRecord.{TaskRecord}
use Rattle.fmp_rules.specs.declared.machine.Wait.{Wait}
use Rattle.fmp_rules.specs.declared.machine.QueueKind.{QueueKind}
use Rattle.fmp_rules.specs.declared.machine.Processor.{Processor}
use Rattle.fmp_rules.specs.declared.machine.Semaphore.{Semaphore}
use Rattle.fmp_rules.specs.declared.machine.Eventflag.{Eventflag}
use Rattle.fmp_rules.specs.declared.machine.Pool.{Pool}
use Rattle.fmp_rules.specs.declared.machine.Cyclic.{Cyclic}
use Rattle.fmp_rules.specs.declared.machine.Alarm.{Alarm}
use Rattle.fmp_rules.specs.World.{World, no_processor, no_task}
use Rattle.fmp_rules.specs.Objects.{blank_semaphore, blank_eventflag, blank_pool, no_cyclic, no_alarm}
use Rattle.fmp_law_footprint.specs.Shapes.{Frame, frame}

pub data Cell : Type 0 where
  OfTask : ℕ → Cell  -- the record of a task, but for what the next two cells have
  CountsOf : ℕ → Cell  -- its queued activations, with the processor that is kept for them, and its queued wakeups
  WaitOf : ℕ → Cell  -- what it waits for
  LeftOf : ℕ → Cell  -- the ticks left of its wait
  SpotOf : ℕ → Cell  -- where it stands among others, so far as that is kept for it alone
  ReadyOn : ℕ → Cell  -- the order of the ready tasks of a processor
  WaitersOf : QueueKind → ℕ → Cell  -- the order of those who wait in the queue of an object
  TimedWaits : Cell  -- the order of the tasks with ticks left
  Arriving : Cell  -- what is kept for all tasks to tell them apart by when they came
  OfProcessor : ℕ → Cell  -- which task a processor runs, whether it is CPU-locked, and whether its dispatching is disabled
  LatchOf : ℕ → Cell  -- whether a request is pending there
  DueOn : ℕ → Cell  -- the handlers that are due there
  OfSemaphore : ℕ → Cell
  OfEventflag : ℕ → Cell
  OfDataQueue : ℕ → Cell  -- the values in it
  OfPool : ℕ → Cell
  OfCyclic : ℕ → Cell  -- where it is assigned, and the ticks left of it
  OfAlarm : ℕ → Cell  -- likewise
  OfLock : ℕ → Cell  -- who holds a spin lock
  Shape : Cell  -- what no event changes

-- the place of a task, of an object and of a processor
abbrev pub at : Task → ℕ
at t = t.number - 1

abbrev pub there : Object → ℕ
there o = o.number - 1

abbrev pub on : Proc → ℕ
on p = p.number - 1

-- the record of a task, but for its wait and for what is counted
abbrev pub standing : TaskRecord → TaskRecord
standing r = record r { wait = None; activations = 0; kept = None; wakeups = 0 }

-- what is counted for a task
abbrev pub tally : TaskRecord → ℕ × Option Proc × ℕ
tally r = (r.activations, r.kept, r.wakeups)

-- a processor, but for the request that is pending there
abbrev pub unlatched : Processor → Processor
unlatched c = record c { latch = false }

abbrev pub blank_cyclic : Cyclic
blank_cyclic = record { setup = no_cyclic; assigned = as_proc 1 }

abbrev pub blank_alarm : Alarm
blank_alarm = record { setup = no_alarm; assigned = as_proc 1 }

-- what each cell has of a state. Of the order it has nothing here, since each way to keep one says that by itself
abbrev pub Value : Cell → Type 0
Value (OfTask n) = TaskRecord
Value (CountsOf n) = ℕ × Option Proc × ℕ
Value (WaitOf n) = Option Wait
Value (LeftOf n) = Option ℕ
Value (OfProcessor n) = Processor
Value (LatchOf n) = Bool
Value (DueOn n) = List Runner
Value (OfSemaphore n) = Semaphore
Value (OfEventflag n) = Eventflag
Value (OfDataQueue n) = List ℤ
Value (OfPool n) = Pool
Value (OfCyclic n) = Cyclic × Option ℕ
Value (OfAlarm n) = Alarm × Option ℕ
Value (OfLock n) = Option Proc
Value Shape = Frame
Value _ = Unit {0}

module _ {Q : Type 0} (w : World Q) where
  abbrev pub value : (c : Cell) → Value c
  value (OfTask n) = standing (slice_index_or w.tasks n no_task)
  value (CountsOf n) = tally (slice_index_or w.tasks n no_task)
  value (WaitOf n) = (slice_index_or w.tasks n no_task).wait
  value (LeftOf n) = slice_index_or w.waits_left n None
  value (OfProcessor n) = unlatched (slice_index_or w.processors n no_processor)
  value (LatchOf n) = (slice_index_or w.processors n no_processor).latch
  value (DueOn n) = slice_index_or w.due n []
  value (OfSemaphore n) = slice_index_or w.semaphores n blank_semaphore
  value (OfEventflag n) = slice_index_or w.eventflags n blank_eventflag
  value (OfDataQueue n) = slice_index_or w.contents n []
  value (OfPool n) = slice_index_or w.pools n blank_pool
  value (OfCyclic n) = (slice_index_or w.cyclics n blank_cyclic, slice_index_or w.cyclics_left n None)
  value (OfAlarm n) = (slice_index_or w.alarms n blank_alarm, slice_index_or w.alarms_left n None)
  value (OfLock n) = slice_index_or w.holders n None
  value Shape = frame w
  value (SpotOf n) = tt
  value (ReadyOn n) = tt
  value (WaitersOf x n) = tt
  value TimedWaits = tt
  value Arriving = tt
