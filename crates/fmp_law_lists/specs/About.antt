-- What an event of a processor is about, and the cells of that.
use Rattle.std.specs.Prelude.{ℕ, ◌==◌, ◌||◌, ◌&&◌, slice_index_or, Bool, false, Option, None, Some, List, [], ◌∷◌, is_some}
use Rattle.std.specs.List.{list_any}
use Rattle.fmp_codes.specs.declared.numbers.Proc.{Proc}
use Rattle.fmp_codes.specs.declared.numbers.Task.{Task}
use Rattle.fmp_rules.specs.declared.machine.QueueKind.{QueueKind}
use Rattle.fmp_rules.specs.declared.machine.QueueKind.TheVariants as kind
use Rattle.fmp_rules.specs.declared.machine.Wait.{Wait}
use Rattle.fmp_rules.specs.declared.machine.Wait.TheVariants as wait
use Rattle.fmp_rules.specs.Processors.{is_at}
use Rattle.fmp_rules.specs.Tick.{counted_down, is_over}
use Rattle.fmp_setup.specs.Setup.{counts_for}
use Rattle.fmp_rules.specs.World.{World, no_task, task, item}
use Rattle.fmp_law_footprint.specs.Cells.{Cell, OfTask, CountsOf, WaitOf, LeftOf, SpotOf, ReadyOn, WaitersOf, TimedWaits, Arriving, OfProcessor, LatchOf, DueOn, OfSemaphore, OfEventflag, OfDataQueue, OfPool, OfCyclic, OfAlarm, OfLock, Shape, at, there, on, blank_cyclic, blank_alarm, value}

-- Tasks and places of objects that an event names or serves. More may be named than the event changes.
pub record About : Type 0 where
  pub tasks : List Task
  pub processors : List ℕ  -- besides its own: those to which a task may go, or whose ready tasks it reads
  pub semaphores : List ℕ
  pub eventflags : List ℕ
  pub data_queues : List ℕ
  pub pools : List ℕ
  pub cyclics : List ℕ
  pub alarms : List ℕ
  pub locks : List ℕ
  pub timed : Bool  -- a timed wait may begin
  pub frees : Bool  -- what the processor holds is freed
  pub all_locks : Bool  -- it is asked whether the processor holds any spin lock
  pub ticks : Bool  -- the event is a tick of the processor

abbrev pub nothing : About
nothing = record {
  tasks = [];
  processors = [];
  semaphores = [];
  eventflags = [];
  data_queues = [];
  pools = [];
  cyclics = [];
  alarms = [];
  locks = [];
  timed = false;
  frees = false;
  all_locks = false;
  ticks = false;
}

abbrev pub has : List ℕ → ℕ → Bool
has ns n = list_any (λ m. m == n) ns

-- a wait stands in this queue of the object at a place
abbrev pub stands_at : QueueKind → ℕ → Option Wait → Bool
stands_at kind.Semaphore n (Some (wait.Semaphore s)) = there s == n
stands_at kind.Eventflag n (Some (wait.Eventflag f pattern mode)) = there f == n
stands_at kind.Send n (Some (wait.Send d value)) = there d == n
stands_at kind.Receive n (Some (wait.Receive d)) = there d == n
stands_at kind.Pool n (Some (wait.Pool m)) = there m == n
stands_at x n other = false

module _ {Q : Type 0} (w : World Q) (p : Proc) (a : About) where
  abbrev pub is_named : ℕ → Bool
  is_named n = list_any (λ t. at t == n) a.tasks

  -- one of the tasks waits in the queue of the object at a place
  abbrev pub waits_there : QueueKind → ℕ → Bool
  waits_there x n = list_any (λ t. stands_at x n (task w t).wait) a.tasks

  -- one of the tasks is assigned to the processor at a place, or this processor is one of those named
  abbrev pub runs_there : ℕ → Bool
  runs_there n = list_any (λ t. on (task w t).assigned == n) a.tasks || has (on p ∷ a.processors) n

  -- a tick counts for the task at a place
  abbrev pub counts_task : ℕ → Bool
  counts_task n = a.ticks && counts_for w.timer p (slice_index_or w.tasks n no_task).assigned

  abbrev pub counts_cyclic : ℕ → Bool
  counts_cyclic n =
      a.ticks && (counts_for w.timer p (slice_index_or w.cyclics n blank_cyclic).assigned || is_over (slice_index_or (counted_down w p).cyclics_left n None))

  abbrev pub counts_alarm : ℕ → Bool
  counts_alarm n =
      a.ticks && (counts_for w.timer p (slice_index_or w.alarms n blank_alarm).assigned || is_over (slice_index_or (counted_down w p).alarms_left n None))

  -- the cells of all this
  abbrev pub is_about : Cell → Bool
  is_about (OfTask n) = is_named n || counts_task n
  is_about (CountsOf n) = is_named n
  is_about (WaitOf n) = is_named n
  is_about (LeftOf n) = is_named n || counts_task n
  is_about (SpotOf n) = is_named n
  is_about (ReadyOn n) = runs_there n
  is_about (LatchOf n) = runs_there n
  is_about (WaitersOf kind.Semaphore n) = waits_there kind.Semaphore n || has a.semaphores n
  is_about (WaitersOf kind.Eventflag n) = waits_there kind.Eventflag n || has a.eventflags n
  is_about (WaitersOf kind.Send n) = waits_there kind.Send n || has a.data_queues n
  is_about (WaitersOf kind.Receive n) = waits_there kind.Receive n || has a.data_queues n
  is_about (WaitersOf kind.Pool n) = waits_there kind.Pool n || has a.pools n
  is_about TimedWaits = list_any (λ t. is_some (item None w.waits_left t.number)) a.tasks || a.timed
  is_about Arriving = false
  is_about (OfProcessor n) = on p == n
  is_about (DueOn n) = on p == n
  is_about (OfSemaphore n) = waits_there kind.Semaphore n || has a.semaphores n
  is_about (OfEventflag n) = waits_there kind.Eventflag n || has a.eventflags n
  is_about (OfDataQueue n) = has a.data_queues n
  is_about (OfPool n) = waits_there kind.Pool n || has a.pools n
  is_about (OfCyclic n) = has a.cyclics n || counts_cyclic n
  is_about (OfAlarm n) = has a.alarms n || counts_alarm n
  is_about (OfLock n) = has a.locks n || ((a.frees && is_at p (slice_index_or w.holders n None)) || a.all_locks)
  is_about Shape = false
