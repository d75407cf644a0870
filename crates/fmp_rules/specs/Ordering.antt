-- believed: see docs/PROOF.md, "What has to be believed"
-- Ways to keep what came before what, and the words by which tasks change.
use Rattle.std.specs.Prelude.{ℕ, Bool, false, not, ◌&&◌, ◌==◌, Option, None, Some, List, if◌then◌else◌, is_some}
use Rattle.fmp_codes.specs.declared.numbers.Proc.{Proc}
use Rattle.fmp_codes.specs.declared.numbers.Task.{Task}
use Rattle.fmp_codes.specs.declared.numbers.Object.{Object}
use Rattle.fmp_codes.specs.declared.numbers.Pri.{Pri}
use Rattle.fmp_setup.specs.declared.setup.Order.{Order}
use Rattle.fmp_setup.specs.declared.setup.Order.TheVariants as order
use Rattle.fmp_setup.specs.declared.setup.DataQueueSetup.{DataQueueSetup}
use Rattle.fmp_rules.specs.declared.machine.Semaphore.{Semaphore}
use Rattle.fmp_rules.specs.declared.machine.Eventflag.{Eventflag}
use Rattle.fmp_rules.specs.declared.machine.Pool.{Pool}
use Rattle.fmp_rules.specs.declared.machine.TaskRecord.{TaskRecord}
use Rattle.fmp_rules.specs.declared.machine.Wait.{Wait}
use Rattle.fmp_rules.specs.declared.machine.Wait.TheVariants as wait
use Rattle.fmp_rules.specs.declared.machine.QueueKind.{QueueKind}
use Rattle.fmp_rules.specs.declared.machine.QueueKind.TheVariants as kind
use Rattle.fmp_rules.specs.World.{World, task, item, with_item}
use Rattle.fmp_rules.specs.Objects.{blank_semaphore, blank_eventflag, no_data_queue, blank_pool}

-- A reader may take Q for Arrivals, where all of this is told by numbers (`numbered`); the other Q is the kernel's queues.
pub record Ordering (Q : Type 0) : Type 0 where
  -- a task becomes the last of its priority on its processor
  pub put_last : Q → TaskRecord → Task → Q
  -- a task is no longer ready
  pub take_out : Q → TaskRecord → Task → Q
  -- the task that comes first on a processor
  pub top : Q → List TaskRecord → Proc → Option Task
  -- the ready tasks of a processor and a priority, in their order
  pub ready : Q → List TaskRecord → Proc → Pri → List Task
  -- a task begins to wait: it is the last in its queue, and where it has ticks left the last of the timed waits
  pub join : Q → Order → TaskRecord → Option ℕ → Task → Q
  -- its wait is over
  pub leave : Q → TaskRecord → Task → Q
  -- the tasks in the queue of an object, in their order
  pub waiters : Q → List TaskRecord → Order → QueueKind → Object → List Task
  -- the tasks with ticks left, in the order in which their waits began
  pub timed : Q → List (Option ℕ) → List Task

-- active, with no wait and not suspended
abbrev pub is_runnable : TaskRecord → Bool
is_runnable r = r.active && not (is_some r.wait) && not r.suspended

-- a wait in the queue of an object
abbrev pub is_in : QueueKind → Object → Wait → Bool
is_in kind.Semaphore o (wait.Semaphore s) = s.number == o.number
is_in kind.Eventflag o (wait.Eventflag f pattern mode) = f.number == o.number
is_in kind.Send o (wait.Send d value) = d.number == o.number
is_in kind.Receive o (wait.Receive d) = d.number == o.number
is_in kind.Pool o (wait.Pool m) = m.number == o.number
is_in k o x = false

-- there is a wait, and it is in this queue
abbrev pub waits_in : QueueKind → Object → Option Wait → Bool
waits_in x o None = false
waits_in x o (Some y) = is_in x o y

-- the order of a queue of these objects. Receivers of a data queue wait first come first
abbrev pub order_among : List Semaphore → List Eventflag → List DataQueueSetup → List Pool → QueueKind → Object → Order
order_among semaphores eventflags data_queues pools kind.Semaphore o = (item blank_semaphore semaphores o.number).setup.order
order_among semaphores eventflags data_queues pools kind.Eventflag o = (item blank_eventflag eventflags o.number).setup.order
order_among semaphores eventflags data_queues pools kind.Send o = (item no_data_queue data_queues o.number).order
order_among semaphores eventflags data_queues pools kind.Receive o = order.First
order_among semaphores eventflags data_queues pools kind.Pool o = (item blank_pool pools o.number).setup.order

module _ {Q : Type 0} (w : World Q) where
  -- the order of a queue. It unfolds to lists of objects, so that what leaves these alone leaves it as it is
  abbrev pub order_in : QueueKind → Object → Order
  order_in = λ x o. order_among w.semaphores w.eventflags w.data_queues w.pools x o

  -- the order of the queue in which a wait stands
  abbrev pub order_of : Wait → Order
  order_of (wait.Semaphore s) = order_in kind.Semaphore s
  order_of (wait.Eventflag f pattern mode) = order_in kind.Eventflag f
  order_of (wait.Send d value) = order_in kind.Send d
  order_of (wait.Receive d) = order_in kind.Receive d
  order_of (wait.Pool m) = order_in kind.Pool m
  order_of _ = order.First

  -- The fields of t change, and t keeps its place.
  abbrev pub with_task : Task → TaskRecord → World Q
  with_task t r = record w { tasks = with_item w.tasks t.number r }

module _ {Q : Type 0} (k : Ordering Q) where
  -- a task of this record leaves its ready queue, if it is in one
  abbrev pub depart : Q → TaskRecord → Task → Q
  depart q r t = if is_runnable r then k.take_out q r t else q

  -- a task of this record goes last in its ready queue, if it is to be in one
  abbrev pub arrive : Q → TaskRecord → Task → Q
  arrive q r t = if is_runnable r then k.put_last q r t else q

  -- in a queue by priority a task of this record leaves and joins again, with the ticks that it has left
  abbrev pub rejoin : Q → Order → TaskRecord → Option ℕ → Task → Q
  rejoin q order.First r left t = q
  rejoin q order.Priority r left t = k.join (k.leave q r t) order.Priority r left t

  -- The fields of t change. It leaves its ready queue, and goes last where it is ready then.
  abbrev pub place : World Q → Task → TaskRecord → World Q
  place w t r = record w { tasks = with_item w.tasks t.number r; order = arrive (depart w.order (task w t) t) r t }

module _ {Q : Type 0} (k : Ordering Q) (w : World Q) where
  -- the tasks that wait in the queue of an object, in their order
  abbrev pub queue : QueueKind → Object → List Task
  queue x o = k.waiters w.order w.tasks (order_in w x o) x o

  -- the task that comes first on a processor
  abbrev pub top : Proc → Option Task
  top p = k.top w.order w.tasks p

  -- The wait of t is over, if it has one, and its fields change: it leaves its queue and the timed waits, and goes last where it is ready then.
  abbrev pub end_wait : Task → TaskRecord → World Q
  end_wait t r = place k (record w { order = k.leave w.order (task w t) t; waits_left = with_item w.waits_left t.number None }) t r

  -- The task t waits for this with so many ticks left, or for ever. It leaves its ready queue, and is the last in the queue and of the timed waits.
  abbrev pub begin_wait : Task → Wait → Option ℕ → World Q
  begin_wait t x left =
      let r = record (task w t) { wait = Some x } in
      record w {
        tasks = with_item w.tasks t.number r;
        waits_left = with_item w.waits_left t.number left;
        order = k.join (depart k w.order (task w t) t) (order_of w x) r left t;
      }

  -- the order when t, which has this wait or none, comes last among its equals where it stands
  abbrev pub put_last : Task → TaskRecord → Option Wait → Q
  put_last t r None = arrive k (depart k w.order (task w t) t) r t
  put_last t r (Some x) = rejoin k w.order (order_of w x) r (item None w.waits_left t.number) t

  -- The fields of t change. Where it is ready it goes last, and where it waits in a queue by priority its wait begins anew.
  abbrev pub requeue : Task → TaskRecord → World Q
  requeue t r = record w { tasks = with_item w.tasks t.number r; order = put_last t r (task w t).wait }
