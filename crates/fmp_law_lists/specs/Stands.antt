-- believed: see docs/PROOF.md, "What has to be believed"
-- What the lists stand for: a state with numbers, of which they are the order.
use Rattle.std.specs.Prelude.{◌≡◌, ℕ, ◌<◌, ◌≤◌, ◌==◌, ◌&&◌, Bool, true, Option, None, List, [], ◌∷◌, length, map, is_some}
use Rattle.fmp_codes.specs.declared.numbers.Proc.{Proc}
use Rattle.fmp_codes.specs.declared.numbers.Task.{Task}
use Rattle.fmp_codes.specs.declared.numbers.Object.{Object}
use Rattle.fmp_codes.specs.declared.numbers.Pri.{Pri}
use Rattle.fmp_codes.specs.declared.records.Record.{Record}
use Rattle.fmp_rules.specs.Effects.{Effect}
use Rattle.fmp_setup.specs.declared.setup.Order.{Order}
use Rattle.fmp_setup.specs.declared.setup.DataQueueSetup.{DataQueueSetup}
use Rattle.fmp_rules.specs.declared.machine.TaskRecord.{TaskRecord}
use Rattle.fmp_rules.specs.declared.machine.Semaphore.{Semaphore}
use Rattle.fmp_rules.specs.declared.machine.Eventflag.{Eventflag}
use Rattle.fmp_rules.specs.declared.machine.Pool.{Pool}
use Rattle.fmp_rules.specs.declared.machine.QueueKind.{QueueKind}
use Rattle.fmp_rules.specs.declared.machine.QueueKind.TheVariants as kind
use Rattle.fmp_rules.specs.World.{World, item, no_task}
use Rattle.fmp_rules.specs.Ordering.{is_runnable, waits_in, order_in}
use Rattle.fmp_rules.specs.Arrivals.{Arrivals, State, comes_before, priority_in, is_ready_on, rank_in}
use Rattle.fmp_ready.specs.Queues.{list_number, queue_at}
use Rattle.fmp_waitq.specs.Queue.{Waiter, task_of}
use Rattle.fmp_kernel_order.specs.Queues.{WaitQueues, Queues, queues, queue}
use Rattle.fmp_law_lists.specs.Listing.{IsListOf}

-- how many objects there are of a kind
abbrev pub count_by : List Semaphore → List Eventflag → List DataQueueSetup → List Pool → QueueKind → ℕ
count_by ss fs ds ms kind.Semaphore = length ss
count_by ss fs ds ms kind.Eventflag = length fs
count_by ss fs ds ms kind.Send = length ds
count_by ss fs ds ms kind.Receive = length ds
count_by ss fs ds ms kind.Pool = length ms

abbrev pub count_in : {Q : Type 0} → World Q → QueueKind → ℕ
count_in w = λ x. count_by w.semaphores w.eventflags w.data_queues w.pools x

-- which tasks have to stand where

abbrev pub record_in : List TaskRecord → Task → TaskRecord
record_in tasks t = item no_task tasks t.number

abbrev pub runs_in : List TaskRecord → Task → Bool
runs_in tasks t = is_runnable (record_in tasks t)

abbrev pub waits_for : List TaskRecord → Task → Bool
waits_for tasks t = is_some (record_in tasks t).wait

abbrev pub is_ready_at : List TaskRecord → Proc → Pri → Task → Bool
is_ready_at tasks p n t = is_ready_on tasks p t && priority_in tasks t == n.number

abbrev pub is_waiter_of : List TaskRecord → QueueKind → Object → Task → Bool
is_waiter_of tasks x o t = waits_in x o (record_in tasks t).wait

abbrev pub has_ticks : List (Option ℕ) → Task → Bool
has_ticks left t = is_some (item None left t.number)

-- tasks that qualify have distinct numbers, which are below the next
pub record AreNumbered (qualifies : Task → Bool) (ns : List ℕ) (next : ℕ) : Type 0 where
  pub distinct : (t u : Task) → qualifies t ≡ true → qualifies u ≡ true → item 0 ns t.number ≡ item 0 ns u.number → t.number ≡ u.number
  pub below : (t : Task) → qualifies t ≡ true → item 0 ns t.number < next

-- each waiter has its rank
abbrev pub AreRanked : (Task → ℕ) → List Waiter → Type 0
AreRanked rank [] = Unit {0}
AreRanked rank (e ∷ es) = (e.rank ≡ rank e.task) × AreRanked rank es

-- each ready list has the tasks that are ready there, in the order of their numbers
pub record ReadyIs (tasks : List TaskRecord) (ready : List (List Task)) (ns : List ℕ) (next : ℕ) : Type 0 where
  pub lists : (p : Proc) (n : Pri) → IsListOf (is_ready_at tasks p n) (comes_before (priority_in tasks) ns) (queue_at ready (list_number p n))
  pub numbered : AreNumbered (runs_in tasks) ns next
  pub sized : length ready ≡ 256
  pub counted : length ns ≡ length tasks
  pub few : length tasks ≤ 64

-- each queue has the tasks that wait there, with their ranks, and the timed waits are those with ticks left, in the order of their numbers
pub record WaitsAre (tasks : List TaskRecord) (orders : QueueKind → Object → Order) (left : List (Option ℕ)) (waits : WaitQueues) (ticking : List Task) (ns : List ℕ)
    (next : ℕ) : Type 0 where
  pub lists : (x : QueueKind) (o : Object) → IsListOf (is_waiter_of tasks x o) (comes_before (rank_in (orders x o) tasks) ns) (map task_of (queue waits x o))
  pub ranked : (x : QueueKind) (o : Object) → AreRanked (rank_in (orders x o) tasks) (queue waits x o)
  pub timed : IsListOf (has_ticks left) (comes_before (λ t. 0) ns) ticking
  pub timed_wait : (t : Task) → has_ticks left t ≡ true → waits_for tasks t ≡ true
  pub numbered : AreNumbered (waits_for tasks) ns next
  pub counted : length ns ≡ length tasks
  pub left_counted : length left ≡ length tasks

-- the ready lists, the queues, as many as there are objects, and the timed waits are those of the tasks
pub record IsOrderOf (tasks : List TaskRecord) (orders : QueueKind → Object → Order) (counts : QueueKind → ℕ) (left : List (Option ℕ)) (q : Queues)
    (n : Arrivals) : Type 0 where
  pub ready : ReadyIs tasks q.ready n.ready n.next
  pub waits : WaitsAre tasks orders left q.waits q.timed n.begun n.next
  pub sized : (x : QueueKind) → length (queues q.waits x) ≡ counts x

-- the same state with its order kept in another way
abbrev pub with_order : {Q R : Type 0} → World Q → R → World R
with_order w order = record {
  timer = w.timer;
  limits = w.limits;
  tasks = w.tasks;
  waits_left = w.waits_left;
  processors = w.processors;
  due = w.due;
  semaphores = w.semaphores;
  eventflags = w.eventflags;
  data_queues = w.data_queues;
  contents = w.contents;
  pools = w.pools;
  cyclics = w.cyclics;
  cyclics_left = w.cyclics_left;
  alarms = w.alarms;
  alarms_left = w.alarms_left;
  holders = w.holders;
  order = order;
}

-- the lists are those of the tasks of a state
abbrev pub AreListsOf : Queues → State → Type 0
AreListsOf q m = IsOrderOf m.tasks (order_in m) (count_in m) m.waits_left q m.order

-- a state with lists stands for one with numbers: the lists are its order, and all else is the same
pub record Stands (k : World Queues) (m : State) : Type 0 where
  pub same : k ≡ with_order m k.order
  pub order : AreListsOf k.order m

-- what was done on lists and what was done on numbers: the states stand for one another, and the same is told
pub record Matches (a : World Queues × Effect) (b : State × Effect) : Type 0 where
  pub stands : Stands a.0 b.0
  pub effect : a.1 ≡ b.1

-- a step on lists and one on numbers: the states stand for one another, and the records are the same
pub record StepsMatch (a : World Queues × Record) (b : State × Record) : Type 0 where
  pub stands : Stands a.0 b.0
  pub same : a.1 ≡ b.1
