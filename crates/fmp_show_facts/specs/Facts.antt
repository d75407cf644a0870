-- What is so of a state: for each thing and each word of a pattern the test of the state that the word stands for. Nothing here looks at
-- the order of tasks, at what was so at boot, or at a text.
use Rattle.std.specs.Prelude.{ℕ, ℤ, ◌+◌, ◌==◌, Bool, true, false, not, ◌&&◌, Option, None, Some, List, [], ◌∷◌, map, length, is_none, is_some}
use Rattle.std.specs.List.{list_all, list_any, range_with_len}
use Rattle.std.specs.Ordering.{int_eq}
use Rattle.fmp_codes.specs.Numbers.{as_object, as_proc, as_task}
use Rattle.fmp_codes.specs.declared.numbers.Object.{Object}
use Rattle.fmp_codes.specs.declared.numbers.Proc.{Proc}
use Rattle.fmp_codes.specs.declared.numbers.Task.{Task}
use Rattle.fmp_codes.specs.declared.records.Runner.{Runner}
use Rattle.fmp_codes.specs.declared.records.Runner.TheVariants as runner
use Rattle.fmp_codes.specs.declared.kinds.ObjectKind.{ObjectKind}
use Rattle.fmp_codes.specs.declared.kinds.ObjectKind.TheVariants as objects
use Rattle.fmp_rules.specs.declared.machine.Processor.{Processor}
use Rattle.fmp_rules.specs.declared.machine.TaskRecord.{TaskRecord}
use Rattle.fmp_rules.specs.declared.machine.Wait.{Wait}
use Rattle.fmp_rules.specs.declared.machine.Wait.TheVariants as wait
use Rattle.fmp_rules.specs.Objects.{eventflag, free_blocks, holder, pool, semaphore, values}
use Rattle.fmp_rules.specs.Ordering.{is_runnable}
use Rattle.fmp_rules.specs.World.{World, item, processor, processors_of, task}
use Rattle.fmp_facts.specs.Asking.{Asked}
use Rattle.fmp_facts.specs.declared.facts.Fact.{Fact}
use Rattle.fmp_facts.specs.declared.facts.Fact.TheVariants as fact
use Rattle.fmp_facts.specs.declared.facts.Key.TheVariants as keys
use Rattle.fmp_facts.specs.declared.facts.Kind.{Kind}
use Rattle.fmp_facts.specs.declared.facts.Kind.TheVariants as kind
use Rattle.fmp_facts.specs.declared.facts.Subject.{Subject}
use Rattle.fmp_facts.specs.declared.facts.Subject.TheVariants as subject
use Rattle.fmp_facts.specs.declared.facts.Thing.{Thing}
use Rattle.fmp_facts.specs.declared.facts.Thing.TheVariants as thing
use Rattle.fmp_facts.specs.declared.facts.WaitKind.{WaitKind}
use Rattle.fmp_facts.specs.declared.facts.WaitKind.TheVariants as waiting

-- this task is the one that runs
abbrev pub is_running : Option Task → Task → Bool
is_running None t = false
is_running (Some u) t = t.number == u.number

-- these are the same handler
abbrev pub is_handler : Runner → Runner → Bool
is_handler (runner.Alarm a) (runner.Alarm b) = a.number == b.number
is_handler (runner.Cyclic a) (runner.Cyclic b) = a.number == b.number
is_handler a b = false

-- a wait is of this kind
abbrev pub is_wait : WaitKind → Wait → Bool
is_wait waiting.Sleep wait.Sleep = true
is_wait waiting.Delay wait.Delay = true
is_wait waiting.Semaphore (wait.Semaphore s) = true
is_wait waiting.Eventflag (wait.Eventflag f pattern mode) = true
is_wait waiting.Send (wait.Send d value) = true
is_wait waiting.Receive (wait.Receive d) = true
is_wait waiting.Pool (wait.Pool m) = true
is_wait other x = false

-- it is for this object
abbrev pub is_wait_at : ObjectKind → Object → Wait → Bool
is_wait_at objects.Semaphore o (wait.Semaphore s) = s.number == o.number
is_wait_at objects.Eventflag o (wait.Eventflag f pattern mode) = f.number == o.number
is_wait_at objects.DataQueue o (wait.Send d value) = d.number == o.number
is_wait_at objects.DataQueue o (wait.Receive d) = d.number == o.number
is_wait_at objects.Pool o (wait.Pool m) = m.number == o.number
is_wait_at kind o x = false

abbrev pub waits_so : (Wait → Bool) → Option Wait → Bool
waits_so test None = false
waits_so test (Some x) = test x

-- there are so many ticks left
abbrev pub is_left : Option ℕ → ℕ → Bool
is_left None n = false
is_left (Some m) n = m == n

-- there is such a value
abbrev pub is_value : ℤ → Option ℤ → Bool
is_value v None = false
is_value v (Some x) = int_eq v x

abbrev pub is_holder : Option Proc → Proc → Bool
is_holder None p = false
is_holder (Some q) p = q.number == p.number

-- how many things of a kind there may be
abbrev pub most_of : Kind → ℕ
most_of kind.Processor = 8
most_of kind.Task = 64
most_of other = 32

-- the thing of a kind with this number
abbrev pub thing_of : Kind → ℕ → Thing
thing_of kind.Processor n = thing.Processor (as_proc n)
thing_of kind.Task n = thing.Task (as_task n)
thing_of kind.Semaphore n = thing.Semaphore (as_object n)
thing_of kind.Eventflag n = thing.Eventflag (as_object n)
thing_of kind.DataQueue n = thing.DataQueue (as_object n)
thing_of kind.Pool n = thing.Pool (as_object n)
thing_of kind.Cyclic n = thing.Cyclic (as_object n)
thing_of kind.Alarm n = thing.Alarm (as_object n)
thing_of kind.SpinLock n = thing.SpinLock (as_object n)

-- those of a kind with the numbers from 1 to n
abbrev pub things_to : Kind → ℕ → List Thing
things_to k n = map (thing_of k) (range_with_len 1 n)

module _ {Q : Type 0} (w : World Q) where
  -- the processor of a task runs it
  abbrev pub runs : Task → Bool
  runs t = is_running (processor w (task w t).assigned).running t

  -- a task could run, and does not
  abbrev pub is_ready : Task → Bool
  is_ready t = is_runnable (task w t) && not (runs t)

  -- a handler is due on this processor, and on some processor
  abbrev pub is_due_on : Runner → Proc → Bool
  is_due_on r p = list_any (is_handler r) (item [] w.due p.number)

  abbrev pub is_due : Runner → Bool
  is_due r = list_any (is_due_on r) (processors_of w)

  -- a task is ready on this processor
  abbrev pub is_ready_on : Proc → Task → Bool
  is_ready_on p t = (task w t).assigned.number == p.number && is_ready t

  abbrev pub is_ready_thing : Proc → Thing → Bool
  is_ready_thing p (thing.Task t) = is_ready_on p t
  is_ready_thing p other = false

  -- and some task is
  abbrev pub some_ready_on : Proc → Bool
  some_ready_on p = list_any (is_ready_thing p) (things_to kind.Task (length w.tasks))

  abbrev pub processor_is : Proc → Fact → Bool
  processor_is p (fact.Runs t) = is_running (processor w p).running t
  processor_is p fact.RunsNone = is_none (processor w p).running
  processor_is p (fact.HasReady t) = is_ready_on p t
  processor_is p fact.Locked = (processor w p).locked
  processor_is p fact.Disabled = (processor w p).disabled
  processor_is p fact.Latched = (processor w p).latch
  processor_is p (fact.HasDue r) = is_due_on r p
  processor_is p (fact.Has keys.Run) = true
  processor_is p (fact.Has keys.Ready) = some_ready_on p
  processor_is p (fact.Has keys.Due) = not (length (item [] w.due p.number) == 0)
  processor_is p other = false

  -- of a dormant task only its processor is known
  abbrev pub task_is : Task → Fact → Bool
  task_is t fact.Dormant = not (task w t).active
  task_is t fact.Running = runs t
  task_is t fact.Ready = is_ready t
  task_is t (fact.On p) = (task w t).assigned.number == p.number
  task_is t fact.Suspended = (task w t).suspended
  task_is t fact.Waits = is_some (task w t).wait
  task_is t (fact.WaitsFor kind) = waits_so (is_wait kind) (task w t).wait
  task_is t (fact.WaitsAt kind o) = waits_so (is_wait_at kind o) (task w t).wait
  task_is t (fact.Left n) = is_left (item None w.waits_left t.number) n
  task_is t (fact.Priority n) = (task w t).active && (task w t).priority.number == n
  task_is t (fact.Activations n) = (task w t).active && (task w t).activations == n
  task_is t (fact.Wakeups n) = (task w t).active && (task w t).wakeups == n
  task_is t (fact.Has keys.Left) = is_some (item None w.waits_left t.number)
  task_is t (fact.Has keys.Priority) = (task w t).active
  task_is t (fact.Has keys.Activations) = (task w t).active
  task_is t (fact.Has keys.Wakeups) = (task w t).active
  task_is t other = false

  abbrev pub semaphore_is : Object → Fact → Bool
  semaphore_is s (fact.Count n) = (semaphore w s).count == n
  semaphore_is s (fact.Has keys.Count) = true
  semaphore_is s other = false

  abbrev pub eventflag_is : Object → Fact → Bool
  eventflag_is f (fact.Pattern n) = (eventflag w f).pattern == n
  eventflag_is f (fact.Has keys.Pattern) = true
  eventflag_is f other = false

  abbrev pub queue_is : Object → Fact → Bool
  queue_is d fact.Empty = length (values w d) == 0
  queue_is d (fact.HasValue v) = list_any (int_eq v) (values w d)
  queue_is d (fact.Has keys.Values) = not (length (values w d) == 0)
  queue_is d other = false

  abbrev pub pool_is : Object → Fact → Bool
  pool_is m (fact.FreeBlocks n) = free_blocks (pool w m) == n
  pool_is m (fact.Has keys.FreeBlocks) = true
  pool_is m other = false

  -- a handler with so many ticks left, of which it is known whether it is due
  abbrev pub handler_is : Option ℕ → Bool → Fact → Bool
  handler_is left due fact.Stopped = is_none left
  handler_is left due (fact.Left n) = is_left left n
  handler_is left due fact.Due = due
  handler_is left due (fact.Has keys.Left) = is_some left
  handler_is left due other = false

  abbrev pub lock_is : Object → Fact → Bool
  lock_is l fact.Free = is_none (holder w l)
  lock_is l (fact.HeldBy p) = is_holder (holder w l) p
  lock_is l (fact.Has keys.Held) = is_some (holder w l)
  lock_is l other = false

  -- a fact is so of a thing
  abbrev pub thing_is : Thing → Fact → Bool
  thing_is (thing.Processor p) f = processor_is p f
  thing_is (thing.Task t) f = task_is t f
  thing_is (thing.Semaphore s) f = semaphore_is s f
  thing_is (thing.Eventflag e) f = eventflag_is e f
  thing_is (thing.DataQueue d) f = queue_is d f
  thing_is (thing.Pool m) f = pool_is m f
  thing_is (thing.Cyclic c) f = handler_is (item None w.cyclics_left c.number) (is_due (runner.Cyclic c)) f
  thing_is (thing.Alarm a) f = handler_is (item None w.alarms_left a.number) (is_due (runner.Alarm a)) f
  thing_is (thing.SpinLock l) f = lock_is l f

  abbrev pub has_all : List Fact → Thing → Bool
  has_all facts x = list_all (thing_is x) facts

  -- how many things of a kind there are
  abbrev pub count_of : Kind → ℕ
  count_of kind.Processor = length w.processors
  count_of kind.Task = length w.tasks
  count_of kind.Semaphore = length w.semaphores
  count_of kind.Eventflag = length w.eventflags
  count_of kind.DataQueue = length w.data_queues
  count_of kind.Pool = length w.pools
  count_of kind.Cyclic = length w.cyclics
  count_of kind.Alarm = length w.alarms
  count_of kind.SpinLock = length w.holders

module _ {Q : Type 0} (w : World Q) where
  -- some thing of a kind, of those with the numbers from 1 to n, has them all
  abbrev pub some_has_all : List Fact → Kind → ℕ → Bool
  some_has_all facts k n = list_any (has_all w facts) (things_to k n)

  abbrev pub has_all_of : List Fact → Subject → Bool
  has_all_of facts (subject.One x) = has_all w facts x
  has_all_of facts (subject.Any k) = some_has_all facts k (count_of w k)

  -- what is asked is so of a state
  unfoldable pub is_so : Asked → Bool
  is_so a = has_all_of a.facts a.subject
