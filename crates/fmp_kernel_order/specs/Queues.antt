-- believed: see docs/PROOF.md, "What has to be believed"
-- The way of lists to keep what came before what: ready queues, the queues of the objects, and the timed waits.
use Rattle.std.specs.Prelude.{ℕ, Option, None, Some, List, [], ◌∷◌, ◌++◌, map, replicate}
use Rattle.fmp_codes.specs.declared.numbers.Task.{Task}
use Rattle.fmp_codes.specs.declared.numbers.Object.{Object}
use Rattle.fmp_kernel_parts.specs.Tasks.{without}
use Rattle.fmp_ready.specs.Queues.{list_number, queue_at, push_last, take_out, top_of}
use Rattle.fmp_waitq.specs.Queue.{Waiter, task_of, waiter_of, left_by, joined_by}
use Rattle.fmp_rules.specs.declared.machine.Wait.{Wait}
use Rattle.fmp_rules.specs.declared.machine.Wait.TheVariants as wait
use Rattle.fmp_rules.specs.declared.machine.QueueKind.{QueueKind}
use Rattle.fmp_rules.specs.declared.machine.QueueKind.TheVariants as kind
use Rattle.fmp_setup.specs.Setup.{Setup}
use Rattle.fmp_rules.specs.World.{item, with_item}
use Rattle.fmp_rules.specs.Ordering.{Ordering}

-- for each object the queue of its waiters; a data queue has two
pub record WaitQueues : Type 0 where
  pub semaphores : List (List Waiter)
  pub eventflags : List (List Waiter)
  pub senders : List (List Waiter)
  pub receivers : List (List Waiter)
  pub pools : List (List Waiter)

pub record Queues : Type 0 where
  pub ready : List (List Task)  -- of each processor the ready tasks of its priorities, from the highest
  pub waits : WaitQueues
  pub timed : List Task  -- the tasks whose waits have ticks left, in the order in which these waits began

abbrev pub queues : WaitQueues → QueueKind → List (List Waiter)
queues q kind.Semaphore = q.semaphores
queues q kind.Eventflag = q.eventflags
queues q kind.Send = q.senders
queues q kind.Receive = q.receivers
queues q kind.Pool = q.pools

abbrev pub with_queues : WaitQueues → QueueKind → List (List Waiter) → WaitQueues
with_queues q kind.Semaphore xs = record q { semaphores = xs }
with_queues q kind.Eventflag xs = record q { eventflags = xs }
with_queues q kind.Send xs = record q { senders = xs }
with_queues q kind.Receive xs = record q { receivers = xs }
with_queues q kind.Pool xs = record q { pools = xs }

abbrev pub queue : WaitQueues → QueueKind → Object → List Waiter
queue q x o = item [] (queues q x) o.number

-- one queue of one object
pub record Place : Type 0 where
  pub kind : QueueKind
  pub object : Object

-- the queue in which a wait stands
abbrev pub place_of : Wait → Option Place
place_of wait.Sleep = None
place_of wait.Delay = None
place_of (wait.Semaphore s) = Some (record { kind = kind.Semaphore; object = s })
place_of (wait.Eventflag f pattern mode) = Some (record { kind = kind.Eventflag; object = f })
place_of (wait.Send d value) = Some (record { kind = kind.Send; object = d })
place_of (wait.Receive d) = Some (record { kind = kind.Receive; object = d })
place_of (wait.Pool m) = Some (record { kind = kind.Pool; object = m })

abbrev pub place_in : Option Wait → Option Place
place_in None = None
place_in (Some x) = place_of x

-- the queues with one changed, if there is such
abbrev pub changed : WaitQueues → Option Place → (List Waiter → List Waiter) → WaitQueues
changed q None f = q
changed q (Some at) f = with_queues q at.kind (with_item (queues q at.kind) at.object.number (f (queue q at.kind at.object)))

-- the timed waits where a wait of t begins, with so many ticks left or for ever
abbrev pub timed_by : Option ℕ → Task → List Task → List Task
timed_by None t ts = without t ts
timed_by (Some n) t ts = without t ts ++ t ∷ []

-- the lists as a way to keep what came before what
unfoldable pub listed : Ordering Queues
listed = record {
  put_last = λ q r t. record q { ready = push_last (take_out q.ready t) (list_number r.assigned r.priority) t };
  take_out = λ q r t. record q { ready = take_out q.ready t };
  top = λ q tasks p. top_of q.ready p;
  ready = λ q tasks p n. queue_at q.ready (list_number p n);
  join = λ q o r left t. record q {
    waits = changed q.waits (place_in r.wait) (joined_by (waiter_of o t r.priority));
    timed = timed_by left t q.timed;
  };
  leave = λ q r t. record q { waits = changed q.waits (place_in r.wait) (left_by t); timed = without t q.timed };
  waiters = λ q tasks o x n. map task_of (queue q.waits x n);
  timed = λ q left. q.timed;
}

-- no task is ready, and none waits
abbrev pub no_queues : Setup → Queues
no_queues c = record {
  ready = replicate 256 [];
  waits = record {
    semaphores = map (λ s. []) c.semaphores;
    eventflags = map (λ s. []) c.eventflags;
    senders = map (λ s. []) c.data_queues;
    receivers = map (λ s. []) c.data_queues;
    pools = map (λ s. []) c.pools;
  };
  timed = [];
}
