-- What the arguments of calls name. An argument that names nothing is taken for the first of its kind: such a call is refused, so nothing rests on this.
use Rattle.std.specs.Prelude.{ℤ, unwrap_or, Option}
use Rattle.fmp_codes.specs.Numbers.{as_object, as_proc, as_task}
use Rattle.fmp_codes.specs.declared.numbers.Object.{Object}
use Rattle.fmp_codes.specs.declared.numbers.Proc.{Proc}
use Rattle.fmp_codes.specs.declared.numbers.Task.{Task}
use Rattle.fmp_rules.specs.World.{World, task, first}
use Rattle.fmp_rules.specs.Ordering.{Ordering}
use Rattle.fmp_rules.specs.Arguments.{object_named, task_named, task_or_caller, processor_or_initial, class_of, caller, priority_or}

abbrev pub the : Option Task → Task
the t = unwrap_or t (as_task 1)

module _ {Q : Type 0} (w : World Q) where
  -- the task of an argument, where 0 is the caller
  abbrev pub named_or_caller : Proc → ℤ → Task
  named_or_caller p id = the (task_or_caller w p id)

  -- the task of an argument
  abbrev pub named_task : ℤ → Task
  named_task id = the (task_named w id)

  -- the processor of an argument, where 0 is the initial one of the task
  abbrev pub destination : Option Task → ℤ → Proc
  destination t id = unwrap_or (processor_or_initial w (class_of w t) id) (as_proc 1)

  abbrev pub semaphore_named : ℤ → Object
  semaphore_named id = unwrap_or (object_named w.semaphores id) (as_object 1)

  abbrev pub eventflag_named : ℤ → Object
  eventflag_named id = unwrap_or (object_named w.eventflags id) (as_object 1)

  abbrev pub data_queue_named : ℤ → Object
  data_queue_named id = unwrap_or (object_named w.data_queues id) (as_object 1)

  abbrev pub pool_named : ℤ → Object
  pool_named id = unwrap_or (object_named w.pools id) (as_object 1)

  abbrev pub cyclic_named : ℤ → Object
  cyclic_named id = unwrap_or (object_named w.cyclics id) (as_object 1)

  abbrev pub alarm_named : ℤ → Object
  alarm_named id = unwrap_or (object_named w.alarms id) (as_object 1)

  abbrev pub lock_named : ℤ → Object
  lock_named id = unwrap_or (object_named w.holders id) (as_object 1)

module _ {Q : Type 0} (k : Ordering Q) (w : World Q) (p : Proc) where
  -- the first of the ready tasks of a priority on q; 0 is the priority of the caller
  abbrev pub rotated : Proc → ℤ → Option Task
  rotated q n = first (k.ready w.order w.tasks q (priority_or (task w (caller w p)).priority n))
