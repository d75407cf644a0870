-- What the records before a call say of all that its errors on the state ask for.
use Rattle.std.specs.Prelude.{ℕ, ◌+◌, ◌-◌, Bool, true, false, not, ◌&&◌, ◌||◌, ◌==◌, nat_lt, Option, None, Some, List, []}
use Rattle.std.specs.Prelude.{length, map, flat_map, slice_index_or, sum_by}
use Rattle.std.specs.List.{list_any, range_with_len}
use Rattle.fmp_codes.specs.Numbers.{as_task, as_object}
use Rattle.fmp_codes.specs.declared.numbers.Proc.{Proc}
use Rattle.fmp_codes.specs.declared.numbers.Task.{Task}
use Rattle.fmp_codes.specs.declared.numbers.Object.{Object}
use Rattle.fmp_codes.specs.declared.numbers.Pri.{Pri}
use Rattle.fmp_codes.specs.declared.calls.Mode.{Mode}
use Rattle.fmp_codes.specs.declared.records.Record.{Record}
use Rattle.fmp_setup.specs.declared.setup.SemaphoreSetup.{SemaphoreSetup}
use Rattle.fmp_setup.specs.declared.setup.EventflagSetup.{EventflagSetup}
use Rattle.fmp_setup.specs.declared.setup.DataQueueSetup.{DataQueueSetup}
use Rattle.fmp_setup.specs.Setup.{Setup, no_semaphore, no_eventflag, no_data_queue}
use Rattle.fmp_rules.specs.declared.machine.Wait.{Wait}
use Rattle.fmp_rules.specs.declared.machine.Wait.TheVariants as wait
use Rattle.fmp_law_balance.specs.Semaphores.{brought, granted}
use Rattle.fmp_law_balance.specs.Queues.{puts, out_by}
use Rattle.fmp_law_balance.specs.Waits.Asked.{OpenWait}
use Rattle.fmp_law_records.specs.Counts.Wakeups.{queued_by}
use Rattle.fmp_law_records.specs.Accepting.{TaskReported, report_task}
use Rattle.fmp_law_records.specs.Priorities.{report_priority}
use Rattle.fmp_law_records.specs.Patterns.{are_there, report_pattern}
use Rattle.fmp_law_records.specs.Locks.{is_holder, holder_by}
use Rattle.fmp_law_records.specs.Refusals.Arguments.{is_out, pool_setup}

-- of each task, with its priority and how many wakeups are queued for it; how many units a semaphore and how many values a data queue has, which
-- pattern an eventflag, which blocks of a pool are out, and who holds a spin lock
pub record FoundReported : Type 0 where
  pub task : Task → TaskReported
  pub priority : Task → Pri
  pub wakeups : Task → ℕ
  pub units : Object → ℕ
  pub pattern : Object → ℕ
  pub values : Object → ℕ
  pub out : Object → ℕ → Bool
  pub holder : Object → Option Proc

module _ (c : Setup) where
  abbrev pub semaphore_setup : Object → SemaphoreSetup
  semaphore_setup s = slice_index_or c.semaphores (s.number - 1) no_semaphore

  abbrev pub eventflag_setup : Object → EventflagSetup
  eventflag_setup f = slice_index_or c.eventflags (f.number - 1) no_eventflag

  abbrev pub data_queue_setup : Object → DataQueueSetup
  data_queue_setup d = slice_index_or c.data_queues (d.number - 1) no_data_queue

  -- after these records of a run from boot. What came in and did not go out is there
  abbrev pub found_reported : List Record → FoundReported
  found_reported records = record {
    task = λ t. report_task c t records;
    priority = λ t. report_priority c t records;
    wakeups = λ t. queued_by t records 0;
    units = λ s. (semaphore_setup s).initial + sum_by (brought s) records - sum_by (granted s) records;
    pattern = λ f. report_pattern c f records;
    values = λ d. length (puts d [] records) - length (flat_map (out_by d) records);
    out = is_out records;
    holder = λ l. holder_by l records None;
  }

  -- the tasks and the spin locks that there are
  abbrev pub all_tasks : List Task
  all_tasks = map as_task (range_with_len 1 (length c.tasks))

  abbrev pub all_locks : List Object
  all_locks = map as_object (range_with_len 1 c.spin_locks)

-- What a task may wait for.

abbrev pub for_wakeup : Wait → Bool
for_wakeup wait.Sleep = true
for_wakeup other = false

abbrev pub for_unit : Object → Wait → Bool
for_unit s (wait.Semaphore z) = z.number == s.number
for_unit s other = false

abbrev pub for_bits : Object → Wait → Bool
for_bits f (wait.Eventflag g bits mode) = g.number == f.number
for_bits f other = false

abbrev pub to_send : Object → Wait → Bool
to_send d (wait.Send e value) = e.number == d.number
to_send d other = false

abbrev pub to_receive : Object → Wait → Bool
to_receive d (wait.Receive e) = e.number == d.number
to_receive d other = false

abbrev pub waits_so : (Wait → Bool) → Option OpenWait → Bool
waits_so what None = false
waits_so what (Some o) = what o.wait

-- What is there.

module _ (c : Setup) (x : FoundReported) where
  -- some task waits for this
  abbrev pub somebody_waits : (Wait → Bool) → Bool
  somebody_waits what = list_any (λ t. waits_so what (x.task t).wait) (all_tasks c)

  -- a task waits for an eventflag for which only one task may wait
  abbrev pub is_used : Object → Bool
  is_used f = not (eventflag_setup c f).many && somebody_waits (for_bits f)

  abbrev pub has_bits : Object → ℕ → Mode → Bool
  has_bits f bits mode = are_there mode (x.pattern f) bits

  -- a data queue takes a value at once, or gives one
  abbrev pub takes_value : Object → Bool
  takes_value d = somebody_waits (to_receive d) || nat_lt (x.values d) (data_queue_setup c d).capacity

  abbrev pub gives_value : Object → Bool
  gives_value d = nat_lt 0 (x.values d) || somebody_waits (to_send d)

  -- a block of a pool is not out
  abbrev pub has_block : Object → Bool
  has_block m = list_any (λ b. not (x.out m b)) (range_with_len 0 (pool_setup c m).blocks)

  -- a processor holds a spin lock
  abbrev pub holds_lock : Proc → Bool
  holds_lock p = list_any (λ l. is_holder p (x.holder l)) (all_locks c)
