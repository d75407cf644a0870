-- A task that goes last in a ready queue leaves the one in which it stood by that.
use Rattle.std.proofs.Common.{◌≡◌, Bool, true, false, if◌then◌else◌, refl, sym, ap}
use Rattle.fmp_codes.specs.declared.numbers.Task.{Task}
use Rattle.fmp_rules.specs.declared.machine.TaskRecord.{TaskRecord}
use Rattle.fmp_rules.specs.World.{World, task}
use Rattle.fmp_rules.specs.Ordering.{is_runnable, depart, arrive}
use Rattle.fmp_ready.specs.Queues.{list_number, push_last}
use Rattle.fmp_ready.proofs.Tasks.{take_out-twice}
use Rattle.fmp_kernel_order.specs.Queues.{Queues, listed}
use Rattle.fmp_kernel_machine.specs.Going.{order_before}

once : (q : Queues) (s : TaskRecord) (r : TaskRecord) (t : Task) (b : Bool) → listed.put_last q s t ≡ listed.put_last (if b then listed.take_out q r t else q) s t
unfolding listed
once q s r t true = ap (λ ls. record q { ready = push_last ls (list_number s.assigned s.priority) t }) (sym (take_out-twice q.ready t))
once q s r t false = refl

pub arrive_after : (w : World Queues) (s : TaskRecord) (t : Task) → arrive listed (order_before listed w s t) s t ≡ arrive listed (depart listed w.order (task w t) t) s t
arrive_after w s t = by (is_runnable s)
  where
    by : (b : Bool) → (if b then listed.put_last (if b then w.order else depart listed w.order (task w t) t) s t else (if b then w.order else depart listed w.order (task w t) t))
        ≡ (if b then listed.put_last (depart listed w.order (task w t) t) s t else depart listed w.order (task w t) t)
    by true = once w.order s (task w t) t (is_runnable (task w t))
    by false = refl
