-- believed: see docs/PROOF.md, "What has to be believed"
-- What every reachable state keeps.
use Rattle.std.specs.Prelude.{◌≡◌, ℕ, ◌≤◌, Bool, true, false, ◌&&◌, ◌==◌, Option, None, Some, List, [], All, length, is_some, is_none}
use Rattle.fmp_codes.specs.declared.numbers.Proc.{Proc}
use Rattle.fmp_codes.specs.declared.numbers.Task.{Task}
use Rattle.fmp_codes.specs.declared.numbers.Object.{Object}
use Rattle.fmp_setup.specs.declared.setup.Timer.{Timer}
use Rattle.fmp_setup.specs.declared.setup.Limits.{Limits}
use Rattle.fmp_rules.specs.declared.machine.TaskRecord.{TaskRecord}
use Rattle.fmp_rules.specs.declared.machine.Cyclic.{Cyclic}
use Rattle.fmp_rules.specs.declared.machine.Alarm.{Alarm}
use Rattle.fmp_rules.specs.declared.machine.Wait.{Wait}
use Rattle.fmp_rules.specs.declared.machine.Wait.TheVariants as wait
use Rattle.fmp_rules.specs.declared.machine.QueueKind.TheVariants as kind
use Rattle.fmp_setup.specs.Setup.{has_member, MayHandle}
use Rattle.fmp_rules.specs.World.{World, item, task, processor, runner_of, is_held}
use Rattle.fmp_rules.specs.Ordering.{Ordering, top, waits_in}
use Rattle.fmp_rules.specs.Objects.{semaphore, eventflag, data_queue, values, free_block, holder, holds}

-- n is the number of one of these
abbrev pub IsNumberOf : {X : Type 0} → List X → ℕ → Type 0
IsNumberOf xs n = (1 ≤ n) × (n ≤ length xs)

-- a task that p may run: active, assigned to p and without a wait. It may be suspended
abbrev pub may_run_on : Proc → TaskRecord → Bool
may_run_on p r = r.active && (r.assigned.number == p.number && is_none r.wait)

pub record SafeAt {Q : Type 0} (k : Ordering Q) (w : World Q) (p : Proc) : Type 0 where
  -- what runs here may run here
  pub runs : (t : Task) → (processor w p).running ≡ Some t → may_run_on p (task w t) ≡ true
  -- the top runs, unless a request is pending or dispatching is held
  pub dispatched : (processor w p).latch ≡ false → is_held w p ≡ false → (processor w p).running ≡ top k w p
  -- where dispatching is held a handler is due or a task runs, and where it is disabled a task runs
  pub occupied : is_held w p ≡ true → is_some (runner_of w p) ≡ true
  pub disabled : (processor w p).disabled ≡ true → is_some (processor w p).running ≡ true

-- no two processors run one task
abbrev pub RunsOnce : {Q : Type 0} → World Q → Type 0
RunsOnce w =
    (p q : Proc) (t : Task) → IsNumberOf w.processors p.number → IsNumberOf w.processors q.number →
    (processor w p).running ≡ Some t → (processor w q).running ≡ Some t → p.number ≡ q.number

-- a task waits for this only while it is not to be had
abbrev pub MayWait : {Q : Type 0} → World Q → Wait → Type 0
MayWait w wait.Sleep = Unit {0}
MayWait w wait.Delay = Unit {0}
MayWait w (wait.Semaphore s) = (semaphore w s).count ≡ 0
MayWait w (wait.Eventflag f pattern mode) = holds (eventflag w f).pattern pattern mode ≡ false
MayWait w (wait.Send d v) = length (values w d) ≡ (data_queue w d).capacity
MayWait w (wait.Receive d) = (values w d ≡ []) × ((t : Task) → waits_in kind.Send d (task w t).wait ≡ false)
MayWait w (wait.Pool m) = free_block w m ≡ None

pub record TaskInRange (limits : Limits) (r : TaskRecord) : Type 0 where
  pub activations : r.activations ≤ 1
  pub wakeups : r.wakeups ≤ limits.wakeups
  -- the task is assigned to a processor of its class
  pub assigned : has_member r.setup.class r.assigned ≡ true
  -- a kept processor is one of its class, and is kept for a queued activation alone
  pub kept : (p : Proc) → r.kept ≡ Some p → (has_member r.setup.class p ≡ true) × (r.activations ≡ 1)
  -- a dormant task has no queued activation, no wait and no suspension
  pub dormant : r.active ≡ false → (r.activations ≡ 0) × (r.wait ≡ None) × (r.suspended ≡ false)

abbrev pub TicksInRange : Option ℕ → Type 0
TicksInRange None = Unit {0}
TicksInRange (Some n) = (1 ≤ n) × (n ≤ 2147483648)

-- the ticks left of each wait, cyclic handler and alarm, where it has any
pub record CountsInRange {Q : Type 0} (w : World Q) : Type 0 where
  pub waits : (t : Task) → TicksInRange (item None w.waits_left t.number)
  pub cyclics : (c : Object) → TicksInRange (item None w.cyclics_left c.number)
  pub alarms : (a : Object) → TicksInRange (item None w.alarms_left a.number)

pub record CyclicInRange (timer : Timer) (c : Cyclic) : Type 0 where
  pub assigned : has_member c.setup.class c.assigned ≡ true
  -- under a global timer it is of a class that has the master alone
  pub served : MayHandle timer c.setup.class
  -- its period and its phase give counts of ticks in range
  pub period : TicksInRange (Some c.setup.period)
  pub phase : c.setup.phase ≤ 2147483647

pub record AlarmInRange (timer : Timer) (a : Alarm) : Type 0 where
  pub assigned : has_member a.setup.class a.assigned ≡ true
  pub served : MayHandle timer a.setup.class

pub record InRange {Q : Type 0} (w : World Q) : Type 0 where
  pub tasks : All (TaskInRange w.limits) w.tasks
  pub semaphores : All (λ s. s.count ≤ s.setup.most) w.semaphores
  pub contents : (d : Object) → IsNumberOf w.data_queues d.number → length (values w d) ≤ (data_queue w d).capacity
  -- where only one task may wait on an eventflag, at most one does
  pub one_waiter : (f : Object) (t u : Task) → IsNumberOf w.eventflags f.number → (eventflag w f).setup.many ≡ false →
      waits_in kind.Eventflag f (task w t).wait ≡ true → waits_in kind.Eventflag f (task w u).wait ≡ true → t.number ≡ u.number
  pub cyclics : All (CyclicInRange w.timer) w.cyclics
  pub alarms : All (AlarmInRange w.timer) w.alarms
  -- a processor that holds a spin lock is CPU-locked and holds no second one
  pub locked : (l : Object) (p : Proc) → holder w l ≡ Some p → (processor w p).locked ≡ true
  pub one_lock : (l m : Object) (p : Proc) → holder w l ≡ Some p → holder w m ≡ Some p → l.number ≡ m.number

pub record Safe {Q : Type 0} (k : Ordering Q) (w : World Q) : Type 0 where
  pub processors : (p : Proc) → IsNumberOf w.processors p.number → SafeAt k w p
  pub runs_once : RunsOnce w
  pub waits : (t : Task) (x : Wait) → (task w t).wait ≡ Some x → MayWait w x
  pub in_range : InRange w
  pub counts : CountsInRange w
