-- Numbers of what a state has: of each thing of a configuration those that size it. Nothing here looks at the order of tasks.
use Rattle.std.specs.Prelude.{ℕ, zero, suc, ◌+◌, ◌==◌, min, nat_lt, Bool, true, false, not, ◌&&◌, Option, None, Some, List, [], ◌∷◌, ◌++◌, map, length, if◌then◌else◌}
use Rattle.fmp_codes.specs.Numbers.{as_object, as_task}
use Rattle.fmp_codes.specs.declared.numbers.Task.{Task}
use Rattle.fmp_setup.specs.Setup.{Setup}
use Rattle.fmp_rules.specs.declared.machine.Wait.{Wait}
use Rattle.fmp_rules.specs.declared.machine.Wait.TheVariants as wait
use Rattle.fmp_rules.specs.World.{World, task}
use Rattle.fmp_rules.specs.Objects.{semaphore, values, pool, free_blocks}
use Rattle.fmp_rules.specs.Ordering.{is_runnable}
use Rattle.fmp_show_facts.specs.Facts.{runs}
use Rattle.fmp_run_most.specs.declared.figure.Figure.{Figure}
use Rattle.fmp_run_most.specs.declared.figure.Measure.{Measure}
use Rattle.fmp_run_most.specs.declared.figure.Measure.TheVariants as measure

-- of two measures the least number is told, and of the others the greatest
abbrev pub is_least : Measure → Bool
is_least measure.LeastCount = true
is_least measure.LeastFree = true
is_least other = false

-- a number is beyond a bound: less, where the least is told, and else greater
abbrev pub is_beyond : Measure → ℕ → ℕ → Bool
is_beyond m bound n = if is_least m then nat_lt n bound else nat_lt bound n

-- ---- in a state

-- a wait for the object of a number
abbrev pub counts_wait : Measure → ℕ → Wait → Bool
counts_wait measure.SemaphoreWaits n (wait.Semaphore s) = s.number == n
counts_wait measure.EventflagWaits n (wait.Eventflag f pattern mode) = f.number == n
counts_wait measure.Senders n (wait.Send d value) = d.number == n
counts_wait measure.Receivers n (wait.Receive d) = d.number == n
counts_wait measure.PoolWaits n (wait.Pool m) = m.number == n
counts_wait other n x = false

abbrev pub waits_so : Measure → ℕ → Option Wait → Bool
waits_so m n None = false
waits_so m n (Some x) = counts_wait m n x

module _ {Q : Type 0} (w : World Q) where
  -- a task could run on the processor of a number, and does not
  abbrev pub is_ready_on : ℕ → Task → Bool
  is_ready_on n t = (task w t).assigned.number == n && is_runnable (task w t) && not (runs w t)

  abbrev pub counts_by : Measure → ℕ → Task → Bool
  counts_by measure.Ready n t = is_ready_on n t
  counts_by other n t = waits_so other n (task w t).wait

  -- a task is one of those that a figure counts
  abbrev pub counts : Figure → Task → Bool
  counts f t = counts_by f.measure f.number t

  -- how many of the tasks with the numbers from 1 to n are
  unfoldable pub tasks_to : Figure → ℕ → ℕ
  tasks_to f zero = 0
  tasks_to f (suc n) = tasks_to f n + (if counts f (as_task (suc n)) then 1 else 0)

  abbrev pub value_by : Measure → Figure → ℕ
  value_by measure.Activations f = (task w (as_task f.number)).activations
  value_by measure.Wakeups f = (task w (as_task f.number)).wakeups
  value_by measure.LeastCount f = (semaphore w (as_object f.number)).count
  value_by measure.MostCount f = (semaphore w (as_object f.number)).count
  value_by measure.Values f = length (values w (as_object f.number))
  value_by measure.LeastFree f = free_blocks (pool w (as_object f.number))
  value_by other f = tasks_to f (length w.tasks)

  -- the number of a figure. Numbers beyond 65535 are not told apart: no count, and no number of values, blocks or tasks is greater
  unfoldable pub value : Figure → ℕ
  value f = min 65535 (value_by f.measure f)

-- ---- of a configuration

-- what is counted of a thing, in the order in which it is told
abbrev pub of_processor : List Measure
of_processor = measure.Ready ∷ []

abbrev pub of_task : List Measure
of_task = measure.Activations ∷ measure.Wakeups ∷ []

abbrev pub of_semaphore : List Measure
of_semaphore = measure.LeastCount ∷ measure.MostCount ∷ measure.SemaphoreWaits ∷ []

abbrev pub of_eventflag : List Measure
of_eventflag = measure.EventflagWaits ∷ []

abbrev pub of_data_queue : List Measure
of_data_queue = measure.Values ∷ measure.Senders ∷ measure.Receivers ∷ []

abbrev pub of_pool : List Measure
of_pool = measure.LeastFree ∷ measure.PoolWaits ∷ []

-- the figures of the thing of a number
abbrev pub of_thing : List Measure → ℕ → List Figure
of_thing ms n = map (λ m. record { measure = m; number = n }) ms

-- and of those from 1 to n
abbrev pub of_things : List Measure → ℕ → List Figure
of_things ms zero = []
of_things ms (suc n) = of_things ms n ++ of_thing ms (suc n)

-- all figures of a configuration: of its processors, tasks, semaphores, eventflags, data queues and pools
unfoldable pub figures_of : Setup → List Figure
figures_of c =
    of_things of_processor c.processors ++ of_things of_task (length c.tasks) ++ of_things of_semaphore (length c.semaphores)
    ++ of_things of_eventflag (length c.eventflags) ++ of_things of_data_queue (length c.data_queues) ++ of_things of_pool (length c.pools)
