-- A figure does not look at the order of tasks.
use Rattle.std.proofs.Common.{◌≡◌, ◌∙◌, ℕ, zero, suc, ◌+◌, Bool, cond, length, min, refl, ap, ap₂}
use Rattle.fmp_codes.specs.Numbers.{as_task}
use Rattle.fmp_codes.specs.declared.numbers.Task.{Task}
use Rattle.fmp_rules.specs.World.{World}
use Rattle.fmp_rules.specs.Arrivals.{State}
use Rattle.fmp_kernel_order.specs.Queues.{Queues}
use Rattle.fmp_law_lists.specs.Stands.{Stands, with_order}
use Rattle.fmp_run_most.specs.declared.figure.Figure.{Figure}
use Rattle.fmp_run_most.specs.declared.figure.Measure.{Measure}
use Rattle.fmp_run_most.specs.declared.figure.Measure.TheVariants as measure
use Rattle.fmp_run_most.specs.Figures.{counts_by, tasks_to, value, value_by}

module _ (m : State) (o : Queues) where
  abbrev k : World Queues
  k = with_order m o

  counts_same : (x : Measure) (n : ℕ) (t : Task) → counts_by k x n t ≡ counts_by m x n t
  counts_same measure.Ready n t = refl
  counts_same measure.Activations n t = refl
  counts_same measure.Wakeups n t = refl
  counts_same measure.LeastCount n t = refl
  counts_same measure.MostCount n t = refl
  counts_same measure.SemaphoreWaits n t = refl
  counts_same measure.EventflagWaits n t = refl
  counts_same measure.Values n t = refl
  counts_same measure.Senders n t = refl
  counts_same measure.Receivers n t = refl
  counts_same measure.LeastFree n t = refl
  counts_same measure.PoolWaits n t = refl

  tasks_same : (f : Figure) (n : ℕ) → tasks_to k f n ≡ tasks_to m f n
  unfolding tasks_to
  tasks_same f zero = refl
  tasks_same f (suc n) = ap₂ (λ (a : ℕ) (b : Bool). a + cond b 1 0) (tasks_same f n) (counts_same f.measure f.number (as_task (suc n)))

  value_same_by : (x : Measure) (f : Figure) → value_by k x f ≡ value_by m x f
  value_same_by measure.Ready f = tasks_same f (length m.tasks)
  value_same_by measure.Activations f = refl
  value_same_by measure.Wakeups f = refl
  value_same_by measure.LeastCount f = refl
  value_same_by measure.MostCount f = refl
  value_same_by measure.SemaphoreWaits f = tasks_same f (length m.tasks)
  value_same_by measure.EventflagWaits f = tasks_same f (length m.tasks)
  value_same_by measure.Values f = refl
  value_same_by measure.Senders f = tasks_same f (length m.tasks)
  value_same_by measure.Receivers f = tasks_same f (length m.tasks)
  value_same_by measure.LeastFree f = refl
  value_same_by measure.PoolWaits f = tasks_same f (length m.tasks)

  value_same : (f : Figure) → value k f ≡ value m f
  unfolding value
  value_same f = ap (λ n. min 65535 n) (value_same_by f.measure f)

pub value_stands : (k : World Queues) (m : State) (f : Figure) → Stands k m → value k f ≡ value m f
value_stands k m f stands = ap (λ (x : World Queues). value x f) stands.same ∙ value_same m k.order f
