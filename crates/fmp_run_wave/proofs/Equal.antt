-- What is the same where its numbers are.
use Rattle.std.proofs.Common.{◌≡◌, Bool, Option, None, Some, IsTrue, refl, ap, arith, nat_eq}
use Rattle.std.proofs.lemmas.Bool.{eqb-true}
use Rattle.fmp_codes.specs.declared.numbers.Object.{Object}
use Rattle.fmp_codes.specs.declared.numbers.Task.{Task}
use Rattle.fmp_codes.specs.declared.records.Runner.{Runner}
use Rattle.fmp_codes.specs.declared.records.Runner.TheVariants as runner
use Rattle.fmp_codes.proofs.Same.{tasks_same, objects_same}
use Rattle.fmp_codes.specs.Numbers.{task_number}
use Rattle.fmp_run_wave.specs.declared.snapshot.ShownProcessor.{ShownProcessor}
use Rattle.fmp_run_wave.specs.declared.snapshot.ShownTask.{ShownTask}
use Rattle.fmp_run_wave.specs.declared.snapshot.TaskNumbers.{TaskNumbers}
use Rattle.fmp_run_wave.specs.Shown.{Shown}

by_number : (a b : Option Task) → task_number a ≡ task_number b → a ≡ b
by_number None None e = refl
by_number None (Some u) e = let least = u.least in absurd (omega (arith, e, least))
by_number (Some t) None e = let least = t.least in absurd (omega (arith, e, least))
by_number (Some t) (Some u) e = ap Some (tasks_same t u e)

pub same_running : (a b : Option Task) → IsTrue (nat_eq (task_number a) (task_number b)) → a ≡ b
same_running a b e = by_number a b (eqb-true (task_number a) (task_number b) e)

pub same_task : (t u : Task) → IsTrue (nat_eq t.number u.number) → runner.Task t ≡ runner.Task u
same_task t u e = ap runner.Task (tasks_same t u (eqb-true t.number u.number e))

pub same_alarm : (x y : Object) → IsTrue (nat_eq x.number y.number) → runner.Alarm x ≡ runner.Alarm y
same_alarm x y e = ap runner.Alarm (objects_same x y (eqb-true x.number y.number e))

pub same_cyclic : (x y : Object) → IsTrue (nat_eq x.number y.number) → runner.Cyclic x ≡ runner.Cyclic y
same_cyclic x y e = ap runner.Cyclic (objects_same x y (eqb-true x.number y.number e))

pub same_shown_processor : (x y : ShownProcessor) → x.running ≡ y.running → x.locked ≡ y.locked → x.disabled ≡ y.disabled → x.latch ≡ y.latch → x.due ≡ y.due → x ≡ y
same_shown_processor x y running locked disabled latch due =
    let made : Option Task → Bool → Bool → Bool → Option Runner → ShownProcessor = λ o a b c h. record { running = o; locked = a; disabled = b; latch = c; due = h } in
    rw (running, locked, disabled, latch, due) refl

pub same_task_numbers : (x y : TaskNumbers) → x.priority ≡ y.priority → x.activations ≡ y.activations → x.wakeups ≡ y.wakeups → x ≡ y
same_task_numbers x y priority activations wakeups = rw (priority, activations, wakeups) refl

pub same_shown_task : (x y : ShownTask) → x.state ≡ y.state → x.numbers ≡ y.numbers → x.wait ≡ y.wait → x ≡ y
same_shown_task x y state numbers wait = rw (state, numbers, wait) refl

pub same_shown : (x y : Shown) → x.processors ≡ y.processors → x.tasks ≡ y.tasks
    → x.semaphores ≡ y.semaphores → x.eventflags ≡ y.eventflags → x.data_queues ≡ y.data_queues → x.pools ≡ y.pools → x.holders ≡ y.holders → x ≡ y
same_shown x y processors tasks semaphores eventflags data_queues pools holders =
    rw (processors, tasks, semaphores, eventflags, data_queues, pools, holders) refl
