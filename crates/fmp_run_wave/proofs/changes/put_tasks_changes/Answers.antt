use Rattle.std.proofs.Common.{◌≡◌, ℕ, length, take, get_or, refl, ap, subst, ◌∙◌, arith}
use Rattle.fmp_out.specs.Putting.{Adds}
use Rattle.fmp_codes.specs.Numbers.{as_task}
use Rattle.fmp_run_wave.specs.declared.snapshot.ShownTask.{ShownTask}
use Rattle.fmp_run_wave.specs.Changes.{task_told}
use Rattle.fmp_run_wave.specs.Listing.{each}
use Rattle.fmp_run_wave.specs.Shown.{no_task_shown, shown_task}
use Rattle.fmp_run_wave.proofs.Alike.{all_renewed, as_before, long_enough, renewed, renewed_more}
use Rattle.fmp_run_wave.proofs.Counted.{all_told, nothing_yet, told_at, told_more}
use Rattle.fmp_run_wave.proofs.changes.put_tasks_changes.Goals as goal

pub loop-index-init : goal.loop-index-init
loop-index-init c =
    let f : ℕ → ShownTask = λ i. shown_task c.args.machine.now (as_task i) in
    record { told = nothing_yet (told_at (task_told c.args.names.now) no_task_shown f c.args.shown.now.items) c.args.out.now; shown = refl }

pub put_task_change-requires-clause-next : goal.put_task_change-requires-clause-next
put_task_change-requires-clause-next c =
    let f : ℕ → ShownTask = λ i. shown_task c.args.machine.now (as_task i) in
    long_enough f c.args.shown.now.items c.loop-index.shown.items c.loop-index.index c.loop-index.invariant.shown

pub loop-index-preserved : goal.loop-index-preserved
loop-index-preserved c =
    let f : ℕ → ShownTask = λ i. shown_task c.args.machine.now (as_task i) in
    let old = c.args.shown.now.items in
    let xs = c.loop-index.shown.items in
    let n = c.loop-index.index in
    record {
      told = told_more (task_told c.args.names.now) no_task_shown f old n (get_or xs n no_task_shown) c.args.out.now c.loop-index.out _ c.loop-index.invariant.told c.put_task_change.ensures.told
          (as_before f old xs n c.loop-index.invariant.shown no_task_shown);
      shown = renewed_more f old xs n c.loop-index.invariant.shown _ c.put_task_change.ensures.shown;
    }

pub returns-clause-told : goal.returns-clause-told
returns-clause-told c =
    let f : ℕ → ShownTask = λ i. shown_task c.args.machine.now (as_task i) in
    let all : c.loop-index.index ≡ length c.args.machine.now.tasks = omega (arith, c.loop-index-test.false, c.loop-index.auto.index-end, c.task_count-count.ensures.value) in
    all_told (task_told c.args.names.now) no_task_shown f c.args.shown.now.items (length c.args.machine.now.tasks) c.args.out.now c.loop-index.out
    (subst (λ (n : ℕ). Adds (each (told_at (task_told c.args.names.now) no_task_shown f c.args.shown.now.items) n) c.args.out.now c.loop-index.out) all c.loop-index.invariant.told)

pub returns-clause-shown : goal.returns-clause-shown
returns-clause-shown c =
    let f : ℕ → ShownTask = λ i. shown_task c.args.machine.now (as_task i) in
    let all : c.loop-index.index ≡ length c.args.machine.now.tasks = omega (arith, c.loop-index-test.false, c.loop-index.auto.index-end, c.task_count-count.ensures.value) in
    all_renewed f c.args.shown.now.items c.loop-index.shown.items (length c.args.machine.now.tasks)
    (subst (λ (n : ℕ). c.loop-index.shown.items ≡ renewed f c.args.shown.now.items n) all c.loop-index.invariant.shown)
    _ (c.truncate.ensures.items ∙ ap (λ (n : ℕ). take n c.loop-index.shown.items) c.task_count-count.ensures.value)
