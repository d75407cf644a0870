use Rattle.std.proofs.Common.{◌≡◌, ◌∙◌, ◌+◌, Bool, cond, ap, sym, arith}
use Rattle.fmp_codes.specs.Numbers.{as_task}
use Rattle.fmp_codes.specs.declared.numbers.Task.{Task}
use Rattle.fmp_run_most.specs.Figures.{counts, tasks_to}
use Rattle.fmp_run_most.proofs.Few.{no_task_yet, task_more}
use Rattle.fmp_run_most.proofs.figure.tasks_counted.Goals as goal
use Rattle.fmp_run_most.proofs.figure.tasks_counted.Goals.{then-counts, else-counts}

pub loop-index-init : goal.loop-index-init
loop-index-init g c = let W = g.M.Words in record { so_far = no_task_yet (W.world c.args.machine.now) c.args.figure; few = omega arith }

pub loop-index-preserved : goal.loop-index-preserved
loop-index-preserved g c = let W = g.M.Words in
    let w = W.world c.args.machine.now in
    let f = c.args.figure in
    let n = c.loop-index.index in
    let so_far = c.loop-index.invariant.so_far in
    let few = c.loop-index.invariant.few in
    let test : c.counts.result ≡ counts w f (as_task (n + 1)) = c.counts.ensures ∙ ap (λ (t : Task). counts w f t) c.from_index.ensures.value in
    let more = task_more w f n in
    elim c.if-counts.branch [
      | then-counts w' ↦
          let step : tasks_to w f (n + 1) ≡ tasks_to w f n + 1 = more ∙ ap (λ (b : Bool). tasks_to w f n + cond b 1 0) (sym test ∙ w'.if-counts.true) in
          record { so_far = w'.count-is ∙ omega (arith, step, so_far); few = let is = w'.count-is in omega (arith, is, few) }
      | else-counts w' ↦
          let step : tasks_to w f (n + 1) ≡ tasks_to w f n + 0 = more ∙ ap (λ (b : Bool). tasks_to w f n + cond b 1 0) (sym test ∙ w'.if-counts.false) in
          record { so_far = w'.count-is ∙ omega (arith, step, so_far); few = let is = w'.count-is in omega (arith, is, few) }
    ]
