use Rattle.std.proofs.Common.{◌≡◌, ℕ, ◌+◌, length, map, ap, ◌∙◌}
use Rattle.std.specs.List.{range_with_len}
use Rattle.std.proofs.lemmas.List.FromFn.{length-map-range_with_len}
use Rattle.fmp_codes.specs.Numbers.{as_task}
use Rattle.fmp_codes.specs.declared.numbers.Task.{Task}
use Rattle.fmp_run_wave.specs.declared.snapshot.ShownTask.{ShownTask}
use Rattle.fmp_run_wave.specs.Shown.{shown_task}
use Rattle.fmp_run_wave.proofs.Alike.{one_more}
use Rattle.fmp_run_wave.proofs.snapshot.shown_tasks.Goals as goal

pub loop-index-preserved : goal.loop-index-preserved
loop-index-preserved c =
    let w = c.args.machine.now in
    let n = c.loop-index.index in
    let f : ℕ → ShownTask = λ i. shown_task w (as_task i) in
    let is = c.shown_task.ensures ∙ ap (λ (x : Task). shown_task w x) c.from_index.ensures.value in
    let shown : c.push.new.self.items ≡ map f (range_with_len 1 (n + 1)) = one_more f n _ _ _ c.loop-index.invariant.shown is c.push.ensures.items in
    record {
      shown = shown;
      count = ap length shown ∙ length-map-range_with_len f 1 (n + 1);
    }
