use Rattle.std.proofs.Common.{◌≡◌, ℕ, ◌+◌, ◌-◌, Bool, false, not, List, ◌∷◌, [], ◌++◌, length, take, drop, filter, map, get_or, subst, ap, sym, arith, ◌∙◌}
use Rattle.std.proofs.lemmas.List.{take_more, length_push, map_push}
use Rattle.fmp_codes.specs.declared.numbers.Task.{Task}
use Rattle.fmp_kernel_parts.specs.Tasks.{without, AreDistinct}
use Rattle.fmp_time.specs.declared.item.Item.{Item}
use Rattle.fmp_time.specs.Times.{wait_of, is_marked}
use Rattle.fmp_time.proofs.Served.{filter_more, filter_same, goes, stays}
use Rattle.fmp_time.proofs.serving.serve_waits.Goals as goal
use Rattle.fmp_time.proofs.serving.serve_waits.Goals.{then-marks-index, else-marks-index}

pub loop-task-preserved : goal.loop-task-preserved
loop-task-preserved c =
    let marks = c.args.marks.now in
    let f : ℕ → Bool = λ n. get_or c.args.marks.now (n - 1) false in
    let p : Task → Bool = λ t. is_marked c.args.marks.now t in
    let ws = c.as_slice-task-items.result.now in
    let i = c.loop-task.task-index in
    let t = c.task-item.result in
    let more : take (c.loop-task.task-index + 1) c.as_slice-task-items.result.now ≡ take c.loop-task.task-index c.as_slice-task-items.result.now ++ c.task-item.result ∷ [] =
    take_more ws i t c.loop-task-test.true ∙ ap (λ (u : Task). take i ws ++ u ∷ []) (sym c.task-item.is) in
    let apart : AreDistinct c.as_slice-task-items.result.now = subst AreDistinct (sym c.loop-task.invariant.all) c.loop-task.invariant.distinct in
    let at : p (get_or c.as_slice-task-items.result.now c.loop-task.task-index c.task-item.result) ≡ get_or c.args.marks.now c.index.result false =
    ap p (sym c.task-item.is) ∙ ap (λ (j : ℕ). get_or c.args.marks.now j false) (sym c.index.ensures.value) in
    let here : p c.task-item.result ≡ get_or c.args.marks.now c.index.result false = ap (λ (j : ℕ). get_or c.args.marks.now j false) (sym c.index.ensures.value) in
    elim c.if-marks-index.branch [
      | then-marks-index w ↦ record {
        items = ap (λ (v : _). v.items) w.items-is ∙ w.push.ensures.items ∙ ap (λ (xs : List Item). xs ++ wait_of t ∷ []) c.loop-task.invariant.items
            ∙ sym (map_push wait_of (filter p (take i ws)) t) ∙ ap (map wait_of) (sym (filter_more p (take i ws) t (here ∙ w.if-marks-index.true)) ∙ ap (filter p) (sym more));
        waits = w.waits-is ∙ w.remove.ensures.tasks ∙ ap (without t) c.loop-task.invariant.waits
            ∙ ap (λ (u : Task). without u (filter (λ v. not (p v)) (take i ws) ++ drop i ws)) c.task-item.is
            ∙ goes f ws i t c.loop-task-test.true apart (at ∙ w.if-marks-index.true);
        few = omega (arith, ap (λ (v : _). length v.items) w.items-is, ap length w.push.ensures.items, length_push c.loop-task.items.items (wait_of t), c.loop-task.invariant.few);
        all = c.loop-task.invariant.all;
        count = c.loop-task.invariant.count;
        distinct = c.loop-task.invariant.distinct;
      }
      | else-marks-index w ↦ record {
        items = ap (λ (v : _). v.items) w.items-is ∙ c.loop-task.invariant.items
            ∙ ap (map wait_of) (sym (filter_same p (take i ws) t (here ∙ w.if-marks-index.false)) ∙ ap (filter p) (sym more));
        waits = w.waits-is ∙ c.loop-task.invariant.waits ∙ stays f ws i t c.loop-task-test.true (at ∙ w.if-marks-index.false);
        few = omega (arith, ap (λ (v : _). length v.items) w.items-is, c.loop-task.invariant.few);
        all = c.loop-task.invariant.all;
        count = c.loop-task.invariant.count;
        distinct = c.loop-task.invariant.distinct;
      }
    ]
