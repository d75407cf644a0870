use Rattle.std.proofs.Common.{◌≡◌, ℕ, ◌+◌, Bool, false, Some, List, ◌∷◌, [], ◌++◌, length, take, drop, filter, get_or, ap, sym, arith, ◌∙◌}
use Rattle.std.proofs.lemmas.List.{length_push}
use Rattle.fmp_codes.specs.declared.numbers.Task.{Task}
use Rattle.fmp_kernel_parts.specs.Lists.{first_of}
use Rattle.fmp_kernel_parts.proofs.Walking.{part, prefix, ended}
use Rattle.fmp_time.specs.Times.{is_marked}
use Rattle.fmp_time.proofs.Served.{filter_more, filter_same}
use Rattle.fmp_time.proofs.serving.marked_waits.Goals as goal
use Rattle.fmp_time.proofs.serving.marked_waits.Goals.{then-marks-index, else-marks-index}

pub returns-in-None : goal.returns-in-None
returns-in-None c = c.loop.invariant.items ∙ ap (filter (is_marked c.args.marks.now)) (ended c.args.waits.now c.loop.counter (sym c.loop.invariant.here ∙ c.in-None.is))

pub loop-preserved : goal.loop-preserved
loop-preserved c =
    let ts = c.args.waits.now in
    let k = c.loop.counter in
    let t = c.in-Some.task in
    let p : Task → Bool = λ u. is_marked c.args.marks.now u in
    let e : first_of (drop c.loop.counter c.args.waits.now) ≡ Some c.in-Some.task = sym c.loop.invariant.here ∙ c.in-Some.is in
    let at : p c.in-Some.task ≡ get_or c.args.marks.now c.index.result false = ap (λ (j : ℕ). get_or c.args.marks.now j false) (sym c.index.ensures.value) in
    let on = c.next-here.ensures (take k ts) (drop (k + 1) ts) (part ts k t e) in
    elim c.if-marks-index.branch [
      | then-marks-index w ↦ record {
        items = ap (λ (v : _). v.items) w.marked-is ∙ w.push.ensures.items ∙ ap (λ (xs : List Task). xs ++ t ∷ []) c.loop.invariant.items
            ∙ sym (filter_more p (take k ts) t (at ∙ w.if-marks-index.true)) ∙ ap (filter p) (sym (prefix ts k t e));
        here = on;
        some = omega (arith, ap (λ (v : _). length v.items) w.marked-is, ap length w.push.ensures.items, length_push c.loop.marked.items t, c.loop.invariant.some);
        few = c.loop.invariant.few;
      }
      | else-marks-index w ↦ record {
        items = ap (λ (v : _). v.items) w.marked-is ∙ c.loop.invariant.items
            ∙ sym (filter_same p (take k ts) t (at ∙ w.if-marks-index.false)) ∙ ap (filter p) (sym (prefix ts k t e));
        here = on;
        some = omega (arith, ap (λ (v : _). length v.items) w.marked-is, c.loop.invariant.some);
        few = c.loop.invariant.few;
      }
    ]
