use Rattle.std.proofs.Common.{◌≡◌, ℕ, ◌+◌, ◌-◌, Bool, false, List, ◌∷◌, [], ◌++◌, length, filter, map, get_or, ap, sym, arith, ◌∙◌}
use Rattle.std.specs.List.{range_with_len}
use Rattle.std.proofs.lemmas.List.{length_push}
use Rattle.std.proofs.lemmas.List.FromFn.{map-range_with_len_more}
use Rattle.fmp_codes.specs.Numbers.{as_object}
use Rattle.fmp_codes.specs.declared.numbers.Object.{Object}
use Rattle.fmp_time.specs.Times.{is_marked_from, all_objects}
use Rattle.fmp_time.proofs.Served.{filter_more, filter_same}
use Rattle.fmp_time.proofs.serving.marked_objects.Goals as goal
use Rattle.fmp_time.proofs.serving.marked_objects.Goals.{then-marks-place, else-marks-place}

pub loop-index-preserved : goal.loop-index-preserved
loop-index-preserved c =
    let p : Object → Bool = is_marked_from c.args.place c.args.marks.now in
    let i = c.loop-index.index in
    let os = map as_object (range_with_len 1 c.loop-index.index) in
    let next = map-range_with_len_more as_object 1 i (i + 1) (omega arith) in
    let place : c.args.place + ((as_object (c.loop-index.index + 1)).number - 1) ≡ c.args.place + c.loop-index.index = omega (arith, c.loop-index-test.true) in
    let at : p (as_object (c.loop-index.index + 1)) ≡ get_or c.args.marks.now (c.args.place + c.loop-index.index) false = ap (λ (j : ℕ). get_or c.args.marks.now j false) place in
    elim c.if-marks-place.branch [
      | then-marks-place w ↦ record {
        items = ap (λ (v : _). v.items) w.objects-is ∙ w.push.ensures.items ∙ ap (λ (o : Object). c.loop-index.objects.items ++ o ∷ []) w.from_index.ensures.value
            ∙ ap (λ (xs : List Object). xs ++ as_object (c.loop-index.index + 1) ∷ []) c.loop-index.invariant.items
            ∙ sym (filter_more p os (as_object (c.loop-index.index + 1)) (at ∙ w.if-marks-place.true)) ∙ ap (filter p) (sym next);
        few = omega (arith, ap (λ (v : _). length v.items) w.objects-is, ap length w.push.ensures.items, length_push c.loop-index.objects.items w.from_index.result, c.loop-index.invariant.few);
      }
      | else-marks-place w ↦ record {
        items = ap (λ (v : _). v.items) w.objects-is ∙ c.loop-index.invariant.items
            ∙ sym (filter_same p os (as_object (c.loop-index.index + 1)) (at ∙ w.if-marks-place.false)) ∙ ap (filter p) (sym next);
        few = omega (arith, ap (λ (v : _). length v.items) w.objects-is, c.loop-index.invariant.few);
      }
    ]

pub returns : goal.returns
unfolding all_objects
returns c =
    let end : c.loop-index.index ≡ 32 = omega arith in
    c.loop-index.invariant.items ∙ ap (λ (n : ℕ). filter (is_marked_from c.args.place c.args.marks.now) (map as_object (range_with_len 1 n))) end
