use Rattle.std.proofs.Common.{◌≡◌, ℕ, ◌-◌, Bool, false, List, ◌∷◌, [], ◌++◌, length, filter, map, get_or, append_assoc, ap, sym, arith, ◌∙◌}
use Rattle.std.specs.List.{range_with_len}
use Rattle.std.proofs.lemmas.List.{length_push, map_push}
use Rattle.fmp_time.specs.declared.item.Item.{Item}
use Rattle.fmp_time.specs.Times.{item_at, marked_handlers}
use Rattle.fmp_time.proofs.Served.{filter_more, filter_same, range_more}
use Rattle.fmp_time.proofs.serving.serve_handlers.Goals as goal
use Rattle.fmp_time.proofs.serving.serve_handlers.Goals.{then-marks-k, else-marks-k}

pub loop-k-preserved : goal.loop-k-preserved
loop-k-preserved c =
    let p : ℕ → Bool = λ k. get_or c.args.marks.now k false in
    let k = c.loop-k.k in
    let a = c.args.items.now.items in
    let r = range_with_len 64 (c.loop-k.k - 64) in
    let next = range_more c.loop-k.k (omega arith) in
    elim c.if-marks-k.branch [
      | then-marks-k w ↦ record {
        items = ap (λ (v : _). v.items) w.items-is ∙ w.push.ensures.items ∙ ap (λ (t : Item). c.loop-k.items.items ++ t ∷ []) w.at_place.ensures
            ∙ ap (λ (xs : List Item). xs ++ item_at k ∷ []) c.loop-k.invariant.items ∙ append_assoc a (map item_at (filter p r)) (item_at k ∷ [])
            ∙ ap (λ (xs : List Item). a ++ xs) (sym (map_push item_at (filter p r) k) ∙ ap (map item_at) (sym (filter_more p r k w.if-marks-k.true) ∙ ap (filter p) (sym next)));
        few = omega (arith, ap (λ (v : _). length v.items) w.items-is, ap length w.push.ensures.items, length_push c.loop-k.items.items w.at_place.result, c.loop-k.invariant.few);
      }
      | else-marks-k w ↦ record {
        items = ap (λ (v : _). v.items) w.items-is ∙ c.loop-k.invariant.items
            ∙ ap (λ (xs : List ℕ). a ++ map item_at xs) (sym (filter_same p r k w.if-marks-k.false) ∙ ap (filter p) (sym next));
        few = omega (arith, ap (λ (v : _). length v.items) w.items-is, c.loop-k.invariant.few);
      }
    ]

pub returns : goal.returns
unfolding marked_handlers
returns c =
    let p : ℕ → Bool = λ k. get_or c.args.marks.now k false in
    let end : c.loop-k.k - 64 ≡ 64 = omega arith in
    c.loop-k.invariant.items ∙ ap (λ (n : ℕ). c.args.items.now.items ++ map item_at (filter p (range_with_len 64 n))) end
