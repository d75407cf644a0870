use Rattle.std.proofs.Common.{◌≡◌, ℤ, true, arith, of_z, subst, sym, to_z, w64}
use Rattle.std.specs.List.{list_any}
use Rattle.std.specs.Ordering.{int_eq}
use Rattle.std.proofs.lemmas.Int.{to_z-of_z}
use Rattle.fmp_rules.specs.Objects.{values}
use Rattle.fmp_show_facts.proofs.Some.{later_value, this_value}
use Rattle.fmp_show_facts.proofs.holding.has_value.Goals as goal

pub returns-then-is_value : goal.returns-then-is_value
returns-then-is_value g c = let W = g.M.Words in
    let lt = c.loop-index-test.true in
    let count = c.value_count-index-end.ensures.value in
    let vs = values (W.world c.args.machine.now) c.args.d in
    sym (subst (λ (v : ℤ). list_any (int_eq v) vs ≡ true) (to_z-of_z w64 c.args.value c.ranges.value)
    (this_value (to_z w64 (of_z w64 c.args.value)) vs c.loop-index.index (omega (arith, lt, count)) c.value.result c.is_value.result _
    c.value.ensures c.is_value.ensures c.if-is_value.true c.loop-index.invariant))

pub loop-index-preserved : goal.loop-index-preserved
loop-index-preserved g c = let W = g.M.Words in
    let lt = c.loop-index-test.true in
    let count = c.value_count-index-end.ensures.value in
    later_value (to_z w64 (of_z w64 c.args.value)) (values (W.world c.args.machine.now) c.args.d) c.loop-index.index (omega (arith, lt, count)) c.value.result c.is_value.result _
    c.value.ensures c.is_value.ensures c.if-is_value.false c.loop-index.invariant
