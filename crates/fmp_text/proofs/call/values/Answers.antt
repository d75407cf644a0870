use Rattle.std.proofs.Common.{◌≡◌, ◌<◌, [], length, map, get_or, ap, ◌∙◌, arith}
use Rattle.std.proofs.lemmas.Result.{err_from_is_err_and}
use Rattle.std.proofs.lemmas.List.{length-map, get_or-map}
use Rattle.fmp_codes.specs.declared.kinds.ArgumentKind.TheVariants.{Object}
use Rattle.fmp_codes.specs.declared.kinds.ObjectKind.TheVariants.{Task}
use Rattle.fmp_text.specs.Places.{place_of, value}
use Rattle.fmp_text.proofs.Judged.{goes_on, ends}
use Rattle.fmp_text.proofs.call.values.Goals as goal
use Rattle.fmp_text.proofs.call.values.Goals.{After-value}

-- the argument here is that of the text at this index
here : (c : After-value) → value c.args.names.now c.args.call (get_or c.args.kinds.now c.loop-index.index (Object Task)) (get_or (map (λ t. t.now) c.args.texts.now) c.loop-index.index [])
    ≡ value c.args.names.now c.args.call (get_or c.args.kinds.now c.loop-index.index (Object Task)) (get_or c.args.texts.now c.loop-index.index (record { ref_ptr = (0, 0); now = [] })).now
here c =
    let lt : c.loop-index.index < length c.args.texts.now = omega (arith, c.requires.same, c.loop-index-test.true) in
    ap (value c.args.names.now c.args.call (get_or c.args.kinds.now c.loop-index.index (Object Task))) (get_or-map (λ t. t.now) c.args.texts.now c.loop-index.index (record { ref_ptr = (0, 0); now = [] }) [] lt)

pub returns-in_err-value : goal.returns-in_err-value
returns-in_err-value c =
    let p = err_from_is_err_and c.from_residual.result c.from_residual.ensures.1 in
    let lt : c.loop-index.index < length (map (λ t. t.now) c.args.texts.now) = rw length-map (omega (arith, c.requires.same, c.loop-index-test.true)) in
    let is = here (goal.at.returns-in_err-value c).After-value ∙ c.in_err-value.ensures in
    rw (p.1, p.2) (ends c.args.names.now c.args.call c.args.kinds.now (map (λ t. t.now) c.args.texts.now) _ c.loop-index.values.items c.loop-index.index (Object Task) [] (place_of c.in_err-value.field-0.0) c.loop-index-test.true lt is c.loop-index.invariant.0)

pub loop-index-preserved : goal.loop-index-preserved
loop-index-preserved c =
    let lt : c.loop-index.index < length (map (λ t. t.now) c.args.texts.now) = rw length-map (omega (arith, c.requires.same, c.loop-index-test.true)) in
    let is = here (goal.at.loop-index-preserved c).After-value ∙ c.in_ok-value.ensures in
    let more = goes_on c.args.names.now c.args.call c.args.kinds.now (map (λ t. t.now) c.args.texts.now) _ c.loop-index.values.items c.loop-index.index (Object Task) [] c.in_ok-value.field-0 c.loop-index-test.true lt is c.loop-index.invariant.0 in
    (rw c.push.ensures.items more, omega (arith, c.push.ensures.len, c.loop-index.invariant.1))
