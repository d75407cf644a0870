use Rattle.std.proofs.Common.{◌≡◌, ◌∙◌, ◌++◌, ◌∷◌, ◌-◌, ◌+◌, [], suc, ap, sym, append_assoc, arith}
use Rattle.std.specs.Prelude.{replicate}
use Rattle.fmp_search_question.proofs.draft.add_times.Goals as goal

pub loop-preserved : goal.loop-preserved
loop-preserved c =
    let s = c.args.step.now in
    let left = c.args.times - (c.loop.counter + 1) in
    let below = c.loop-test.true in
    let next : c.args.times - c.loop.counter ≡ suc left = omega (arith, below) in
    ap (λ xs. xs ++ replicate left s) c.in_ok-push.ensures.items
    ∙ append_assoc c.loop.steps.items (c.in_ok-copy.field-0 ∷ []) (replicate left s)
    ∙ ap (λ x. c.loop.steps.items ++ x ∷ replicate left s) c.in_ok-copy.ensures
    ∙ ap (λ n. c.loop.steps.items ++ replicate n s) (sym next)
    ∙ c.loop.invariant
