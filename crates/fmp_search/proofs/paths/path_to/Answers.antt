use Rattle.std.proofs.Common.{◌≡◌, ◌++◌, ◌∙◌, List, ℕ, ap, sym, arith}
use Rattle.std.specs.Prelude.{reverse}
use Rattle.fmp_search.specs.Steps.{path_at}
use Rattle.fmp_search.proofs.Branches.{path-first, walk_back}
use Rattle.fmp_search.proofs.paths.path_to.Goals as goal

pub loop-place-preserved : goal.loop-place-preserved
loop-place-preserved c =
    walk_back c.args.nodes.now c.loop-place.place _ c.loop-place.steps.items _ _ c.requires.following (search arith) c.loop-place.invariant.0 c.in_ok-push.ensures.items c.loop-place.invariant.1

pub returns : goal.returns
returns c =
    let nodes = c.args.nodes.now in
    let past = c.loop-place-test.false in
    let first : c.loop-place.place ≡ 0 = omega (arith, past) in
    c.reverse.ensures.items ∙ ap (λ (xs : List ℕ). xs ++ reverse c.loop-place.steps.items) (sym (path-first nodes) ∙ ap (path_at nodes) (sym first)) ∙ c.loop-place.invariant.1
