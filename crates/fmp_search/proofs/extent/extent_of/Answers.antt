use Rattle.std.proofs.Common.{◌+◌, ◌<◌, ◌≡◌, ◌∙◌, ℕ, ◌≤◌, List, [], ◌∷◌, ◌++◌, length, ap, arith, refl}
use Rattle.std.proofs.lemmas.Grind.{common_steps}
use Rattle.std.specs.Prelude.{slice_index_or}
use Rattle.fmp_search.specs.Steps.{path_at}
use Rattle.fmp_search.proofs.Branches.{path-first, nobody}
use Rattle.fmp_search.proofs.Extents.{this_too, next_long, are_more, far_more}
use Rattle.fmp_search.proofs.extent.extent_of.Goals as goal

pub loop-node-init : goal.loop-node-init
loop-node-init c =
    let nodes = c.args.nodes.now in
    let items : c.push.new.self.items ≡ 0 ∷ [] = c.in_ok-push.ensures.items ∙ ap (λ (xs : List ℕ). xs ++ 0 ∷ []) c.new-depths.ensures.items in
    let first : length (path_at nodes 0) ≡ 0 = ap (λ (xs : List ℕ). length xs) (path-first nodes) in
    record {
      long = ap (λ (xs : List ℕ). length xs) items;
      are = λ i d le. let z : i ≡ 0 = omega (arith, le) in rw z (rw items (rw (path-first nodes) refl));
      small = λ i le. let z : i ≡ 0 = omega (arith, le) in rw z (rw (path-first nodes) (omega arith));
      near = λ i le. let z : i ≡ 0 = omega (arith, le) in rw z (rw (path-first nodes) (omega arith));
      far = (0, omega arith, first);
    }

longer : (xs : List ℕ) (x n : ℕ) → length xs ≡ n → length (xs ++ x ∷ []) ≡ n + 1
longer xs x n long = grind (arith, common_steps, long)

pub loop-node-preserved : goal.loop-node-preserved
loop-node-preserved c =
    let nodes = c.args.nodes.now in
    let inv = c.loop-node.invariant in
    let at = c.loop-node.node-index in
    let lt : at < length nodes = c.loop-node-test.true in
    let next = next_long nodes at nobody c.requires.following lt in
    let low = c.requires.following.earlier at nobody lt in
    let parent = (slice_index_or nodes at nobody).parent in
    let depth : c.index.result.now ≡ length (path_at nodes parent) = c.index.ensures ∙ inv.are parent _ low in
    let last : c.index.result.now + 1 ≡ length (path_at nodes (at + 1)) = omega (arith, next, depth) in
    let short = inv.small parent low in
    let most = c.max-farthest.ensures in record {
      long = ap (λ (xs : List ℕ). length xs) c.in_ok-push-2.ensures.items ∙ longer c.loop-node.depths.items (c.index.result.now + 1) (at + 1) inv.long;
      are = are_more nodes c.loop-node.depths.items _ at (c.index.result.now + 1) inv.long c.in_ok-push-2.ensures.items last inv.are;
      small = this_too (λ k. length (path_at nodes k) ≤ k) at inv.small (omega (arith, next, short, low));
      near = this_too (λ k. length (path_at nodes k) ≤ c.max-farthest.result) at (λ k le. let near = inv.near k le in omega (arith, near, most)) (omega (arith, last, most));
      far = far_more nodes at (c.index.result.now + 1) c.loop-node.farthest c.max-farthest.result most last inv.far;
    }
