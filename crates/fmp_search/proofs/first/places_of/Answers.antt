use Rattle.std.proofs.Common.{◌≡◌, ◌∙◌, ℕ, ◌+◌, Some, List, [], ◌∷◌, ◌++◌, length, ap, sym, subst, arith}
use Rattle.std.specs.Prelude.{slice_get, slice_index_or}
use Rattle.std.proofs.lemmas.Grind.{common_steps}
use Rattle.std.proofs.lemmas.Option.{slice_get-get_or}
use Rattle.fmp_interned.specs.Keys.{AreKeptBy}
use Rattle.fmp_search.specs.Trees.{Found, found_at}
use Rattle.fmp_search.proofs.Branches.{nobody}
use Rattle.fmp_search.proofs.Keys.{each_more, each_one}
use Rattle.fmp_search.proofs.Trees.{found-root}
use Rattle.fmp_search.proofs.first.places_of.Goals as goal

pub loop-node-init : goal.loop-node-init
loop-node-init g c =
    let W = g.W.Space in
    let q = W.origin c.args.walker.now in
    let nodes = c.args.nodes.now in
    let tables = c.pack.new.tables in
    let first = c.in_ok-first.first in
    let items : c.push.new.self.items ≡ first ∷ [] = c.in_ok-push.ensures.items ∙ ap (λ (xs : List ℕ). xs ++ first ∷ []) c.new-keys.ensures.items in
    let there = c.in_ok-restart.ensures.there in
    let same = c.restart.ensures.origin in
    let key : W.IsKey q tables first q =
    subst (λ p. W.IsKey q tables first p) there (subst (λ x. W.IsKey x tables first (W.place c.restart.new.self)) same c.in_ok-first.ensures.key.there) in record {
      origin = same;
      long = ap (λ (xs : List ℕ). length xs) items;
      each = λ i k at.
          each_one (W.IsKey q tables) (λ n. (found_at W.after q nodes n).place) first
          (subst (λ (f : Found W.Place). W.IsKey q tables first f.place) (sym (found-root W.after q nodes)) key) i k
          (subst (λ (xs : List ℕ). slice_get xs i ≡ Some k) items at);
    }

-- the step of a node is one from a place before it, whose key is the one that was looked up
pub key_after-requires : goal.key_after-requires
key_after-requires g c =
    let W = g.W.Space in
    let q = W.origin c.args.walker.now in
    let inv = c.loop-node.invariant in
    let keys = c.loop-node.keys.items in
    let parent = (slice_index_or c.args.nodes.now c.loop-node.node-index nobody).parent in
    let low = (c.requires.grows c.loop-node.node-index nobody c.loop-node-test.true).earlier in
    let long = inv.long in
    let from = (found_at W.after q c.args.nodes.now parent).place in (
      from,
      subst (λ o. W.IsKey o c.loop-node.tables c.index.result.now from) (sym inv.origin)
          (subst (λ k. W.IsKey q c.loop-node.tables k from) (sym c.index.ensures) (inv.each parent _ (slice_get-get_or keys parent _ (omega (arith, low, long))))),
    )

longer : (keys : List ℕ) (key n : ℕ) → length keys ≡ n → length (keys ++ key ∷ []) ≡ n + 1
longer keys key n long = grind (arith, common_steps, long)

pub loop-node-preserved : goal.loop-node-preserved
loop-node-preserved g c =
    let W = g.W.Space in
    let q = W.origin c.args.walker.now in
    let nodes = c.args.nodes.now in
    let at = c.loop-node.node-index in
    let inv = c.loop-node.invariant in
    let long = inv.long in
    let old = c.loop-node.tables in
    let new = c.key_after.new.tables in
    let keys = c.loop-node.keys.items in
    let key = c.in_ok-key.key in
    let grows = c.requires.grows at nobody c.loop-node-test.true in
    let low = grows.earlier in
    let parent = (slice_index_or nodes at nobody).parent in
    let place : ℕ → W.Place = λ i. (found_at W.after q nodes i).place in
    let items = c.in_ok-push-2.ensures.items in
    let there = subst (λ x. W.IsKey x old c.index.result.now (place parent)) (sym inv.origin)
    (subst (λ k. W.IsKey q old k (place parent)) (sym c.index.ensures) (inv.each parent _ (slice_get-get_or keys parent _ (omega (arith, low, long))))) in
    let last = subst (λ x. W.IsKey x new key (place (at + 1))) inv.origin (c.in_ok-key.ensures.key (place parent) (place (at + 1)) there grows.step) in
    let stay = subst (λ x. AreKeptBy (W.IsKey x old) (W.IsKey x new)) inv.origin c.in_ok-key.ensures.kept in
    record {
      origin = c.in_ok-key.ensures.origin ∙ inv.origin;
      long = ap (λ (ks : List ℕ). length ks) items ∙ longer keys key (at + 1) long;
      each = λ i k is.
          each_more (W.IsKey q new) place keys key (λ i k had. stay k (place i) (inv.each i k had)) (subst (λ n. W.IsKey q new key (place n)) (sym long) last) i k
          (subst (λ (ks : List ℕ). slice_get ks i ≡ Some k) items is);
    }

pub returns : goal.returns
returns g c =
    let inv = c.loop-node.invariant in
    let past = c.loop-node-test.false in
    let end = c.loop-node.auto.node-index-end in
    let done : c.loop-node.node-index ≡ length c.args.nodes.now = omega (arith, past, end) in record {
      long = inv.long ∙ ap (λ n. n + 1) done;
      each = inv.each;
    }
