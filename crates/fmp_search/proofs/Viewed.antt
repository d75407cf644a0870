-- Places that are seen through a view, with something beside them that stays: what is so of the ones is so of the others.
use Rattle.std.proofs.Common.{◌≡◌, ◌⊎◌, inl, inr, ◌∙◌, ℕ, ◌+◌, ◌≤◌, Bool, true, false, Option, Some, None, List, [], ◌∷◌, ◌++◌, map, get_or, refl, ap, sym, subst}
use Rattle.std.specs.Prelude.{option_map, unwrap_or}
use Rattle.std.specs.List.{fold}
use Rattle.std.specs.Option.{option_and_then}
use Rattle.std.proofs.lemmas.Bool.{false≢true}
use Rattle.std.proofs.lemmas.List.{map-append}
use Rattle.std.proofs.Math.ListN.{get_or-map}
use Rattle.fmp_search.specs.declared.nodes.Node.{Node}
use Rattle.fmp_search.specs.Answers.{HasMore}
use Rattle.fmp_search.specs.Meeting.{IsFull, IsLeftOpen}
use Rattle.fmp_search.specs.Runs.{run}
use Rattle.fmp_search.specs.Trees.{Found, found_at, made_by, places, root, with_node, AreDistinct, Grows, IsTree}

module _ {P R : Type 0} (after : P → ℕ → Option P) (seen : R → ℕ → Option R) (view : P → R) (goes : (p : P) (s : ℕ) → seen (view p) s ≡ option_map view (after p s)) where
  -- a run is seen as one
  pub run_viewed : (steps : List ℕ) (q : P) → run seen (view q) steps ≡ option_map view (run after q steps)
  run_viewed [] q = refl
  run_viewed (s ∷ steps) q = ap (λ o. option_and_then (λ r. run seen r steps) o) (goes q s) ∙ by (λ p. run_viewed steps p) (after q s)
    where
      by : ((p : P) → run seen (view p) steps ≡ option_map view (run after p steps)) → (o : Option P) →
          option_and_then (λ r. run seen r steps) (option_map view o) ≡ option_map view (option_and_then (λ r. run after r steps) o)
      by rest None = refl
      by rest (Some p) = rest p

  abbrev found_view : Found P → Found R
  found_view f = record { place = view f.place; depth = f.depth }

  made_viewed : (q : P) (found : List (Found P)) (n : Node) → made_by seen (view q) (map found_view found) n ≡ found_view (made_by after q found n)
  made_viewed q found n =
      let from = get_or found n.parent (root q) in
      let same : get_or (map found_view found) n.parent (root (view q)) ≡ found_view from = get_or-map found_view found n.parent (root q) in
      let place : unwrap_or (seen (view from.place) n.step) (view from.place) ≡ view (unwrap_or (after from.place n.step) from.place) =
      ap (λ o. unwrap_or o (view from.place)) (goes from.place n.step) ∙ by (after from.place n.step) from.place in
      ap (λ (f : Found R). record { place = unwrap_or (seen f.place n.step) f.place; depth = f.depth + 1 }) same
      ∙ ap (λ (r : R). record { place = r; depth = from.depth + 1 }) place
    where
      by : (o : Option P) (p : P) → unwrap_or (option_map view o) (view p) ≡ view (unwrap_or o p)
      by None p = refl
      by (Some r) p = refl

  folded_viewed : (q : P) (nodes : List Node) (found : List (Found P)) → fold (with_node seen (view q)) (map found_view found) nodes ≡ map found_view (fold (with_node after q) found nodes)
  folded_viewed q [] found = refl
  folded_viewed q (n ∷ nodes) found =
      let one : with_node seen (view q) (map found_view found) n ≡ map found_view (with_node after q found n) =
      ap (λ (f : Found R). map found_view found ++ f ∷ []) (made_viewed q found n) ∙ sym (map-append found_view found (made_by after q found n ∷ [])) in
      ap (λ (fs : List (Found R)). fold (with_node seen (view q)) fs nodes) one ∙ folded_viewed q nodes (with_node after q found n)

  -- and so are the places that were found
  found_viewed : (q : P) (nodes : List Node) (i : ℕ) → found_at seen (view q) nodes i ≡ found_view (found_at after q nodes i)
  unfolding places
  found_viewed q nodes i =
      ap (λ (fs : List (Found R)). get_or fs i (root (view q))) (folded_viewed q nodes (root q ∷ []))
      ∙ get_or-map found_view (fold (with_node after q) (root q ∷ []) nodes) i (root q)

  module _ (one : (a b : P) → view a ≡ view b → a ≡ b) where
    unviewed : (o : Option P) (r : R) → option_map view o ≡ Some r → (p : P) × (o ≡ Some p) × (view p ≡ r)
    unviewed None r is = cc
    unviewed (Some p) r is = (p, refl, cc)

    went_there : (a b : P) (s : ℕ) → seen (view a) s ≡ Some (view b) → after a s ≡ Some b
    went_there a b s is =
        let at = unviewed (after a s) (view b) (sym (goes a s) ∙ is) in
        at.1 ∙ ap (λ (p : P). Some p) (one at.0 b at.2)

    module _ (q : P) (nodes : List Node) where
      tree_of : IsTree seen (view q) nodes → IsTree after q nodes
      tree_of tree = record { grows = λ k d less. by k (get_or nodes k d) (tree.grows k d less) }
        where
          by : (k : ℕ) (n : Node) → Grows seen (view q) nodes k n → Grows after q nodes k n
          by k n so =
              let from = found_viewed q nodes n.parent in
              let to = found_viewed q nodes (k + 1) in
              let step = subst (λ (f : Found R). seen (found_view (found_at after q nodes n.parent)).place n.step ≡ Some f.place) to
              (subst (λ (f : Found R). seen f.place n.step ≡ Some (found_at seen (view q) nodes (k + 1)).place) from so.step) in
              record {
                earlier = so.earlier;
                step = went_there (found_at after q nodes n.parent).place (found_at after q nodes (k + 1)).place n.step step;
                deeper = sym (ap (λ (f : Found R). f.depth) to) ∙ (so.deeper ∙ ap (λ (f : Found R). f.depth + 1) from);
              }

      distinct_of : AreDistinct seen (view q) nodes → AreDistinct after q nodes
      distinct_of distinct i j less few same =
          distinct i j less few
          (ap (λ (f : Found R). f.place) (found_viewed q nodes i) ∙ (ap view same ∙ sym (ap (λ (f : Found R). f.place) (found_viewed q nodes j))))

      more_of : (n : ℕ) → HasMore seen (view q) nodes n → HasMore after q nodes n
      more_of n more =
          let to = unviewed (run after q more.steps) more.place (sym (run_viewed more.steps q) ∙ more.leads) in
          record {
            steps = more.steps;
            place = to.0;
            short = more.short;
            leads = to.1;
            new = λ i few same. more.new i few (ap (λ (f : Found R). f.place) (found_viewed q nodes i) ∙ (ap view same ∙ to.2));
          }

    -- where the room was used up by the ones, it was by the others
    pub full_viewed : (q : P) (turns room : ℕ) → IsFull seen (view q) turns room → IsFull after q turns room
    full_viewed q turns room full =
        let used = full.2 in (
          full.0,
          full.1,
          record {
            nodes = used.nodes;
            tree = tree_of q used.nodes used.tree;
            all = used.all;
            near = λ i few. subst (λ (f : Found R). f.depth ≤ full.0 + 1) (found_viewed q used.nodes i) (used.near i few);
            distinct = distinct_of q used.nodes used.distinct;
            beyond = more_of q used.nodes (full.0 + 1) used.beyond;
          },
        )

    -- and where nothing is looked for, that is why something was left open, or who may end the search did
    pub open_viewed : (q : P) (turns room : ℕ) (over : Bool) → IsLeftOpen seen (λ r. false) (view q) turns room over → IsFull after q turns room ⊎ (over ≡ true)
    open_viewed q turns room over (inl met) = absurd (false≢true met.1.is_wanted)
    open_viewed q turns room over (inr (inl full)) = inl (full_viewed q turns room full)
    open_viewed q turns room over (inr (inr ended)) = inr ended
