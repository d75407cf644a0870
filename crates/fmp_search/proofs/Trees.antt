-- One node more, and runs in two parts.
use Rattle.std.proofs.Common.{◌≡◌, ℕ, ◌+◌, ◌<◌, ◌≤◌, Option, None, Some, List, [], ◌∷◌, ◌++◌, length, get_or, refl, arith}
use Rattle.std.specs.Prelude.{unwrap_or}
use Rattle.std.specs.Option.{option_and_then}
use Rattle.std.specs.List.{fold}
use Rattle.std.proofs.lemmas.List.Sums.{fold-append}
use Rattle.std.proofs.lemmas.Grind.{common_steps}
use Rattle.std.proofs.Math.ListN.{get_or-append}
use Rattle.std.proofs.Math.Seq.{get_or-append_seam}
use Rattle.fmp_search.specs.declared.nodes.Node.{Node}
use Rattle.fmp_search.specs.Runs.{run}
use Rattle.fmp_search.specs.Trees.{Found, root, made_by, with_node, places, found_at, IsTree, Has}

module _ {P : Type 0} (after : P → ℕ → Option P) where
  pub run-append : (q : P) (xs ys : List ℕ) → run after q (xs ++ ys) ≡ option_and_then (λ r. run after r ys) (run after q xs)
  run-append q [] ys = refl
  run-append q (s ∷ xs) ys =
      elim (after q s) as (λ o. option_and_then (λ r. run after r (xs ++ ys)) o ≡ option_and_then (λ r. run after r ys) (option_and_then (λ r. run after r xs) o))
      [ None ↦ refl | Some r ↦ run-append r xs ys ]

  -- the places with one node more
  pub places-more : (q : P) (ns : List Node) (n : Node) → places after q (ns ++ n ∷ []) ≡ places after q ns ++ made_by after q (places after q ns) n ∷ []
  unfolding places
  places-more q ns n = fold-append (with_node after q) (root q ∷ []) ns (n ∷ [])

  folded-length : (q : P) (found : List (Found P)) (ns : List Node) → length (fold (with_node after q) found ns) ≡ length found + length ns
  folded-length q found [] = omega arith
  folded-length q found (n ∷ ns) = grind (arith, common_steps, folded-length q (with_node after q found n) ns)

  pub places-length : (q : P) (ns : List Node) → length (places after q ns) ≡ length ns + 1
  unfolding places
  places-length q ns = let e = folded-length q (root q ∷ []) ns in omega (arith, e)

  pub found-first : (q : P) → found_at after q [] 0 ≡ root q
  unfolding places
  found-first q = refl

  -- the earlier places stay
  pub found-stays : (q : P) (ns : List Node) (n : Node) (i : ℕ) → i ≤ length ns → found_at after q (ns ++ n ∷ []) i ≡ found_at after q ns i
  found-stays q ns n i h =
      let l = places-length q ns in
      let lt : i < length (places after q ns) = omega (arith, l, h) in
      rw (places-more q ns n) (get_or-append (places after q ns) (made_by after q (places after q ns) n ∷ []) (root q) i lt)

  -- and the new one is what its node says
  pub found-more : (q : P) (ns : List Node) (n : Node) → found_at after q (ns ++ n ∷ []) (length ns + 1) ≡ made_by after q (places after q ns) n
  found-more q ns n =
      let l = places-length q ns in
      let seam = get_or-append_seam (places after q ns) (made_by after q (places after q ns) n) [] (root q) in
      rw (places-more q ns n) (rw (← l) seam)

  -- one of the places stays one
  pub has-stays : (q : P) (ns : List Node) (n : Node) (r : P) → Has after q ns r → Has after q (ns ++ n ∷ []) r
  has-stays q ns n r h =
      let le : h.0 ≤ length (ns ++ n ∷ []) = let b = h.1 in grind (arith, common_steps) in
      (h.0, le, rw (found-stays q ns n h.0 h.1) h.2)

  -- the nodes with one more, of a step that can be made
  pub tree-more :
      (q : P) (ns : List Node) (n : Node) (r : P) → IsTree after q ns → n.parent ≤ length ns →
      after (found_at after q ns n.parent).place n.step ≡ Some r →
      (found_at after q (ns ++ n ∷ []) (length ns + 1) ≡ record { place = r; depth = (found_at after q ns n.parent).depth + 1 })
  tree-more q ns n r tree low step =
      let e : unwrap_or (after (found_at after q ns n.parent).place n.step) (found_at after q ns n.parent).place ≡ r = rw step refl in
      rw (found-more q ns n) (rw e refl)

  folded-first : (q : P) (found : List (Found P)) (ns : List Node) → 0 < length found → get_or (fold (with_node after q) found ns) 0 (root q) ≡ get_or found 0 (root q)
  folded-first q found [] h = refl
  folded-first q found (n ∷ ns) h =
      let longer : 0 < length (with_node after q found n) = grind (arith, common_steps) in
      let more = folded-first q (with_node after q found n) ns longer in
      let kept = get_or-append found (made_by after q found n ∷ []) (root q) 0 h in
      rw more kept

  -- place 0 is where all runs begin
  pub found-root : (q : P) (ns : List Node) → found_at after q ns 0 ≡ root q
  unfolding places
  found-root q ns = folded-first q (root q ∷ []) ns (omega arith)
