-- The steps to each place that was found.
use Rattle.std.proofs.Common.{◌≡◌, ℕ, zero, suc, ◌+◌, ◌-◌, ◌<◌, ◌≤◌, Option, Some, List, [], ◌∷◌, ◌++◌, length, get_or, refl, ap, sym, ◌∙◌, arith}
use Rattle.std.specs.Prelude.{reverse, slice_index_or}
use Rattle.std.specs.Option.{option_and_then}
use Rattle.std.specs.List.{fold}
use Rattle.std.proofs.lemmas.Grind.{common_steps}
use Rattle.std.proofs.lemmas.List.{append_assoc, reverse-append}
use Rattle.std.proofs.Math.ListN.{get_or-append}
use Rattle.std.proofs.Math.Seq.{get_or-append_seam}
use Rattle.fmp_search.specs.declared.nodes.Node.{Node}
use Rattle.fmp_search.specs.Runs.{run}
use Rattle.fmp_search.specs.Trees.{found_at, IsTree}
use Rattle.fmp_search.specs.Steps.{with_path, paths, path_at, AreAfter}
use Rattle.fmp_search.proofs.Trees.{run-append, found-root}

-- ---- the steps to a place

-- one path more
with_path-length : (found : List (List ℕ)) (n : Node) → length (with_path found n) ≡ length found + 1
with_path-length found n = grind (arith, common_steps)

-- the paths that were there stay
folded-stays : (found : List (List ℕ)) (ns : List Node) (i : ℕ) → i < length found → get_or (fold with_path found ns) i [] ≡ get_or found i []
folded-stays found [] i lt = refl
folded-stays found (n ∷ ns) i lt =
    let l = with_path-length found n in
    let more = folded-stays (with_path found n) ns i (omega (arith, l, lt)) in
    more ∙ get_or-append found ((slice_index_or found n.parent [] ++ n.step ∷ []) ∷ []) [] i lt

-- the path of a node is that of its parent and its step
folded-step :
    (found : List (List ℕ)) (ns : List Node) (k : ℕ) (d : Node) → k < length ns → (get_or ns k d).parent < length found + k →
    get_or (fold with_path found ns) (length found + k) [] ≡ get_or (fold with_path found ns) (get_or ns k d).parent [] ++ (get_or ns k d).step ∷ []
folded-step found [] k d lt low = absurd (omega (arith, lt))
folded-step found (n ∷ ns) zero d lt low =
    let l = with_path-length found n in
    let here : length found + 0 ≡ length found = omega arith in
    let below : n.parent < length found = omega (arith, low) in
    let path = get_or found n.parent [] ++ n.step ∷ [] in
    let own = folded-stays (with_path found n) ns (length found) (omega (arith, l)) ∙ get_or-append_seam found path [] [] in
    let from = folded-stays found (n ∷ ns) n.parent below in
    ap (λ i. get_or (fold with_path found (n ∷ ns)) i []) here ∙ own ∙ sym (ap (λ (xs : List ℕ). xs ++ n.step ∷ []) from)
folded-step found (n ∷ ns) (suc k) d lt low =
    let l = with_path-length found n in
    let there : length found + suc k ≡ length (with_path found n) + k = omega (arith, l) in
    let more = folded-step (with_path found n) ns k d (grind (arith, common_steps, lt)) (omega (arith, l, low)) in
    ap (λ i. get_or (fold with_path found (n ∷ ns)) i []) there ∙ more

pub path-first : (ns : List Node) → path_at ns 0 ≡ []
unfolding paths
path-first ns = folded-stays ([] ∷ []) ns 0 (omega arith)

pub path-step : (ns : List Node) (k : ℕ) (d : Node) → AreAfter ns → k < length ns → path_at ns (k + 1) ≡ path_at ns (slice_index_or ns k d).parent ++ (slice_index_or ns k d).step ∷ []
unfolding paths
path-step ns k d following lt =
    let low = following.earlier k d lt in
    let more = folded-step ([] ∷ []) ns k d lt (omega (arith, low)) in
    let here : k + 1 ≡ 1 + k = omega arith in
    ap (λ i. get_or (fold with_path ([] ∷ []) ns) i []) here ∙ more

-- ---- where it leads

abbrev pub nobody : Node
nobody = record { parent = 0; step = 0 }

module _ {P : Type 0} (after : P → ℕ → Option P) (q : P) where
  pub tree-following : (ns : List Node) → IsTree after q ns → AreAfter ns
  tree-following ns tree = record { earlier = λ k d lt. (tree.grows k d lt).earlier }

  -- a run goes on by the steps of another
  goes_on : (xs ys : List ℕ) (p : P) (o : Option P) → run after q xs ≡ Some p → run after p ys ≡ o → run after q (xs ++ ys) ≡ o
  goes_on xs ys p o first then = run-append after q xs ys ∙ ap (option_and_then (λ r. run after r ys)) first ∙ then

  one_step : (p r : P) (s : ℕ) → after p s ≡ Some r → run after p (s ∷ []) ≡ Some r
  one_step p r s e = ap (option_and_then (λ x. run after x [])) e

  -- the steps to a place lead there, and are as many as it is deep
  path_below :
      (ns : List Node) (n i : ℕ) → IsTree after q ns → i ≤ n → i ≤ length ns →
      (run after q (path_at ns i) ≡ Some (found_at after q ns i).place) × (length (path_at ns i) ≡ (found_at after q ns i).depth)
  path_below ns n zero tree le low =
      let first = path-first ns in
      let at = found-root after q ns in
      rw first (rw at (refl, refl))
  path_below ns zero (suc k) tree le low = absurd (omega (arith, le))
  path_below ns (suc n) (suc k) tree le low =
      let lt : k < length ns = omega (arith, low) in
      let node = slice_index_or ns k nobody in
      let grows = tree.grows k nobody lt in
      let early = grows.earlier in
      let before = path_below ns n node.parent tree (omega (arith, early, le)) (omega (arith, early, lt)) in
      let path = path-step ns k nobody (tree-following ns tree) lt in
      let same : suc k ≡ k + 1 = omega arith in
      let leads = goes_on (path_at ns node.parent) (node.step ∷ []) (found_at after q ns node.parent).place _ before.0 (one_step _ _ node.step grows.step) in
      let deeper = grows.deeper in
      let long : length (path_at ns node.parent ++ node.step ∷ []) ≡ length (path_at ns node.parent) + 1 = grind (arith, common_steps) in
      let count = before.1 in
      rw same (rw path (leads, omega (arith, long, deeper, count)))

  pub path_leads : (ns : List Node) (i : ℕ) → IsTree after q ns → i ≤ length ns → run after q (path_at ns i) ≡ Some (found_at after q ns i).place
  path_leads ns i tree low = (path_below ns i i tree (omega arith) low).0

  pub path_long : (ns : List Node) (i : ℕ) → IsTree after q ns → i ≤ length ns → length (path_at ns i) ≡ (found_at after q ns i).depth
  path_long ns i tree low = (path_below ns i i tree (omega arith) low).1

  -- the steps to a place and one more lead where that step does
  pub run_over : (ns : List Node) (i s : ℕ) (r : P) → IsTree after q ns → i ≤ length ns → after (found_at after q ns i).place s ≡ Some r →
      (run after q (path_at ns i ++ s ∷ []) ≡ Some r) × (length (path_at ns i ++ s ∷ []) ≡ (found_at after q ns i).depth + 1)
  run_over ns i s r tree low goes =
      let count = path_long ns i tree low in
      let long : length (path_at ns i ++ s ∷ []) ≡ length (path_at ns i) + 1 = grind (arith, common_steps) in
      (goes_on (path_at ns i) (s ∷ []) _ _ (path_leads ns i tree low) (one_step _ r s goes), omega (arith, long, count))

-- the steps back to the place before one, where the way on is known from that one
pub walk_back :
    (ns : List Node) (place : ℕ) (d : Node) (back more all : List ℕ) → AreAfter ns → 0 < place → place ≤ length ns → more ≡ back ++ (slice_index_or ns (place - 1) d).step ∷ [] →
    path_at ns place ++ reverse back ≡ all →
    ((slice_index_or ns (place - 1) d).parent ≤ length ns) × (path_at ns (slice_index_or ns (place - 1) d).parent ++ reverse more ≡ all)
walk_back ns place d back more all following some low is way =
    let k = place - 1 in
    let node = slice_index_or ns k d in
    let lt : k < length ns = omega (arith, some, low) in
    let here : place ≡ k + 1 = omega (arith, some) in
    let early = following.earlier k d lt in
    let path = ap (path_at ns) here ∙ path-step ns k d following lt in
    let turned : reverse more ≡ node.step ∷ reverse back = ap reverse is ∙ reverse-append back (node.step ∷ []) in
    let joined : path_at ns node.parent ++ (node.step ∷ reverse back) ≡ (path_at ns node.parent ++ node.step ∷ []) ++ reverse back = sym (append_assoc (path_at ns node.parent) (node.step ∷ []) (reverse back)) in (
      omega (arith, early, lt),
      ap (λ (xs : List ℕ). path_at ns node.parent ++ xs) turned ∙ joined ∙ ap (λ (xs : List ℕ). xs ++ reverse back) (sym path) ∙ way,
    )
