-- How many places there are where a search used up all room.
use Rattle.std.proofs.Common.{◌≡◌, ℕ, ◌+◌, ◌<◌, ◌≤◌, Option, None, Some, List, [], ◌∷◌, ◌++◌, map, get_or, refl, ap, sym, subst, ◌∙◌, arith, rules}
use Rattle.std.specs.Prelude.{unwrap_or}
use Rattle.std.specs.List.{fold}
use Rattle.std.specs.Option.{option_map}
use Rattle.std.proofs.Math.ListN.{get_or-map}
use Rattle.std.proofs.lemmas.Bool.{cases_lt}
use Rattle.std.proofs.lemmas.List.{map-append}
use Rattle.fmp_search.specs.Answers.{GoesOn, StopsAt, UsedUp}
use Rattle.fmp_search.specs.Trees.{Found, found_at, made_by, places, root, with_node, IsTree}
use Rattle.fmp_search.specs.declared.nodes.Node.{Node}
use Rattle.fmp_search_lines.specs.Held.{Held, next, with_place}
use Rattle.fmp_search_lines.specs.Lasts.{last_at}
use Rattle.fmp_search_lines.specs.Places.{Place, after, origin, HasMorePlaces}
use Rattle.fmp_search_lines.proofs.Held.{to_place}
use Rattle.fmp_search_lines.proofs.Runs.{short_run}
use Rattle.fmp_search_lines.proofs.Sets.{either}

module _ {S : Type 0} (plays : S → ℕ → Option S) (h : Held S) (s : S) where
  abbrev goes : Place S → ℕ → Option (Place S)
  goes = after plays (last_at h.lasts) h.count

  -- a place that was found, with the lines
  abbrev up : Found (Place S) → Found (Held S)
  up f = record { place = with_place h f.place; depth = f.depth }

  stepped : (p : Place S) (o : Option (Place S)) → unwrap_or (option_map (with_place h) o) (with_place h p) ≡ with_place h (unwrap_or o p)
  stepped p None = refl
  stepped p (Some r) = refl

  one_up : (f : Found (Place S)) (n : ℕ) →
      record { place = unwrap_or (next plays (up f).place n) (up f).place; depth = (up f).depth + 1 } ≡
      up (record { place = unwrap_or (goes f.place n) f.place; depth = f.depth + 1 })
  one_up f n = ap (λ (q : Held S). record { place = q; depth = f.depth + 1 }) (stepped f.place (goes f.place n))

  made_up : (found : List (Found (Place S))) (n : Node) →
      made_by (next plays) (with_place h (origin s)) (map up found) n ≡ up (made_by goes (origin s) found n)
  made_up found n =
      let from = get_or-map up found n.parent (root (origin s)) in
      rw from (one_up (get_or found n.parent (root (origin s))) n.step)

  folded_up : (nodes : List Node) (found : List (Found (Place S))) →
      fold (with_node (next plays) (with_place h (origin s))) (map up found) nodes ≡ map up (fold (with_node goes (origin s)) found nodes)
  folded_up [] found = refl
  folded_up (n ∷ ns) found =
      let more : with_node (next plays) (with_place h (origin s)) (map up found) n ≡ map up (with_node goes (origin s) found n) =
      ap (λ (f : Found (Held S)). map up found ++ f ∷ []) (made_up found n) ∙ sym (map-append up found (made_by goes (origin s) found n ∷ [])) in
      rw more (folded_up ns (with_node goes (origin s) found n))

  places_up : (nodes : List Node) → places (next plays) (with_place h (origin s)) nodes ≡ map up (places goes (origin s) nodes)
  unfolding places
  places_up nodes = folded_up nodes (root (origin s) ∷ [])

  -- the places that were found, with the lines, are those where the lines are taken
  found_up : (nodes : List Node) (i : ℕ) → found_at (next plays) (with_place h (origin s)) nodes i ≡ up (found_at goes (origin s) nodes i)
  found_up nodes i = rw (places_up nodes) (get_or-map up (places goes (origin s) nodes) i (root (origin s)))

  some_place : (o : Option (Place S)) (p : Place S) → option_map (with_place h) o ≡ Some (with_place h p) → o ≡ Some p
  some_place None p e = absurd (search rules)
  some_place (Some r) p e =
      let same : with_place h r ≡ with_place h p = search rules in
      ap (λ (x : Held S). Some x.place) same

  tree_down : (nodes : List Node) → IsTree (next plays) (with_place h (origin s)) nodes → IsTree goes (origin s) nodes
  tree_down nodes tree = record {
    grows = λ k d under.
        let node = get_or nodes k d in
        let grows = tree.grows k d under in
        let from = found_up nodes node.parent in
        let to = found_up nodes (k + 1) in
        let step : next plays (up (found_at goes (origin s) nodes node.parent)).place node.step ≡ Some (up (found_at goes (origin s) nodes (k + 1))).place =
        rw (from, to) at grows.step in
        let deeper : (up (found_at goes (origin s) nodes (k + 1))).depth ≡ (up (found_at goes (origin s) nodes node.parent)).depth + 1 =
        rw (from, to) at grows.deeper in
        record { earlier = grows.earlier; step = some_place _ _ step; deeper = deeper };
  }

  same_up : (nodes : List Node) (i : ℕ) (p : Place S) → (found_at goes (origin s) nodes i).place ≡ p →
      (found_at (next plays) (with_place h (origin s)) nodes i).place ≡ with_place h p
  same_up nodes i p e = ap (λ (f : Found (Held S)). f.place) (found_up nodes i) ∙ ap (with_place h) e

  used_down : (n room : ℕ) → UsedUp (next plays) (with_place h (origin s)) n room → UsedUp goes (origin s) n room
  used_down n room used =
      let nodes = used.nodes in
      let more = to_place plays h used.beyond.steps (origin s) used.beyond.place used.beyond.leads in
      record {
        nodes = nodes;
        tree = tree_down nodes used.tree;
        all = used.all;
        near = λ i low. subst (λ (f : Found (Held S)). f.depth ≤ n + 1) (found_up nodes i) (used.near i low);
        distinct = λ i j less low e.
            used.distinct i j less low (same_up nodes i _ e ∙ sym (same_up nodes j _ refl));
        beyond = record {
          steps = used.beyond.steps;
          place = more.0;
          short = used.beyond.short;
          leads = more.1;
          new = λ i low e. used.beyond.new i low (same_up nodes i more.0 e ∙ more.2);
        };
      }

  not_so_far : GoesOn (next plays) (with_place h (origin s)) (h.count + 1) → ⊥
  not_so_far far =
      let more = to_place plays h far.steps (origin s) far.place far.leads in
      let short = short_run plays (last_at h.lasts) h.count s far.steps more.0 more.1 in
      let count = far.count in
      absurd (omega (arith, short, count))

  -- a search of no more steps than lines stops only where all room was used up
  pub is_full : (turns room n : ℕ) → turns ≡ h.count + 1 → StopsAt (next plays) (with_place h (origin s)) turns room n → HasMorePlaces plays (last_at h.lasts) h.count s room
  is_full turns room n long stops = either
      (λ low. (n, subst (λ (t : ℕ). n < t) long low, used_down n room (stops.1 low)))
      (λ high.
      let few = stops.0 in
      let last : n ≡ turns = omega (arith, high, few) in
      absurd (not_so_far (subst (λ (t : ℕ). GoesOn (next plays) (with_place h (origin s)) t) (last ∙ long) (stops.2 last))))
      (cases_lt n turns)
