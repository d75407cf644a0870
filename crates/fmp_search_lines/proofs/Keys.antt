-- Keys of places of one who takes lines: each is the key of one place, which has no other.
use Rattle.std.proofs.Common.{◌≡◌, ◌∙◌, ℕ, ◌+◌, ◌*◌, ◌/◌, ◌%◌, ◌^◌, ◌≤◌, List, ◌∷◌, length, take, refl, ap, sym, subst, arith}
use Rattle.std.proofs.lemmas.List.{length-take}
use Rattle.std.proofs.lemmas.Grind.{common_steps}
use Rattle.fmp_interned.specs.Trees.{HasTree, IsTree}
use Rattle.fmp_interned.specs.Values.{AreDistinct, IsBeginning}
use Rattle.fmp_interned.proofs.Trees.{one_tree, tree_list, tree_stays}
use Rattle.fmp_interned.specs.Keys.{AreKeptBy, IsKeyOf}
use Rattle.fmp_search.proofs.InHalves.{halves_same}
use Rattle.fmp_search_lines.specs.Held.{Held, with_place}
use Rattle.fmp_search_lines.specs.Keys.{words_of, HasTaken, IsHeldKey, IsTakenKey}
use Rattle.fmp_search_lines.specs.Places.{Place}

first_same : (a b : ℕ) (xs ys : List ℕ) → a ∷ xs ≡ b ∷ ys → a ≡ b
first_same a b xs ys is = cc

rest_same : (a b : ℕ) (xs ys : List ℕ) → a ∷ xs ≡ b ∷ ys → xs ≡ ys
rest_same a b xs ys is = cc

-- what such numbers tell
words_same : (s t top others : ℕ) (is js : List ℕ) → words_of s top is ≡ words_of t others js → (s ≡ t) × (top ≡ others) × (is ≡ js)
words_same s t top others is js same =
    let one = rest_same _ _ _ _ same in
    let two = rest_same _ _ _ _ one in
    (halves_same s t (first_same _ _ _ _ same) (first_same _ _ _ _ one), first_same _ _ _ _ two, rest_same _ _ _ _ two)

-- so many of as many or more numbers are as many as tell this many pending lines and the rest
pub long_words : (room : List ℕ) (count state top : ℕ) (pending : List ℕ) → length room ≡ 19 → length pending ≤ 16 → count ≡ length pending →
    length (words_of state top pending) ≡ length (take (count + 3) room)
long_words room count state top pending is few same =
    let long = length-take (count + 3) room in
    let words : length (words_of state top pending) ≡ length pending + 3 = grind (arith, common_steps) in
    omega (arith, long, words, is, few, same)

module _ (pairs : List (List ℕ)) where
  -- a key is that of one state and of what is taken once
  pub taken_only : (key s t top others : ℕ) (is js : List ℕ) → IsTakenKey pairs key s top is → IsTakenKey pairs key t others js → (s ≡ t) × (top ≡ others) × (is ≡ js)
  taken_only key s t top others is js one other =
      let as_many : length is ≡ length js = sym one.count ∙ other.count in
      let long : length (words_of s top is) ≡ length (words_of t others js) = grind (arith, common_steps, as_many) in
      words_same s t top others is js (tree_list pairs (words_of s top is) (words_of t others js) (key % 2 ^ 32) long one.tree other.tree)

  taken_one : (k m s top : ℕ) (is : List ℕ) → AreDistinct pairs → IsTakenKey pairs k s top is → IsTakenKey pairs m s top is → k ≡ m
  taken_one k m s top is distinct one other =
      halves_same k m (one.count ∙ sym other.count) (one_tree pairs (words_of s top is) (k % 2 ^ 32) (m % 2 ^ 32) distinct one.tree other.tree)

  taken_stays : (more : List (List ℕ)) (key s top : ℕ) (is : List ℕ) → IsBeginning pairs more → IsTakenKey pairs key s top is → IsTakenKey more key s top is
  taken_stays more key s top is begins one =
      record { few = one.few; count = one.count; tree = tree_stays pairs more (words_of s top is) (key % 2 ^ 32) begins one.tree }

  -- the number of how many lines are pending and of the key of such numbers
  pub taken_key : (key count list s top : ℕ) (is words : List ℕ) → length is ≤ 16 → key / 2 ^ 32 ≡ count → key % 2 ^ 32 ≡ list → count ≡ length is → words ≡ words_of s top is →
      IsTree pairs words list → IsTakenKey pairs key s top is
  taken_key key count list s top is words few upper lower counted told there = record {
    few = few;
    count = upper ∙ counted;
    tree = subst (λ k. IsTree pairs (words_of s top is) k) (sym lower) (subst (λ (xs : List ℕ). IsTree pairs xs list) told there);
  }

  -- such numbers are those of some list
  pub some_words : (room : List ℕ) (key count list : ℕ) → HasTaken pairs key → count ≡ key / 2 ^ 32 → list ≡ key % 2 ^ 32 → length room ≡ 19 →
      HasTree pairs (length (take (count + 3) room)) list
  some_words room key count list has upper lower is = (
    words_of has.state has.top has.pending,
    long_words room count has.state has.top has.pending is has.is.few (upper ∙ has.is.count),
    subst (λ k. IsTree pairs (words_of has.state has.top has.pending) k) (sym lower) has.is.tree,
  )

place_same : {S : Type 0} (p r : Place S) → p.top ≡ r.top → p.pending ≡ r.pending → p.state ≡ r.state → p ≡ r
place_same {S} p r top pending state =
    ap (λ (n : ℕ). record { top = n; pending = p.pending; state = p.state }) top ∙ ap (λ (is : List ℕ). record { top = r.top; pending = is; state = p.state }) pending
    ∙ ap (λ (s : S). record { top = r.top; pending = r.pending; state = s }) state

module _ {S : Type 0} (o : Held S) where
  pub held_key : (IsKey : ℕ → S → Type 0) (pairs : List (List ℕ)) (q : Place S) (state key : ℕ) → AreDistinct pairs → IsKeyOf IsKey q.state state →
      IsTakenKey pairs key state q.top q.pending → IsKeyOf (λ k p. IsHeldKey IsKey pairs o k p) (with_place o q) key
  held_key IsKey pairs q state key distinct of taken = record {
    there = record { state = state; there = of.there; taken = taken; same = refl };
    one = λ k g.
        let same : g.state ≡ state = of.one g.state g.there in
        taken_one pairs k key state q.top q.pending distinct (subst (λ s. IsTakenKey pairs k s q.top q.pending) same g.taken) taken;
    only = λ p g.
        let all = taken_only pairs key g.state state p.place.top q.top p.place.pending q.pending g.taken taken in
        let last = of.only p.place.state (subst (λ k. IsKey k p.place.state) all.0 g.there) in
        g.same ∙ ap (with_place o) (place_same p.place q all.1 all.2 last);
  }

  -- keys stay where others are added
  pub held_kept : (old new : ℕ → S → Type 0) (pairs more : List (List ℕ)) → AreKeptBy old new → IsBeginning pairs more → AreKeptBy (λ k p. IsHeldKey old pairs o k p) (λ k p. IsHeldKey new more o k p)
  held_kept old new pairs more inner begins k p g = record {
    state = g.state;
    there = inner g.state p.place.state g.there;
    taken = taken_stays pairs more k g.state p.place.top p.place.pending begins g.taken;
    same = g.same;
  }

  -- where this was unpacked of a key, and the state of its key, this is the place
  pub held_there : (IsKey : ℕ → S → Type 0) (pairs : List (List ℕ)) (q : Place S) (state key : ℕ) (p : Held S) → IsHeldKey IsKey pairs o key p →
      ((s top : ℕ) (is : List ℕ) → IsTakenKey pairs key s top is → (state ≡ s) × (q.top ≡ top) × (q.pending ≡ is)) → ((s : S) → IsKey state s → q.state ≡ s) → with_place o q ≡ p
  held_there IsKey pairs q state key p g unpacked there =
      let all = unpacked g.state p.place.top p.place.pending g.taken in
      ap (with_place o) (place_same q p.place all.1 all.2 (there p.place.state (subst (λ k. IsKey k p.place.state) (sym all.0) g.there))) ∙ sym g.same
