-- Keys of places with how many choices were made before.
use Rattle.std.proofs.Common.{◌≡◌, ◌∙◌, ℕ, ◌-◌, ◌≤◌, Some, List, ◌∷◌, drop, length, refl, ap, sym, subst, arith}
use Rattle.std.specs.Prelude.{slice_get}
use Rattle.std.proofs.lemmas.List.{length-drop}
use Rattle.std.proofs.lemmas.Option.{same_Some}
use Rattle.fmp_interned.specs.Keys.{AreKeptBy, IsKeyOf}
use Rattle.fmp_interned.specs.Values.{AreDistinct, IsBeginning}
use Rattle.fmp_interned.proofs.Numbers.{number_stays}
use Rattle.fmp_search.specs.declared.guided.Choice.{Choice}
use Rattle.fmp_search.specs.Guides.{Guide, guide}
use Rattle.fmp_search.specs.GuidedKeys.{words_of, IsGuidedKey}
use Rattle.fmp_search.proofs.InHalves.{halves_same}

-- where as many have to be chosen still, as many were chosen
made_same : (m n : ℕ) (cs : List Choice) → m ≤ length cs → n ≤ length cs → drop m cs ≡ drop n cs → m ≡ n
made_same m n cs few few' left =
    let one : length (drop m cs) ≡ length cs - m = length-drop m cs in
    let other : length (drop n cs) ≡ length cs - n = length-drop n cs in
    let both = ap (λ (xs : List Choice). length xs) left in
    omega (arith, one, other, both, few, few')

first_same : (a b : ℕ) (xs ys : List ℕ) → a ∷ xs ≡ b ∷ ys → a ≡ b
first_same a b xs ys is = cc

rest_same : (a b : ℕ) (xs ys : List ℕ) → a ∷ xs ≡ b ∷ ys → xs ≡ ys
rest_same a b xs ys is = cc

words_same : (k m j n : ℕ) → words_of k m ≡ words_of j n → (k ≡ j) × (m ≡ n)
words_same k m j n is =
    let one = rest_same _ _ _ _ is in
    let two = rest_same _ _ _ _ one in
    let three = rest_same _ _ _ _ two in
    (halves_same k j (first_same _ _ _ _ is) (first_same _ _ _ _ one), halves_same m n (first_same _ _ _ _ two) (first_same _ _ _ _ three))

pub guide_same : {P : Type 0} (p r : Guide P) → p.place ≡ r.place → p.choices ≡ r.choices → p ≡ r
guide_same {P} p r place choices = ap (λ (x : P). guide p.choices x) place ∙ ap (λ (xs : List Choice). guide xs r.place) choices

module _ {P : Type 0} (cs : List Choice) where
  -- the number of the halves of a key and of how many choices were made
  pub guided_key : (IsKey : ℕ → P → Type 0) (kept : List (List ℕ)) (r : P) (key made number : ℕ) (words : List ℕ) → AreDistinct kept → IsKeyOf IsKey r key → made ≤ length cs → words ≡ words_of key made →
      slice_get kept number ≡ Some words → IsKeyOf (λ k p. IsGuidedKey IsKey cs kept k p) (record { place = r; choices = drop made cs }) number
  guided_key IsKey kept r key made number words distinct of few is there =
      let here : slice_get kept number ≡ Some (words_of key made) = there ∙ ap Some is in record {
        there = record { key = key; made = made; is = here; there = of.there; within = few; left = refl };
        one = λ k g.
            let same = of.one g.key g.there in
            let as_many = made_same g.made made cs g.within few (sym g.left) in
            distinct k number (words_of key made) (subst (λ n. slice_get kept k ≡ Some (words_of key n)) as_many (subst (λ j. slice_get kept k ≡ Some (words_of j g.made)) same g.is)) here;
        only = λ p g.
            let same = words_same g.key g.made key made (same_Some _ _ (sym g.is ∙ here)) in
            guide_same p (record { place = r; choices = drop made cs }) (of.only p.place (subst (λ k. IsKey k p.place) same.0 g.there)) (g.left ∙ ap (λ n. drop n cs) same.1);
      }

  pub guided_kept : (old new : ℕ → P → Type 0) (kept more : List (List ℕ)) → AreKeptBy old new → IsBeginning kept more → AreKeptBy (λ k p. IsGuidedKey old cs kept k p) (λ k p. IsGuidedKey new cs more k p)
  guided_kept old new kept more inner begins k p g = record {
    key = g.key;
    made = g.made;
    is = number_stays kept more k (words_of g.key g.made) begins g.is;
    there = inner g.key p.place g.there;
    within = g.within;
    left = g.left;
  }
