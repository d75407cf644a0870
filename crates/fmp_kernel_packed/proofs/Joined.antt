-- Lists one after the other, told apart by their lengths.
use Rattle.std.proofs.Common.{◌≡◌, ◌∙◌, ℕ, List, [], ◌∷◌, ◌++◌, length, refl, ap, sym, subst, arith}
use Rattle.std.proofs.lemmas.Grind.{common_steps}
use Rattle.std.proofs.lemmas.Slice.Zip.{AllZip-long}
use Rattle.std.specs.Prelude.{Some, slice_get}
use Rattle.fmp_interned.specs.Parts.{AreNumbersOf}
use Rattle.fmp_interned.proofs.Parts.{same_values}

same_items : {X : Type 0} → (x y : X) (xs ys : List X) → x ∷ xs ≡ y ∷ ys → (x ≡ y) × (xs ≡ ys)
same_items x y xs ys is = (cc, cc)

-- the same list in two parts, the first of the same length, is the same two parts
pub same_parts : {X : Type 0} → (xs ys us vs : List X) → length xs ≡ length ys → xs ++ us ≡ ys ++ vs → (xs ≡ ys) × (us ≡ vs)
same_parts [] [] us vs long is = (refl, is)
same_parts [] (y ∷ ys) us vs long is = absurd (grind (arith, common_steps, long))
same_parts (x ∷ xs) [] us vs long is = absurd (grind (arith, common_steps, long))
same_parts (x ∷ xs) (y ∷ ys) us vs long is =
    let first = same_items x y (xs ++ us) (ys ++ vs) is in
    let rest = same_parts xs ys us vs (grind (arith, common_steps, long)) first.1 in
    (ap (λ z. z ∷ xs) first.0 ∙ ap (λ zs. y ∷ zs) rest.0, rest.1)

module _ {V : Type 0} (kept : List V) where
  -- there are as many numbers as values
  pub as_many : (ns : List ℕ) (vs : List V) → AreNumbersOf kept ns vs → length ns ≡ length vs
  as_many ns vs are = sym (AllZip-long (λ n v. slice_get kept n ≡ Some v) ns vs are)

  -- the same numbers are those of the same values
  pub same_kept : (ns ms : List ℕ) (vs ws : List V) → ns ≡ ms → AreNumbersOf kept ns vs → AreNumbersOf kept ms ws → vs ≡ ws
  same_kept ns ms vs ws same one other = same_values kept ms vs ws (subst (λ (ks : List ℕ). AreNumbersOf kept ks vs) same one) other

  -- where the same list begins with the numbers of as many values, these are the same
  pub same_begun : (ns ms : List ℕ) (vs ws : List V) (rest others : List ℕ) → length vs ≡ length ws → AreNumbersOf kept ns vs → AreNumbersOf kept ms ws →
      ns ++ rest ≡ ms ++ others → (vs ≡ ws) × (rest ≡ others)
  same_begun ns ms vs ws rest others long one other is =
      let parts = same_parts ns ms rest others (as_many ns vs one ∙ long ∙ sym (as_many ms ws other)) is in
      (same_kept ns ms vs ws parts.0 one other, parts.1)

  -- a list that begins with the numbers of values begins with as many others only where they are the same
  pub first_part : (ns ms : List ℕ) (vs : List V) (rest others : List ℕ) → length ms ≡ length vs → AreNumbersOf kept ns vs → ns ++ rest ≡ ms ++ others →
      AreNumbersOf kept ms vs × (rest ≡ others)
  first_part ns ms vs rest others long are is =
      let parts = same_parts ns ms rest others (as_many ns vs are ∙ sym long) is in
      (subst (λ (ks : List ℕ). AreNumbersOf kept ks vs) parts.0 are, parts.1)
