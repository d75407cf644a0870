-- A walk over a list, from one item to the next.
use Rattle.std.proofs.Common.{◌≡◌, ℕ, zero, suc, ◌+◌, true, Some, None, List, [], ◌∷◌, ◌++◌, take, drop, refl, sym, ap, subst}
use Rattle.std.proofs.Math.Numerals.{suc-eq-add-one}
use Rattle.fmp_kernel_parts.specs.Lists.{has, first_of}
use Rattle.fmp_kernel_parts.proofs.Having.{has_here, has_there}

module _ {X : Type 0} where
  parted : (xs : List X) (k : ℕ) (t : X) → first_of (drop k xs) ≡ Some t → xs ≡ take k xs ++ t ∷ drop (suc k) xs
  parted [] zero t e = cc
  parted [] (suc k) t e = cc
  parted (x ∷ xs) zero t e = let same : x ≡ t = cc in ap (λ (y : X). y ∷ xs) same
  parted (x ∷ xs) (suc k) t e = ap (λ (ys : List X). x ∷ ys) (parted xs k t e)

  prefixed : (xs : List X) (k : ℕ) (t : X) → first_of (drop k xs) ≡ Some t → take (suc k) xs ≡ take k xs ++ t ∷ []
  prefixed [] zero t e = cc
  prefixed [] (suc k) t e = cc
  prefixed (x ∷ xs) zero t e = let same : x ≡ t = cc in ap (λ (y : X). y ∷ []) same
  prefixed (x ∷ xs) (suc k) t e = ap (λ (ys : List X). x ∷ ys) (prefixed xs k t e)

  pub part : (xs : List X) (k : ℕ) (t : X) → first_of (drop k xs) ≡ Some t → xs ≡ take k xs ++ t ∷ drop (k + 1) xs
  part xs k t e = subst (λ (m : ℕ). xs ≡ take k xs ++ t ∷ drop m xs) (suc-eq-add-one k) (parted xs k t e)

  pub prefix : (xs : List X) (k : ℕ) (t : X) → first_of (drop k xs) ≡ Some t → take (k + 1) xs ≡ take k xs ++ t ∷ []
  prefix xs k t e = subst (λ (m : ℕ). take m xs ≡ take k xs ++ t ∷ []) (suc-eq-add-one k) (prefixed xs k t e)

  pub ended : (xs : List X) (k : ℕ) → first_of (drop k xs) ≡ None → take k xs ≡ xs
  ended [] zero e = refl
  ended [] (suc k) e = refl
  ended (x ∷ xs) zero e = cc
  ended (x ∷ xs) (suc k) e = ap (λ (ys : List X). x ∷ ys) (ended xs k e)

  parting : (xs : List X) (k : ℕ) (t : X) → first_of (drop k xs) ≡ Some t → drop k xs ≡ t ∷ drop (suc k) xs
  parting [] zero t e = cc
  parting [] (suc k) t e = cc
  parting (x ∷ xs) zero t e = let same : x ≡ t = cc in ap (λ (y : X). y ∷ xs) same
  parting (x ∷ xs) (suc k) t e = parting xs k t e

  pub left_over : (xs : List X) (k : ℕ) (t : X) → first_of (drop k xs) ≡ Some t → drop k xs ≡ t ∷ drop (k + 1) xs
  left_over xs k t e = subst (λ (m : ℕ). drop k xs ≡ t ∷ drop m xs) (suc-eq-add-one k) (parting xs k t e)

  pub nothing_left : (xs : List X) (k : ℕ) → first_of (drop k xs) ≡ None → drop k xs ≡ []
  nothing_left [] zero e = refl
  nothing_left [] (suc k) e = refl
  nothing_left (x ∷ xs) zero e = cc
  nothing_left (x ∷ xs) (suc k) e = nothing_left xs k e

pub met : (xs : List ℕ) (k t : ℕ) → first_of (drop k xs) ≡ Some t → has t xs ≡ true
met [] zero t e = cc
met [] (suc k) t e = cc
met (x ∷ xs) zero t e = let same : x ≡ t = cc in subst (λ (y : ℕ). has t (y ∷ xs) ≡ true) (sym same) (has_here t xs)
met (x ∷ xs) (suc k) t e = has_there t x xs (met xs k t e)
