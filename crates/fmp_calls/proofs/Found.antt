-- What is found in a list.
use Rattle.std.proofs.Common.{◌≡◌, inl, inr, Bool, true, List, [], ◌∷◌, Some, sym, ap, ◌∙◌, find}
use Rattle.std.proofs.lemmas.Bool.{cases_Bool}

-- what is found passes the test
pub found_passes : {X : Type 0} (p : X → Bool) (xs : List X) (x : X) → find p xs ≡ Some x → p x ≡ true
found_passes p [] x e = absurd cc
found_passes p (y ∷ ys) x e =
    elim (cases_Bool (p y)) [
      | inl t ↦ let e2 = rw t at e in let same : y ≡ x = cc in ap p (sym same) ∙ t
      | inr f ↦ found_passes p ys x (rw f at e)
    ]
