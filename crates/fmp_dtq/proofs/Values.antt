-- The values of a ring, one by one.
use Rattle.std.proofs.Common.{◌≡◌, ℕ, ◌+◌, Some, List, [], ◌∷◌, ◌++◌, take, sym, ap, ◌∙◌}
use Rattle.std.specs.List.{slice_get}
use Rattle.std.proofs.lemmas.List.{take_more}
use Rattle.std.proofs.lemmas.Option.{slice_get_within, get_or_from_slice_get}

-- lists that begin alike, and have the same item after that, begin alike with it
pub one_more : {X : Type 0} (xs ys : List X) (i : ℕ) (x : X) → take i xs ≡ take i ys → slice_get xs i ≡ Some x → slice_get ys i ≡ Some x → take (i + 1) xs ≡ take (i + 1) ys
one_more {X} xs ys i x e f g =
    begins xs f ∙ ap (λ (zs : List X). zs ++ x ∷ []) e ∙ sym (begins ys g)
  where
    begins : (zs : List X) → slice_get zs i ≡ Some x → take (i + 1) zs ≡ take i zs ++ x ∷ []
    begins zs h = take_more zs i x (slice_get_within zs i x h) ∙ ap (λ (z : X). take i zs ++ z ∷ []) (get_or_from_slice_get zs i x x h)
