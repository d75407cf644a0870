-- Lists of which one item after the other is changed.
use Rattle.std.proofs.Common.{◌≡◌, ℕ, zero, suc, ◌+◌, ◌<◌, List, [], ◌∷◌, ◌++◌, length, map, take, drop, get_or, set, refl, ap, arith, add-one}

changed : {X : Type 0} (f : X → X) (xs : List X) (i : ℕ) (d : X) → i < length xs →
    set (map f (take i xs) ++ drop i xs) i (f (get_or (map f (take i xs) ++ drop i xs) i d)) ≡ map f (take (suc i) xs) ++ drop (suc i) xs
changed f [] i d h = absurd (omega arith)
changed f (x ∷ xs) zero d h = refl
changed f (x ∷ xs) (suc i) d h = ap (λ ys. f x ∷ ys) (changed f xs i d (omega arith))

-- the items up to the one of an index are changed, and then that one
pub one_changed : {X : Type 0} (f : X → X) (xs : List X) (i : ℕ) (d : X) → i < length xs →
    set (map f (take i xs) ++ drop i xs) i (f (get_or (map f (take i xs) ++ drop i xs) i d)) ≡ map f (take (i + 1) xs) ++ drop (i + 1) xs
one_changed f xs i d h = rw add-one (changed f xs i d h)
