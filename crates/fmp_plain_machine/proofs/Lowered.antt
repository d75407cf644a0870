-- Counts of ticks that fall one after the other.
use Rattle.std.proofs.Common.{◌≡◌, ℕ, zero, suc, ◌+◌, ◌<◌, Bool, true, false, List, [], ◌∷◌, Option, None, length, take, get_or, set, refl, ap, arith, add-one, if◌then◌else◌}
use Rattle.fmp_rules.specs.Tick.{lowered, one_less}

-- the count of an item that does not qualify stays
stays : {X : Type 0} (falls : X → Bool) (xs : List X) (counts : List (Option ℕ)) (i : ℕ) (d : X) → falls (get_or xs i d) ≡ false →
    lowered falls (take (suc i) xs) counts ≡ lowered falls (take i xs) counts
stays falls [] counts zero d e = refl
stays falls [] counts (suc i) d e = refl
stays falls (x ∷ xs) [] zero d e = refl
stays falls (x ∷ xs) [] (suc i) d e = refl
stays falls (x ∷ xs) (n ∷ ns) zero d e = ap (λ b. (if b then one_less n else n) ∷ ns) e
stays falls (x ∷ xs) (n ∷ ns) (suc i) d e = ap (λ ms. (if falls x then one_less n else n) ∷ ms) (stays falls xs ns i d e)

-- the count of an item that qualifies falls
goes : {X : Type 0} (falls : X → Bool) (xs : List X) (counts : List (Option ℕ)) (i : ℕ) (d : X) → i < length xs → falls (get_or xs i d) ≡ true →
    lowered falls (take (suc i) xs) counts ≡ set (lowered falls (take i xs) counts) i (one_less (get_or (lowered falls (take i xs) counts) i None))
goes falls [] counts i d h e = absurd (omega arith)
goes falls (x ∷ xs) [] zero d h e = refl
goes falls (x ∷ xs) [] (suc i) d h e = refl
goes falls (x ∷ xs) (n ∷ ns) zero d h e = ap (λ b. (if b then one_less n else n) ∷ ns) e
goes falls (x ∷ xs) (n ∷ ns) (suc i) d h e = ap (λ ms. (if falls x then one_less n else n) ∷ ms) (goes falls xs ns i d (omega arith) e)

pub one_stays : {X : Type 0} (falls : X → Bool) (xs : List X) (counts : List (Option ℕ)) (i : ℕ) (d : X) → falls (get_or xs i d) ≡ false →
    lowered falls (take (i + 1) xs) counts ≡ lowered falls (take i xs) counts
one_stays falls xs counts i d e = rw add-one (stays falls xs counts i d e)

pub one_falls : {X : Type 0} (falls : X → Bool) (xs : List X) (counts : List (Option ℕ)) (i : ℕ) (d : X) → i < length xs → falls (get_or xs i d) ≡ true →
    lowered falls (take (i + 1) xs) counts ≡ set (lowered falls (take i xs) counts) i (one_less (get_or (lowered falls (take i xs) counts) i None))
one_falls falls xs counts i d h e = rw add-one (goes falls xs counts i d h e)
