-- What comes first on each processor, by numbers.
use Rattle.std.proofs.Common.{◌≡◌, ℕ, zero, suc, ◌≤◌, Option, None, List, [], ◌∷◌, map, refl, ap, arith, get_or, set}
use Rattle.std.specs.Prelude.{replicate, slice_index}
use Rattle.fmp_codes.specs.declared.numbers.Task.{Task}
use Rattle.fmp_step_words.specs.Numbered.{numbered}

pub number_at : (xs : List ℕ) (i : ℕ) → numbered (get_or xs i 0) ≡ get_or (map numbered xs) i None
number_at [] i = refl
number_at (x ∷ xs) zero = refl
number_at (x ∷ xs) (suc i) = number_at xs i

pub number_set : (xs : List ℕ) (i n : ℕ) (o : Option Task) → numbered n ≡ o → map numbered (set xs i n) ≡ set (map numbered xs) i o
number_set [] i n o is = refl
number_set (x ∷ xs) zero n o is = ap (λ (y : Option Task). y ∷ map numbered xs) is
number_set (x ∷ xs) (suc i) n o is = ap (λ (ys : List (Option Task)). numbered x ∷ ys) (number_set xs i n o is)

pub small_set : (xs : List ℕ) (i n k : ℕ) → n ≤ 64 → ((j : ℕ) → slice_index xs j ≤ 64) → slice_index (set xs i n) k ≤ 64
small_set [] i n k few small = small k
small_set (x ∷ xs) zero n zero few small = few
small_set (x ∷ xs) zero n (suc k) few small = small (suc k)
small_set (x ∷ xs) (suc i) n zero few small = small zero
small_set (x ∷ xs) (suc i) n (suc k) few small = small_set xs i n k few (λ j. small (suc j))

pub small_none : (count k : ℕ) → slice_index (replicate count 0) k ≤ 64
small_none zero k = omega arith
small_none (suc count) zero = omega arith
small_none (suc count) (suc k) = small_none count k
