-- The first of a list that grows by insertion.
use Rattle.std.proofs.Common.{◌≡◌, ℕ, suc, ◌+◌, Bool, true, false, Some, List, [], ◌∷◌, if◌then◌else◌, refl, arith}
use Rattle.fmp_codes.specs.Numbers.{as_task}
use Rattle.fmp_codes.specs.declared.numbers.Task.{Task}
use Rattle.fmp_rules.specs.World.{first}
use Rattle.fmp_rules.specs.Arrivals.{inserted, inserted_if, in_order}
use Rattle.fmp_plain_machine.specs.Better.{better}

by_test : (b : Bool) (t u : Task) (us vs : List Task) → first (if b then t ∷ us else u ∷ vs) ≡ (if b then Some t else Some u)
by_test true t u us vs = refl
by_test false t u us vs = refl

pub first_inserted : (before : Task → Task → Bool) (t : Task) (us : List Task) → first (inserted before t us) ≡ better before t (first us)
first_inserted before t [] = refl
first_inserted before t (u ∷ us) = by_test (before t u) t u (u ∷ us) (inserted before t us)

pub first_inserted_if : (b : Bool) (before : Task → Task → Bool) (t : Task) (us : List Task) →
    first (inserted_if b before t us) ≡ (if b then better before t (first us) else first us)
first_inserted_if true before t us = first_inserted before t us
first_inserted_if false before t us = refl

-- one more task is the first if it qualifies and comes before the first so far
pub first_in_order : (qualifies : Task → Bool) (before : Task → Task → Bool) (n : ℕ) →
    first (in_order qualifies before (n + 1))
    ≡ (if qualifies (as_task (n + 1)) then better before (as_task (n + 1)) (first (in_order qualifies before n)) else first (in_order qualifies before n))
first_in_order qualifies before n =
    let e : n + 1 ≡ suc n = omega arith in
    rw e (first_inserted_if (qualifies (as_task (suc n))) before (as_task (suc n)) (in_order qualifies before n))
