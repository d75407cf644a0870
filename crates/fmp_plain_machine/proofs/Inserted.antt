-- Lists in order, which grow by insertion.
use Rattle.std.proofs.Common.{◌≡◌, ℕ, suc, ◌+◌, Bool, true, false, List, if◌then◌else◌, refl, arith}
use Rattle.fmp_codes.specs.Numbers.{as_task}
use Rattle.fmp_codes.specs.declared.numbers.Task.{Task}
use Rattle.fmp_rules.specs.Arrivals.{inserted, inserted_if, in_order}

by_test : (b : Bool) (before : Task → Task → Bool) (t : Task) (us : List Task) → inserted_if b before t us ≡ (if b then inserted before t us else us)
by_test true before t us = refl
by_test false before t us = refl

-- one more task is inserted if it qualifies
pub one_more : (qualifies : Task → Bool) (before : Task → Task → Bool) (n : ℕ) →
    in_order qualifies before (n + 1)
    ≡ (if qualifies (as_task (n + 1)) then inserted before (as_task (n + 1)) (in_order qualifies before n) else in_order qualifies before n)
one_more qualifies before n =
    let e : n + 1 ≡ suc n = omega arith in
    rw e (by_test (qualifies (as_task (suc n))) before (as_task (suc n)) (in_order qualifies before n))
