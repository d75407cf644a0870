-- Where no count is 0, nothing is over.
use Rattle.std.proofs.Common.{◌≡◌, ℕ, zero, suc, Bool, true, false, ◌||◌, List, [], ◌∷◌, Option, None, filter, get_or, set, refl, arith}
use Rattle.std.specs.List.{list_any}
use Rattle.fmp_codes.specs.declared.numbers.Task.{Task}
use Rattle.fmp_rules.specs.Tick.{is_over, tasks_expired, expired}

left_false : (b c : Bool) → (b || c) ≡ false → b ≡ false
left_false true c none = none
left_false false c none = refl

right_false : (b c : Bool) → (b || c) ≡ false → c ≡ false
right_false true c none = absurd (grind (arith, none))
right_false false c none = none

none_at : (counts : List (Option ℕ)) (i : ℕ) → list_any is_over counts ≡ false → is_over (get_or counts i None) ≡ false
none_at [] i none = refl
none_at (n ∷ ns) zero none = left_false (is_over n) (list_any is_over ns) none
none_at (n ∷ ns) (suc i) none = none_at ns i (right_false (is_over n) (list_any is_over ns) none)

filter_none : {X : Type 0} (test : X → Bool) (xs : List X) → ((x : X) → test x ≡ false) → filter test xs ≡ []
filter_none test [] none = refl
filter_none test (x ∷ xs) none = rw (none x) (filter_none test xs none)

pub no_task_over : (counts : List (Option ℕ)) (ts : List Task) → list_any is_over counts ≡ false → tasks_expired counts ts ≡ []
no_task_over counts ts none = filter_none _ ts (λ t. none_at counts _ none)

pub no_object_over : {X : Type 0} (counts : List (Option ℕ)) (xs : List X) → list_any is_over counts ≡ false → expired counts xs ≡ []
no_object_over counts xs none = filter_none _ _ (λ o. none_at counts _ none)

-- a count that is not 0 is put at a place
pub none_set : (counts : List (Option ℕ)) (i : ℕ) (left : Option ℕ) → list_any is_over counts ≡ false → is_over left ≡ false
    → list_any is_over (set counts i left) ≡ false
none_set [] i left none kept = refl
none_set (n ∷ ns) zero left none kept = rw kept (right_false (is_over n) (list_any is_over ns) none)
none_set (n ∷ ns) (suc i) left none kept = rw (left_false (is_over n) (list_any is_over ns) none) (none_set ns i left (right_false (is_over n) (list_any is_over ns) none) kept)
