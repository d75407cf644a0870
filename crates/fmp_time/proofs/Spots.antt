-- The way to the spot, one item at a time.
use Rattle.std.proofs.Common.{◌≡◌, ℕ, ◌+◌, ◌-◌, ◌<◌, ◌≤◌, ◌||◌, Bool, true, false, cond, Some, None, List, [], ◌∷◌, length, drop, set, get_or, refl, sym, ap, ◌∙◌, arith, ⊎_elim}
use Rattle.std.proofs.lemmas.Bool.{cases_eq, eq-eqb, ne_eqb, lt-ltb, le-ltb}
use Rattle.std.proofs.lemmas.List.{get_or-set_same, get_or-set_other}
use Rattle.std.proofs.Math.Bool.{or-false}
use Rattle.fmp_kernel_parts.specs.Lists.{has, first_of}
use Rattle.fmp_kernel_parts.proofs.Walking.{left_over, nothing_left}
use Rattle.fmp_time.specs.Differences.{spot_in, rest_in, first_adding, zeros_of}

pub spot_here : (d : ℕ → ℕ) (r : ℕ) (xs : List ℕ) (k t : ℕ) → first_of (drop k xs) ≡ Some t → r < d t → spot_in d r (drop k xs) ≡ Some t
spot_here d r xs k t e l = ap (spot_in d r) (left_over xs k t e) ∙ ap (λ (c : Bool). cond c (Some t) (spot_in d (r - d t) (drop (k + 1) xs))) (lt-ltb r (d t) l)

pub rest_here : (d : ℕ → ℕ) (r : ℕ) (xs : List ℕ) (k t : ℕ) → first_of (drop k xs) ≡ Some t → r < d t → rest_in d r (drop k xs) ≡ r
rest_here d r xs k t e l = ap (rest_in d r) (left_over xs k t e) ∙ ap (λ (c : Bool). cond c r (rest_in d (r - d t) (drop (k + 1) xs))) (lt-ltb r (d t) l)

pub spot_on : (d : ℕ → ℕ) (r : ℕ) (xs : List ℕ) (k t : ℕ) → first_of (drop k xs) ≡ Some t → d t ≤ r → spot_in d r (drop k xs) ≡ spot_in d (r - d t) (drop (k + 1) xs)
spot_on d r xs k t e l = ap (spot_in d r) (left_over xs k t e) ∙ ap (λ (c : Bool). cond c (Some t) (spot_in d (r - d t) (drop (k + 1) xs))) (le-ltb r (d t) l)

pub rest_on : (d : ℕ → ℕ) (r : ℕ) (xs : List ℕ) (k t : ℕ) → first_of (drop k xs) ≡ Some t → d t ≤ r → rest_in d r (drop k xs) ≡ rest_in d (r - d t) (drop (k + 1) xs)
rest_on d r xs k t e l = ap (rest_in d r) (left_over xs k t e) ∙ ap (λ (c : Bool). cond c r (rest_in d (r - d t) (drop (k + 1) xs))) (le-ltb r (d t) l)

pub spot_end : (d : ℕ → ℕ) (r : ℕ) (xs : List ℕ) (k : ℕ) → first_of (drop k xs) ≡ None → spot_in d r (drop k xs) ≡ None
spot_end d r xs k e = ap (spot_in d r) (nothing_left xs k e)

pub rest_end : (d : ℕ → ℕ) (r : ℕ) (xs : List ℕ) (k : ℕ) → first_of (drop k xs) ≡ None → rest_in d r (drop k xs) ≡ r
rest_end d r xs k e = ap (rest_in d r) (nothing_left xs k e)

-- The way to the first item that adds something.

pub adding_here : (d : ℕ → ℕ) (xs : List ℕ) (k t : ℕ) → first_of (drop k xs) ≡ Some t → 0 < d t → first_adding d (drop k xs) ≡ Some t
adding_here d xs k t e l = ap (first_adding d) (left_over xs k t e) ∙ ap (λ (c : Bool). cond c (first_adding d (drop (k + 1) xs)) (Some t)) (ne_eqb (d t) 0 (λ z. omega (arith, z, l)))

pub adding_on : (d : ℕ → ℕ) (xs : List ℕ) (k t : ℕ) → first_of (drop k xs) ≡ Some t → d t ≡ 0 → first_adding d (drop k xs) ≡ first_adding d (drop (k + 1) xs)
adding_on d xs k t e z = ap (first_adding d) (left_over xs k t e) ∙ ap (λ (c : Bool). cond c (first_adding d (drop (k + 1) xs)) (Some t)) (eq-eqb (d t) 0 z)

pub adding_end : (d : ℕ → ℕ) (xs : List ℕ) (k : ℕ) → first_of (drop k xs) ≡ None → first_adding d (drop k xs) ≡ None
adding_end d xs k e = ap (first_adding d) (nothing_left xs k e)

-- Marks of the items in front that add nothing.

pub zeros_here : (d : ℕ → ℕ) (xs : List ℕ) (i t : ℕ) → first_of (drop i xs) ≡ Some t → d t ≡ 0 → zeros_of d (drop i xs) ≡ t ∷ zeros_of d (drop (i + 1) xs)
zeros_here d xs i t e z = ap (zeros_of d) (left_over xs i t e) ∙ ap (λ (c : Bool). cond c (t ∷ zeros_of d (drop (i + 1) xs)) []) (eq-eqb (d t) 0 z)

-- no more are to be marked
pub no_more : (d : ℕ → ℕ) (xs : List ℕ) (i t k : ℕ) (b : Bool) → first_of (drop i xs) ≡ Some t → 0 < d t → b ≡ (b || has k (zeros_of d (drop i xs)))
no_more d xs i t k b e l = sym (ap (λ (ys : List ℕ). b || has k ys) (ap (zeros_of d) (left_over xs i t e)
    ∙ ap (λ (c : Bool). cond c (t ∷ zeros_of d (drop (i + 1) xs)) []) (ne_eqb (d t) 0 (λ z. omega (arith, z, l)))) ∙ or-false b)

pub zeros_none : (d : ℕ → ℕ) (xs : List ℕ) (i k : ℕ) (b : Bool) → first_of (drop i xs) ≡ None → b ≡ (b || has k (zeros_of d (drop i xs)))
zeros_none d xs i k b e = sym (ap (λ (ys : List ℕ). b || has k (zeros_of d ys)) (nothing_left xs i e) ∙ or-false b)

-- one more is marked
pub mark_one : (d : ℕ → ℕ) (xs : List ℕ) (i t k : ℕ) (marks : List Bool) → length marks ≡ 128 → k < 128 → first_of (drop i xs) ≡ Some t → d t ≡ 0 →
    (get_or (set marks t true) k false || has k (zeros_of d (drop (i + 1) xs))) ≡ (get_or marks k false || has k (zeros_of d (drop i xs)))
mark_one d xs i t k marks count low e z =
    ⊎_elim (λ (f : k ≡ t).
    ap (λ (b : Bool). b || has k (zeros_of d (drop (i + 1) xs))) (ap (λ (j : ℕ). get_or (set marks t true) j false) f ∙ get_or-set_same marks t true false (omega (arith, f, low, count)))
    ∙ sym (ap (λ (ys : List ℕ). get_or marks k false || has k ys) (zeros_here d xs i t e z) ∙ ap (λ (b : Bool). get_or marks k false || (b || has k (zeros_of d (drop (i + 1) xs)))) (eq-eqb k t f)
    ∙ or_true (get_or marks k false)))
    (λ (f : k ≡ t → ⊥).
    ap (λ (b : Bool). b || has k (zeros_of d (drop (i + 1) xs))) (get_or-set_other marks t k true false f)
    ∙ sym (ap (λ (ys : List ℕ). get_or marks k false || has k ys) (zeros_here d xs i t e z) ∙ ap (λ (b : Bool). get_or marks k false || (b || has k (zeros_of d (drop (i + 1) xs)))) (ne_eqb k t f)))
    (cases_eq k t)
  where
    or_true : (b : Bool) → (b || true) ≡ true
    or_true true = refl
    or_true false = refl
