-- What the walk along a list reads.
use Rattle.std.proofs.Common.{◌≡◌, ℕ, ◌+◌, Bool, true, false, cond, Some, None, List, [], ◌∷◌, drop, refl, sym, ap, ◌∙◌, arith}
use Rattle.std.proofs.lemmas.Bool.{eq-eqb, ne_eqb}
use Rattle.fmp_kernel_parts.specs.Lists.{has, first_of}
use Rattle.fmp_kernel_parts.proofs.Having.{has_after}
use Rattle.fmp_kernel_parts.proofs.Walking.{left_over, nothing_left}
use Rattle.fmp_time.specs.Differences.{ticks_in, least_of, entries_from, sum_of}

pub least_some : (d : ℕ → ℕ) (xs : List ℕ) (x : ℕ) → first_of xs ≡ Some x → least_of (entries_from d 0 xs) ≡ Some (d x)
least_some d [] x e = cc
least_some d (y ∷ ys) x e = let same : y ≡ x = cc in ap Some (let zero : 0 + d y ≡ d y = omega arith in zero ∙ ap d same)

pub least_none : (d : ℕ → ℕ) (xs : List ℕ) → first_of xs ≡ None → least_of (entries_from d 0 xs) ≡ None
least_none d [] e = refl
least_none d (y ∷ ys) e = cc

-- the item is met
pub ticks_here : (d : ℕ → ℕ) (s : ℕ) (xs : List ℕ) (k x t : ℕ) → first_of (drop k xs) ≡ Some x → x ≡ t → ticks_in (entries_from d s (drop k xs)) t ≡ Some (s + d x)
ticks_here d s xs k x t e f = ap (λ (ys : List ℕ). ticks_in (entries_from d s ys) t) (left_over xs k x e) ∙ ap (λ (c : Bool). cond c (Some (s + d x)) (ticks_in (entries_from d (s + d x) (drop (k + 1) xs)) t)) (eq-eqb x t f)

-- another one is met
pub ticks_on : (d : ℕ → ℕ) (s : ℕ) (xs : List ℕ) (k x t : ℕ) → first_of (drop k xs) ≡ Some x → (x ≡ t → ⊥) → ticks_in (entries_from d s (drop k xs)) t ≡ ticks_in (entries_from d (s + d x) (drop (k + 1) xs)) t
ticks_on d s xs k x t e f = ap (λ (ys : List ℕ). ticks_in (entries_from d s ys) t) (left_over xs k x e) ∙ ap (λ (c : Bool). cond c (Some (s + d x)) (ticks_in (entries_from d (s + d x) (drop (k + 1) xs)) t)) (ne_eqb x t f)

pub there_on : (xs : List ℕ) (k x t : ℕ) → first_of (drop k xs) ≡ Some x → (x ≡ t → ⊥) → has t (drop k xs) ≡ true → has t (drop (k + 1) xs) ≡ true
there_on xs k x t e f h = has_after t x (drop (k + 1) xs) (λ (g : t ≡ x). f (sym g)) (sym (ap (has t) (left_over xs k x e)) ∙ h)

pub sum_on : (d : ℕ → ℕ) (xs : List ℕ) (k x : ℕ) → first_of (drop k xs) ≡ Some x → sum_of d (drop k xs) ≡ d x + sum_of d (drop (k + 1) xs)
sum_on d xs k x e = ap (sum_of d) (left_over xs k x e)

pub there_end : (xs : List ℕ) (k t : ℕ) → first_of (drop k xs) ≡ None → has t (drop k xs) ≡ true → ⊥
there_end xs k t e h = let bad : false ≡ true = sym (ap (has t) (nothing_left xs k e)) ∙ h in cc
