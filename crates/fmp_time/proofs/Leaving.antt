-- What was taken out is nowhere, and taking out what is nowhere changes nothing.
use Rattle.std.proofs.Common.{◌≡◌, ℕ, zero, suc, ◌+◌, ◌≤◌, Bool, true, false, cond, Some, List, [], ◌∷◌, nat_eq, refl, sym, ap, ◌∙◌, arith, ⊎_elim}
use Rattle.std.proofs.lemmas.Bool.{cases_eq, eq-eqb, ne_eqb}
use Rattle.fmp_kernel_parts.proofs.Having.{or_left, or_right}
use Rattle.fmp_time.specs.Differences.{Entry, entries_at, has_entry, without, take_out, ticks_in, entries_from, sum_of}

gone_from : (k : ℕ) (es : List Entry) → has_entry k (without k es) ≡ false
gone_from k [] = refl
gone_from k (e ∷ es) =
    ⊎_elim (λ (f : k ≡ e.0). rw (eq-eqb e.0 k (sym f)) (gone_from k es))
    (λ (f : k ≡ e.0 → ⊥). rw (ne_eqb e.0 k (λ g. f (sym g)), ne_eqb k e.0 f) (gone_from k es)) (cases_eq k e.0)

pub gone : (q : List (List Entry)) (k i : ℕ) → has_entry k (entries_at (take_out q k) i) ≡ false
gone [] k i = refl
gone (x ∷ q) k zero = gone_from k x
gone (x ∷ q) k (suc i) = gone q k i

stays_in : (k : ℕ) (es : List Entry) → has_entry k es ≡ false → without k es ≡ es
stays_in k [] h = refl
stays_in k (e ∷ es) h =
    let out : e.0 ≡ k → ⊥ = λ f. let yes : nat_eq k e.0 ≡ true = eq-eqb k e.0 (sym f) in let bad = or_left (nat_eq k e.0) (has_entry k es) h in cc in
    rw (ne_eqb e.0 k out) (ap (λ (r : List Entry). e ∷ r) (stays_in k es (or_right (nat_eq k e.0) (has_entry k es) h)))

pub stays : (q : List (List Entry)) (k : ℕ) → ((i : ℕ) → has_entry k (entries_at q i) ≡ false) → take_out q k ≡ q
stays [] k h = refl
stays (x ∷ q) k h = rw (stays_in k x (h 0)) (ap (λ (r : List (List Entry)). x ∷ r) (stays q k (λ i. h (suc i))))

-- ticks left are between those before and the sum
pub ticks_from : (d : ℕ → ℕ) (s : ℕ) (xs : List ℕ) (k r : ℕ) → ticks_in (entries_from d s xs) k ≡ Some r → (s ≤ r) × (r ≤ s + sum_of d xs)
ticks_from d s [] k r e = cc
ticks_from d s (x ∷ xs) k r e =
    ⊎_elim (λ (f : x ≡ k).
    let same : Some (s + d x) ≡ Some r = sym (ap (λ (c : Bool). cond c (Some (s + d x)) (ticks_in (entries_from d (s + d x) xs) k)) (eq-eqb x k f)) ∙ e in
    let at : s + d x ≡ r = cc in (omega (arith, at), omega (arith, at)))
    (λ (f : x ≡ k → ⊥).
    let on = ticks_from d (s + d x) xs k r (sym (ap (λ (c : Bool). cond c (Some (s + d x)) (ticks_in (entries_from d (s + d x) xs) k)) (ne_eqb x k f)) ∙ e) in
    (omega (arith, on.0), omega (arith, on.1)))
    (cases_eq x k)
