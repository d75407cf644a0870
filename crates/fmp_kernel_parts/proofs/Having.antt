-- Membership by a test.
use Rattle.std.proofs.Common.{◌≡◌, ℕ, suc, ◌<◌, ◌≤◌, ◌==◌, Bool, true, false, not, ◌||◌, ◌&&◌, cond, List, [], ◌∷◌, ◌++◌, length, nat_eq, refl, sym, ap, ◌∙◌, subst, ⊎_elim}
use Rattle.std.proofs.lemmas.Bool.{cases_eq, eq-eqb, ne_eqb, or_right as or_second}
use Rattle.std.proofs.lemmas.Map.Steps.{length-le_from_distinct_below}
use Rattle.std.specs.List.{IsDistinct, AllByRecursion}
use Rattle.fmp_kernel_parts.specs.Lists.{has, list_at, without, inserted, take_out, AreDistinct}

pub or_left : (a b : Bool) → (a || b) ≡ false → a ≡ false
or_left true b e = e
or_left false b e = refl

pub or_right : (a b : Bool) → (a || b) ≡ false → b ≡ false
or_right true b e = cc
or_right false b e = e

pub has_here : (k : ℕ) (xs : List ℕ) → has k (k ∷ xs) ≡ true
has_here k xs = rw (eq-eqb k k refl) refl

pub has_there : (k x : ℕ) (xs : List ℕ) → has k xs ≡ true → has k (x ∷ xs) ≡ true
has_there k x xs e = or_second (nat_eq k x) (has k xs) e

-- what is there, and is not the first, is after it
pub has_after : (k x : ℕ) (xs : List ℕ) → (k ≡ x → ⊥) → has k (x ∷ xs) ≡ true → has k xs ≡ true
has_after k x xs ne e = sym (ap (λ b. b || has k xs) (ne_eqb k x ne)) ∙ e

pub lacks : (k x : ℕ) (xs : List ℕ) → (k ≡ x → ⊥) → has k xs ≡ false → has k (x ∷ xs) ≡ false
lacks k x xs ne e = rw (ne_eqb k x ne) e

pub lacks_first : (k x : ℕ) (xs : List ℕ) → has k (x ∷ xs) ≡ false → k ≡ x → ⊥
lacks_first k x xs e same =
    let out = or_left (nat_eq k x) (has k xs) e in
    let yes : nat_eq k x ≡ true = eq-eqb k x same in cc

pub lacks_after : (k x : ℕ) (xs : List ℕ) → has k (x ∷ xs) ≡ false → has k xs ≡ false
lacks_after k x xs e = or_right (nat_eq k x) (has k xs) e

pub has_as : (k l : ℕ) (xs : List ℕ) → k ≡ l → has l xs ≡ true → has k xs ≡ true
has_as k l xs e h = subst (λ y. has y xs ≡ true) (sym e) h

pub has_wider : (k z x : ℕ) (xs : List ℕ) → has k (z ∷ xs) ≡ true → has k (z ∷ x ∷ xs) ≡ true
has_wider k z x xs e = elim (nat_eq k z) as (λ (b : Bool). (b || has k xs) ≡ true → (b || (nat_eq k x || has k xs)) ≡ true)
    [ true ↦ λ h. h | false ↦ λ h. has_there k x xs h ] e

pub has_narrower : (b z x : ℕ) (xs : List ℕ) → (b ≡ x → ⊥) → has b (z ∷ x ∷ xs) ≡ true → has b (z ∷ xs) ≡ true
has_narrower b z x xs e h =
    ⊎_elim (λ (f : b ≡ z). subst (λ y. has y (z ∷ xs) ≡ true) (sym f) (has_here z xs))
    (λ (f : b ≡ z → ⊥). has_there b z xs (has_after b x xs e (has_after b z (x ∷ xs) f h))) (cases_eq b z)

-- one is there, the other is not
pub ne : (k l : ℕ) (xs : List ℕ) → has k xs ≡ true → has l xs ≡ false → k ≡ l → ⊥
ne k l xs there out same =
    let too : has l xs ≡ true = subst (λ m. has m xs ≡ true) same there in cc

pub lacks_from : (k : ℕ) (xs : List ℕ) → (has k xs ≡ true → ⊥) → has k xs ≡ false
lacks_from k xs out = by (has k xs) out
  where
    by : (b : Bool) → (b ≡ true → ⊥) → b ≡ false
    by true h = absurd (h refl)
    by false h = refl

pub has_inserted : (u b t : ℕ) (xs : List ℕ) → has u (inserted b t xs) ≡ (nat_eq u t || has u xs)
has_inserted u b t [] = refl
has_inserted u b t (x ∷ xs) =
    let ih = has_inserted u b t xs in
    elim (x == b) as (λ c. has u (cond c (t ∷ x ∷ xs) (x ∷ inserted b t xs)) ≡ (nat_eq u t || (nat_eq u x || has u xs)))
    [ true ↦ refl | false ↦ rw ih (swap (nat_eq u x) (nat_eq u t) (has u xs)) ]
  where
    swap : (a b c : Bool) → (a || (b || c)) ≡ (b || (a || c))
    swap true true c = refl
    swap true false c = refl
    swap false b c = refl

pub has_push : (u t : ℕ) (xs : List ℕ) → has u (xs ++ t ∷ []) ≡ (has u xs || nat_eq u t)
has_push u t [] = elim (nat_eq u t) as (λ b. (b || false) ≡ (false || b)) [ true ↦ refl | false ↦ refl ]
has_push u t (x ∷ xs) = elim (nat_eq u x) as (λ b. (b || has u (xs ++ t ∷ [])) ≡ ((b || has u xs) || nat_eq u t)) [ true ↦ refl | false ↦ has_push u t xs ]

pub distinct-inserted : (b t : ℕ) (xs : List ℕ) → AreDistinct xs → has t xs ≡ false → AreDistinct (inserted b t xs)
distinct-inserted b t [] h out = (refl, tt)
distinct-inserted b t (x ∷ xs) h out =
    elim (x == b) as (λ c. AreDistinct (cond c (t ∷ x ∷ xs) (x ∷ inserted b t xs))) [
      | true ↦ (out, h)
      | false ↦ (has_inserted x b t xs ∙ lacks x t xs (λ e. lacks_first t x xs out (sym e)) h.0, distinct-inserted b t xs h.1 (lacks_after t x xs out))
    ]

pub inserted_last : (b t : ℕ) (xs : List ℕ) → has b xs ≡ false → inserted b t xs ≡ xs ++ t ∷ []
inserted_last b t [] out = refl
inserted_last b t (x ∷ xs) out =
    rw (ne_eqb x b (λ e. lacks_first b x xs out (sym e))) (ap (λ ys. x ∷ ys) (inserted_last b t xs (lacks_after b x xs out)))

pub without_lacking : (t : ℕ) (xs : List ℕ) → has t xs ≡ false → without t xs ≡ xs
without_lacking t [] out = refl
without_lacking t (x ∷ xs) out =
    rw (ne_eqb x t (λ e. lacks_first t x xs out (sym e))) (ap (λ ys. x ∷ ys) (without_lacking t xs (lacks_after t x xs out)))

-- taking out what is nowhere changes nothing
pub take_out-lacking : (q : List (List ℕ)) (t : ℕ) → ((i : ℕ) → has t (list_at q i) ≡ false) → take_out q t ≡ q
take_out-lacking [] t out = refl
take_out-lacking (x ∷ q) t out = rw (without_lacking t x (out 0)) (ap (λ (r : List (List ℕ)). x ∷ r) (take_out-lacking q t (λ i. out (suc i))))

pub has_without : (u t : ℕ) (xs : List ℕ) → has u (without t xs) ≡ (has u xs && not (u == t))
has_without u t [] = refl
has_without u t (x ∷ xs) =
    let ih = has_without u t xs in
    ⊎_elim (λ (e : x ≡ t). rw (eq-eqb x t e) (⊎_elim (λ (f : u ≡ x). rw (eq-eqb u x f, eq-eqb u t (f ∙ e)) (ih ∙ (rw (eq-eqb u t (f ∙ e)) (and_right_false (has u xs)))))
    (λ (f : u ≡ x → ⊥). rw (ne_eqb u x f) ih) (cases_eq u x)))
    (λ (e : x ≡ t → ⊥). rw (ne_eqb x t e) (⊎_elim (λ (f : u ≡ x). rw (eq-eqb u x f, ne_eqb u t (λ (g : u ≡ t). e (sym f ∙ g))) refl)
    (λ (f : u ≡ x → ⊥). rw (ne_eqb u x f) ih) (cases_eq u x)))
    (cases_eq x t)
  where
    and_right_false : (b : Bool) → (b && false) ≡ false
    and_right_false true = refl
    and_right_false false = refl

pub lacks_without : (u t : ℕ) (xs : List ℕ) → has u xs ≡ false → has u (without t xs) ≡ false
lacks_without u t xs out = has_without u t xs ∙ ap (λ b. b && not (u == t)) out

pub distinct-without : (t : ℕ) (xs : List ℕ) → AreDistinct xs → AreDistinct (without t xs)
distinct-without t [] h = tt
distinct-without t (x ∷ xs) h = elim (not (x == t)) as (λ b. AreDistinct (cond b (x ∷ without t xs) (without t xs)))
    [ true ↦ (lacks_without x t xs h.0, distinct-without t xs h.1) | false ↦ distinct-without t xs h.1 ]

is_distinct : (xs : List ℕ) → AreDistinct xs → IsDistinct nat_eq xs
unfolding IsDistinct
is_distinct [] h = tt
is_distinct (x ∷ xs) h = (all x xs h.0, is_distinct xs h.1)
  where
    all : (y : ℕ) (xs : List ℕ) → has y xs ≡ false → AllByRecursion (λ z. nat_eq y z ≡ false) xs
    all y [] out = tt
    all y (x ∷ xs) out = (or_left (nat_eq y x) (has y xs) out, all y xs (or_right (nat_eq y x) (has y xs) out))

-- numbers below n of which none stands twice are at most n
pub few : (xs : List ℕ) (n : ℕ) → AreDistinct xs → ((u : ℕ) → has u xs ≡ true → u < n) → length xs ≤ n
few xs n h below = length-le_from_distinct_below xs n (is_distinct xs h) below
