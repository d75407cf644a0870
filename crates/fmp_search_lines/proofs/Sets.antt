-- What numbers are among others.
use Rattle.std.proofs.Common.{◌≡◌, ◌⊎◌, ℕ, zero, suc, ◌+◌, ◌<◌, ◌≤◌, ◌==◌, leb, Bool, true, false, ◌&&◌, Some, List, [], ◌∷◌, ◌++◌, length, slice_get, refl}
use Rattle.std.proofs.Common.{ap, sym, subst, ◌∙◌, inl, inr, arith, rules}
use Rattle.std.proofs.lemmas.Bool.{true≢false, false≢true, and_parts, and_from, or_cases, cases_Bool, cases_eq, leb-true, le-leb, eqb-true, eq-eqb, ne_eqb}
use Rattle.fmp_search_lines.specs.Orders.{has, numbers_from, AreApart}
use Rattle.fmp_search_lines.specs.Places.{may_pass, without}

pub either : {A B C : Type 0} → (A → C) → (B → C) → A ⊎ B → C
either f g (inl a) = f a
either f g (inr b) = g b

pub has-nil : (i : ℕ) → has [] i ≡ true → ⊥
unfolding has
has-nil i h = false≢true h

pub has-here : (i : ℕ) (is : List ℕ) → has (i ∷ is) i ≡ true
unfolding has
has-here i is = let e = eq-eqb i i refl in rw e refl

pub has-later : (j i : ℕ) (is : List ℕ) → has is i ≡ true → has (j ∷ is) i ≡ true
unfolding has
has-later j i is h = either (λ e. rw e refl) (λ e. rw e h) (cases_Bool (j == i))

pub has-cases : (j i : ℕ) (is : List ℕ) → has (j ∷ is) i ≡ true → (j ≡ i) ⊎ (has is i ≡ true)
unfolding has
has-cases j i is h = either (λ e. inl (eqb-true j i e)) (λ e. inr e) (or_cases (j == i) (has is i) h)

pub has-append : (xs ys : List ℕ) (i : ℕ) → has (xs ++ ys) i ≡ true → (has xs i ≡ true) ⊎ (has ys i ≡ true)
has-append [] ys i h = inr h
has-append (x ∷ xs) ys i h = either
    (λ e. inl (rw e (has-here i xs)))
    (λ e. either (λ a. inl (has-later x i xs a)) (λ b. inr b) (has-append xs ys i e))
    (has-cases x i (xs ++ ys) h)

pub has-left : (xs ys : List ℕ) (i : ℕ) → has xs i ≡ true → has (xs ++ ys) i ≡ true
unfolding has
has-left [] ys i h = absurd (false≢true h)
has-left (x ∷ xs) ys i h = either (λ e. rw e (has-here i (xs ++ ys))) (λ e. has-later x i (xs ++ ys) (has-left xs ys i e)) (has-cases x i xs h)

pub has-right : (xs ys : List ℕ) (i : ℕ) → has ys i ≡ true → has (xs ++ ys) i ≡ true
has-right [] ys i h = h
has-right (x ∷ xs) ys i h = has-later x i (xs ++ ys) (has-right xs ys i h)

pub has-numbers : (low k i : ℕ) → has (numbers_from low k) i ≡ true → (low ≤ i) × (i < low + k)
unfolding numbers_from
has-numbers low zero i h = absurd (has-nil i h)
has-numbers low (suc k) i h = either
    (λ e. (omega (arith, e), omega (arith, e)))
    (λ e.
    let p = has-numbers (low + 1) k i e in
    let a = p.0 in
    let b = p.1 in
    (omega (arith, a), omega (arith, b)))
    (has-cases low i (numbers_from (low + 1) k) h)

pub numbers-have : (low k i : ℕ) → low ≤ i → i < low + k → has (numbers_from low k) i ≡ true
unfolding numbers_from
numbers-have low zero i h l = absurd (omega (arith, h, l))
numbers-have low (suc k) i h l = either
    (λ e. subst (λ (y : ℕ). has (y ∷ numbers_from (low + 1) k) i ≡ true) (sym e) (has-here i (numbers_from (low + 1) k)))
    (λ e. has-later low i (numbers_from (low + 1) k) (numbers-have (low + 1) k i (omega (arith, h, e)) (omega (arith, l))))
    (cases_eq low i)

pub length-numbers : (low k : ℕ) → length (numbers_from low k) ≡ k
unfolding numbers_from
length-numbers low zero = refl
length-numbers low (suc k) = let e = length-numbers (low + 1) k in omega (arith, e)

pub may_pass-all : (last : ℕ → ℕ) (j : ℕ) (is : List ℕ) → may_pass last j is ≡ true → (i : ℕ) → has is i ≡ true → j ≤ last i
unfolding may_pass
may_pass-all last j [] h i there = absurd (has-nil i there)
may_pass-all last j (x ∷ xs) h i there =
    let p = and_parts (leb j (last x)) (may_pass last j xs) h in
    either (λ e. subst (λ (y : ℕ). j ≤ last y) e (leb-true j (last x) p.0)) (λ e. may_pass-all last j xs p.1 i e) (has-cases x i xs there)

pub all-may_pass : (last : ℕ → ℕ) (j : ℕ) (is : List ℕ) → ((i : ℕ) → has is i ≡ true → j ≤ last i) → may_pass last j is ≡ true
unfolding may_pass
all-may_pass last j [] h = refl
all-may_pass last j (x ∷ xs) h =
    and_from (leb j (last x)) (may_pass last j xs) (le-leb j (last x) (h x (has-here x xs))) (all-may_pass last j xs (λ i there. h i (has-later x i xs there)))

-- leaving out a number: the cases of a list's first
pub without-same : (j x : ℕ) (xs : List ℕ) → x ≡ j → without j (x ∷ xs) ≡ without j xs
unfolding without
without-same j x xs e = let b = eq-eqb x j e in rw b refl

pub without-other : (j x : ℕ) (xs : List ℕ) → (x ≡ j → ⊥) → without j (x ∷ xs) ≡ x ∷ without j xs
unfolding without
without-other j x xs e = let b = ne_eqb x j e in rw b refl

without-nil : (j : ℕ) → without j [] ≡ []
unfolding without
without-nil j = refl

pub without-less : (j i : ℕ) (is : List ℕ) → has (without j is) i ≡ true → (has is i ≡ true) × (i ≡ j → ⊥)
without-less j i [] h = absurd (has-nil i (rw (without-nil j) at h))
without-less j i (x ∷ xs) h = either
    (λ e. let p = without-less j i xs (rw (without-same j x xs e) at h) in (has-later x i xs p.0, p.1))
    (λ e. either
    (λ a. (rw a (has-here i xs), λ b. e (a ∙ b)))
    (λ b. let p = without-less j i xs b in (has-later x i xs p.0, p.1))
    (has-cases x i (without j xs) (rw (without-other j x xs e) at h)))
    (cases_eq x j)

pub less-without : (j i : ℕ) (is : List ℕ) → has is i ≡ true → (i ≡ j → ⊥) → has (without j is) i ≡ true
less-without j i [] h other = absurd (has-nil i h)
less-without j i (x ∷ xs) h other = either
    (λ e. rw (without-same j x xs e) (either
    (λ a. absurd (other (sym a ∙ e)))
    (λ b. less-without j i xs b other)
    (has-cases x i xs h)))
    (λ e. rw (without-other j x xs e) (either
    (λ a. rw a (has-here i (without j xs)))
    (λ b. has-later x i (without j xs) (less-without j i xs b other))
    (has-cases x i xs h)))
    (cases_eq x j)

pub at-has : (is : List ℕ) (k j : ℕ) → slice_get is k ≡ Some j → has is j ≡ true
at-has [] k j h = absurd (search rules)
at-has (x ∷ xs) zero j h = let e : x ≡ j = search rules in rw e (has-here j xs)
at-has (x ∷ xs) (suc k) j h = has-later x j xs (at-has xs k j h)

pub has-at : (is : List ℕ) (j : ℕ) → has is j ≡ true → (k : ℕ) × (k < length is) × (slice_get is k ≡ Some j)
has-at [] j h = absurd (has-nil j h)
has-at (x ∷ xs) j h = either
    (λ e. (0, omega arith, ap (λ (y : ℕ). Some y) e))
    (λ e. let p = has-at xs j e in let l = p.1 in (suc p.0, omega (arith, l), p.2))
    (has-cases x j xs h)

pub not_both : (b : Bool) → b ≡ true → b ≡ false → ⊥
not_both b t f = true≢false (sym t ∙ f)

pub to_false : (b : Bool) → (b ≡ true → ⊥) → b ≡ false
to_false b never = either (λ t. absurd (never t)) (λ f. f) (cases_Bool b)

pub length-without : (j : ℕ) (is : List ℕ) → length (without j is) ≤ length is
length-without j [] = rw (without-nil j) (omega arith)
length-without j (x ∷ xs) =
    let rest = length-without j xs in
    either (λ e. rw (without-same j x xs e) (omega (arith, rest))) (λ e. rw (without-other j x xs e) (omega (arith, rest))) (cases_eq x j)

pub apart-without : (j : ℕ) (is : List ℕ) → AreApart is → AreApart (without j is)
apart-without j [] h = rw (without-nil j) tt
apart-without j (x ∷ xs) h = either
    (λ e. rw (without-same j x xs e) (apart-without j xs h.1))
    (λ e. rw (without-other j x xs e) (to_false (has (without j xs) x) (λ t. not_both (has xs x) (without-less j x xs t).0 h.0), apart-without j xs h.1))
    (cases_eq x j)

pub apart-numbers : (low k : ℕ) → AreApart (numbers_from low k)
unfolding numbers_from
apart-numbers low zero = tt
apart-numbers low (suc k) = (
  to_false (has (numbers_from (low + 1) k) low) (λ t. let under = (has-numbers (low + 1) k low t).0 in absurd (omega (arith, under))),
  apart-numbers (low + 1) k,
)

pub apart-append : (top k : ℕ) (is : List ℕ) → AreApart is → ((i : ℕ) → has is i ≡ true → i < top) → AreApart (is ++ numbers_from top k)
apart-append top k [] h below = apart-numbers top k
apart-append top k (x ∷ xs) h below = (
  to_false (has (xs ++ numbers_from top k) x) (λ t. either
      (λ a. not_both (has xs x) a h.0)
      (λ b. let low = (has-numbers top k x b).0 in let under = below x (has-here x xs) in absurd (omega (arith, low, under)))
      (has-append xs (numbers_from top k) x t)),
  apart-append top k xs h.1 (λ i t. below i (has-later x i xs t)),
)

pub may_pass-append : (last : ℕ → ℕ) (j : ℕ) (xs ys : List ℕ) → may_pass last j (xs ++ ys) ≡ (may_pass last j xs && may_pass last j ys)
unfolding may_pass
may_pass-append last j [] ys = refl
may_pass-append last j (x ∷ xs) ys = let e = may_pass-append last j xs ys in rw e (either (λ a. rw a refl) (λ a. rw a refl) (cases_Bool (leb j (last x))))

pub both_left : (x a b r : Bool) → x ≡ (a && b) → a ≡ true → r ≡ b → r ≡ x
both_left x a b r e t same = rw (e, t) same

pub neither : (x a b : Bool) → x ≡ (a && b) → a ≡ false → x ≡ false
neither x a b e f = rw (e, f) refl
