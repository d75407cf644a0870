-- The lines that are open, from one line to the next.
use Rattle.std.proofs.Common.{◌≡◌, ℕ, ◌+◌, ◌<◌, ◌≤◌, leb, true, false, List, [], ◌∷◌, ◌++◌, length, refl, sym, subst, arith}
use Rattle.std.proofs.lemmas.Bool.{cases_Bool, cases_eq, leb-true, le-leb}
use Rattle.fmp_search_lines.specs.Crowds.{IsFirstCrowded, still_open}
use Rattle.fmp_search_lines.specs.Orders.{AreApart, FewOpen, has, most, numbers_from}
use Rattle.fmp_search_lines.specs.Places.{without}
use Rattle.fmp_search_lines.proofs.Sets.{either, has-nil, has-here, has-later, has-cases, has-append, has-left, has-right, not_both, to_false, less-without}
use Rattle.fmp_search_lines.proofs.Sets.{length-without, apart-append, without-same, without-other}

-- ---- the lines that are left

module _ (last : ℕ → ℕ) (j : ℕ) where
  open-nil : still_open last j [] ≡ []
  unfolding still_open
  open-nil = refl

  open-kept : (x : ℕ) (xs : List ℕ) → leb j (last x) ≡ true → still_open last j (x ∷ xs) ≡ x ∷ still_open last j xs
  unfolding still_open
  open-kept x xs e = rw e refl

  open-dropped : (x : ℕ) (xs : List ℕ) → leb j (last x) ≡ false → still_open last j (x ∷ xs) ≡ still_open last j xs
  unfolding still_open
  open-dropped x xs e = rw e refl

  pub open-less : (is : List ℕ) (i : ℕ) → has (still_open last j is) i ≡ true → (has is i ≡ true) × (j ≤ last i)
  open-less [] i h = absurd (has-nil i (rw open-nil at h))
  open-less (x ∷ xs) i h = either
      (λ e. either
      (λ a. (subst (λ (y : ℕ). has (y ∷ xs) i ≡ true) (sym a) (has-here i xs), subst (λ (y : ℕ). j ≤ last y) a (leb-true j (last x) e)))
      (λ b. let p = open-less xs i b in (has-later x i xs p.0, p.1))
      (has-cases x i (still_open last j xs) (rw (open-kept x xs e) at h)))
      (λ e. let p = open-less xs i (rw (open-dropped x xs e) at h) in (has-later x i xs p.0, p.1))
      (cases_Bool (leb j (last x)))

  pub less-open : (is : List ℕ) (i : ℕ) → has is i ≡ true → j ≤ last i → has (still_open last j is) i ≡ true
  less-open [] i h bound = absurd (has-nil i h)
  less-open (x ∷ xs) i h bound = either
      (λ e. rw (open-kept x xs e) (either
      (λ a. subst (λ (y : ℕ). has (y ∷ still_open last j xs) i ≡ true) (sym a) (has-here i (still_open last j xs)))
      (λ b. has-later x i (still_open last j xs) (less-open xs i b bound))
      (has-cases x i xs h)))
      (λ e. rw (open-dropped x xs e) (either
      (λ a. absurd (not_both (leb j (last x)) (le-leb j (last x) (subst (λ (y : ℕ). j ≤ last y) (sym a) bound)) e))
      (λ b. less-open xs i b bound)
      (has-cases x i xs h)))
      (cases_Bool (leb j (last x)))

  pub apart-open : (is : List ℕ) → AreApart is → AreApart (still_open last j is)
  apart-open [] h = rw open-nil tt
  apart-open (x ∷ xs) h = either
      (λ e. rw (open-kept x xs e) (to_false (has (still_open last j xs) x) (λ t. not_both (has xs x) (open-less xs x t).0 h.0), apart-open xs h.1))
      (λ e. rw (open-dropped x xs e) (apart-open xs h.1))
      (cases_Bool (leb j (last x)))

-- ---- how many there are

shorter-without : (x : ℕ) (ys : List ℕ) → has ys x ≡ true → length (without x ys) + 1 ≤ length ys
shorter-without x [] h = absurd (has-nil x h)
shorter-without x (y ∷ ys) h = either
    (λ e. let less = length-without x ys in rw (without-same x y ys e) (omega (arith, less)))
    (λ e. rw (without-other x y ys e) (either
    (λ a. absurd (e a))
    (λ b. let less = shorter-without x ys b in omega (arith, less))
    (has-cases y x ys h)))
    (cases_eq y x)

-- numbers that are apart are no more than those among which they all are
pub no_more : (xs ys : List ℕ) → AreApart xs → ((i : ℕ) → has xs i ≡ true → has ys i ≡ true) → length xs ≤ length ys
no_more [] ys apart all = omega arith
no_more (x ∷ xs) ys apart all =
    let rest = no_more xs (without x ys) apart.1 (λ i t. less-without x i ys (all i (has-later x i xs t))
    (λ e. not_both (has xs x) (subst (λ (y : ℕ). has xs y ≡ true) e t) apart.0)) in
    let less = shorter-without x ys (all x (has-here x xs)) in
    omega (arith, rest, less)

-- ---- from one line to the next

-- the lines that are kept before a line: all that may come after it or are past since, and no line before it is crowded
pub record AreKept (last : ℕ → ℕ) (j : ℕ) (lines : List ℕ) : Type 0 where
  pub apart : AreApart lines
  pub below : (i : ℕ) → has lines i ≡ true → i < j
  pub all : (i : ℕ) → i < j → j ≤ last i → has lines i ≡ true
  pub few : FewOpen last j

pub none_kept : (last : ℕ → ℕ) (lines : List ℕ) → lines ≡ [] → AreKept last 0 lines
none_kept last lines e = subst (AreKept last 0) (sym e) (record {
  apart = tt;
  below = λ i h. absurd (has-nil i h);
  all = λ i under bound. absurd (omega (arith, under));
  few = λ j these under those. absurd (omega (arith, under));
})

module _ (last : ℕ → ℕ) (j : ℕ) (lines left : List ℕ) (kept : AreKept last j lines) (is : left ≡ still_open last j lines) where
  left_less : (i : ℕ) → has left i ≡ true → (has lines i ≡ true) × (j ≤ last i)
  left_less i h = open-less last j lines i (rw is at h)

  less_left : (i : ℕ) → i < j → j ≤ last i → has left i ≡ true
  less_left i under bound = rw is (less-open last j lines i (kept.all i under bound) bound)

  apart_left : AreApart left
  apart_left = rw is (apart-open last j lines kept.apart)

  left_below : (i : ℕ) → has left i ≡ true → i < j
  left_below i h = kept.below i (left_less i h).0

  pub crowded : (count : ℕ) → j < count → length left ≡ 17 → IsFirstCrowded last count j
  crowded count line many = (line, (left, record { apart = apart_left; before = left_below; bound = λ i h. (left_less i h).1 }, many), kept.few)

  few_here : length left ≤ most → FewOpen last (j + 1)
  few_here few k these under those = either
      (λ e.
      let all = no_more these left those.apart (λ i t. less_left i
      (subst (λ (x : ℕ). i < x) e (those.before i t)) (subst (λ (x : ℕ). x ≤ last i) e (those.bound i t))) in
      omega (arith, all, few))
      (λ other. kept.few k these (omega (arith, under, other)) those)
      (cases_eq k j)

  pub next_kept : length left ≤ most → AreKept last (j + 1) (left ++ j ∷ [])
  unfolding numbers_from
  next_kept few = record {
    apart = apart-append j 1 left apart_left left_below;
    below = λ i h. either
        (λ a. let under = left_below i a in omega (arith, under))
        (λ b. either (λ e. omega (arith, e)) (λ none. absurd (has-nil i none)) (has-cases j i [] b))
        (has-append left (j ∷ []) i h);
    all = λ i under bound. either
        (λ e. has-right left (j ∷ []) i (subst (λ (x : ℕ). has (x ∷ []) i ≡ true) e (has-here i [])))
        (λ other. has-left left (j ∷ []) i (less_left i (omega (arith, under, other)) (omega (arith, bound))))
        (cases_eq i j);
    few = few_here few;
  }
