-- What an answer of the search says of the orders.
use Rattle.std.proofs.Common.{◌≡◌, ◌⊎◌, ℕ, zero, suc, ◌+◌, ◌<◌, ◌≤◌, ltb, leb, Bool, true, false, not, ◌&&◌, ◌||◌, Option, Some, List, [], ◌∷◌, length, refl}
use Rattle.std.proofs.Common.{ap, sym, subst, ◌∙◌, inl, inr, arith}
use Rattle.std.proofs.lemmas.Bool.{and_parts, and_from, or_cases, cases_Bool, cases_eq, cases_lt, ltb-true, lt-ltb, leb-true, le-leb, not-true}
use Rattle.fmp_search.specs.Runs.{run}
use Rattle.fmp_search.specs.Answers.{NoneEver}
use Rattle.fmp_search_lines.specs.Orders.{has, numbers_from, AreWithin, FewOpen, IsBeginning, IsRight, MayFollow, OrdersStand}
use Rattle.fmp_search_lines.specs.Places.{Place, PlacesSay, VerdictsSay, IsToldByPending, are_late, after, is_gone, is_wanted, lines_of, origin}
use Rattle.fmp_search_lines.proofs.Sets.{either, has-nil, has-here, has-later, has-cases, not_both, to_false}
use Rattle.fmp_search_lines.proofs.Runs.{places_say}

module _ {S : Type 0} (must : ℕ → Bool) (q : Place S) where
  wanted_all : (goal : ℕ) → is_wanted must goal q ≡ true → (i : ℕ) → i < goal → must i ≡ true → is_gone q i ≡ true
  unfolding is_wanted
  wanted_all zero h i under m = absurd (omega (arith, under))
  wanted_all (suc goal) h i under m =
      let p = and_parts (not (must goal) || is_gone q goal) (is_wanted must goal q) h in
      either
      (λ e. either
      (λ a. absurd (not_both (must i) m (subst (λ (x : ℕ). must x ≡ false) (sym e) (not-true (must goal) a))))
      (λ b. subst (λ (x : ℕ). is_gone q x ≡ true) (sym e) b)
      (or_cases (not (must goal)) (is_gone q goal) p.0))
      (λ other. wanted_all goal p.1 i (omega (arith, under, other)) m)
      (cases_eq i goal)

  all_wanted : (goal : ℕ) → ((i : ℕ) → i < goal → must i ≡ true → is_gone q i ≡ true) → is_wanted must goal q ≡ true
  unfolding is_wanted
  all_wanted zero h = refl
  all_wanted (suc goal) h =
      and_from (not (must goal) || is_gone q goal) (is_wanted must goal q)
      (either
      (λ m. let gone = h goal (omega arith) m in rw (m, gone) refl)
      (λ m. rw m refl)
      (cases_Bool (must goal)))
      (all_wanted goal (λ i under m. h i (omega (arith, under)) m))

module _ {S : Type 0} (play : S → ℕ → Option S) (last : ℕ → ℕ) (count : ℕ) (must : ℕ → Bool) (goal : ℕ) (s : S) where
  say : PlacesSay play last count s
  say = places_say play last count s

  is_found : (steps : List ℕ) (r : Place S) → run (after play last count) (origin s) steps ≡ Some r → is_wanted must goal r ≡ true →
      IsRight play last count must goal s (lines_of last count steps)
  is_found steps r leads wanted =
      let taken = say.sound steps r leads in
      record {
        after_it = r.state;
        within = taken.within;
        right = taken.right;
        all = λ i under m.
            let gone = and_parts (ltb i r.top) (not (has r.pending i)) (wanted_all must r goal wanted i under m) in
            taken.all i (ltb-true i r.top gone.0) (not-true (has r.pending i) gone.1);
      }

  is_never : FewOpen last count → NoneEver (after play last count) (is_wanted must goal) (origin s) → IsBeginning play last count must goal s → ⊥
  is_never few none one =
      let there = say.complete few one.order one.after_it one.within one.right in
      let wanted = all_wanted must there.1 goal (λ i under m.
      let gone = there.4 i (one.all i under m) in
      let free = gone.1 in
      and_from (ltb i there.1.top) (not (has there.1.pending i)) (lt-ltb i there.1.top gone.0) (rw free refl)) in
      not_both (is_wanted must goal there.1) wanted (none there.0 there.1 there.2)

  pub verdicts_say : VerdictsSay play last count must goal s
  verdicts_say = record { found = is_found; never = is_never }

-- ---- without bounds

-- all numbers below one are among some, and no others
AreBelow : ℕ → List ℕ → Type 0
AreBelow m taken = (i : ℕ) → ((has taken i ≡ true) → i < m) × ((i < m) → has taken i ≡ true)

module _ (last : ℕ → ℕ) (count : ℕ) (own : (i : ℕ) → last i ≡ i) where
  next_is : (m : ℕ) (taken : List ℕ) (j : ℕ) → AreBelow m taken → MayFollow last count taken j → j ≡ m
  unfolding AreBelow
  next_is m taken j below follows =
      let no_less : j < m → ⊥ = λ under. not_both (has taken j) ((below j).1 under) follows.new in
      let no_more : m < j → ⊥ = λ over.
      let is_own = own m in
      let under = (below m).0 (follows.closed m over (omega (arith, is_own, over))) in
      omega (arith, under) in
      either (λ a. absurd (no_less a)) (λ b. either (λ c. absurd (no_more c)) (λ d. omega (arith, b, d)) (cases_lt m j)) (cases_lt j m)

  more_below : (m : ℕ) (taken : List ℕ) (j : ℕ) → AreBelow m taken → j ≡ m → AreBelow (m + 1) (j ∷ taken)
  unfolding AreBelow
  more_below m taken j below e i = (
    (λ h. either (λ a. omega (arith, a, e)) (λ b. let under = (below i).0 b in omega (arith, under)) (has-cases j i taken h)),
    (λ under. either
        (λ a. subst (λ (x : ℕ). has (x ∷ taken) i ≡ true) (sym a) (has-here i taken))
        (λ other. has-later j i taken ((below i).1 (omega (arith, under, e, other))))
        (cases_eq j i)),
  )

  stands_from : (order : List ℕ) (m : ℕ) (taken : List ℕ) → AreBelow m taken → AreWithin last count taken order → order ≡ numbers_from m (length order)
  unfolding numbers_from
  stands_from [] m taken below within = refl
  stands_from (j ∷ js) m taken below within =
      let e = next_is m taken j below within.0 in
      let rest = stands_from js (m + 1) (j ∷ taken) (more_below m taken j below e) within.1 in
      ap (λ (x : ℕ). x ∷ js) e ∙ ap (λ (xs : List ℕ). m ∷ xs) rest

  none_below : AreBelow 0 []
  unfolding AreBelow
  none_below i = ((λ h. absurd (has-nil i h)), (λ under. absurd (omega (arith, under))))

pub orders_stand : (last : ℕ → ℕ) (count : ℕ) → OrdersStand last count
orders_stand last count own order within = stands_from last count own order 0 [] (none_below last count own) within

-- ---- what is looked at

may_stay : (a m : Bool) → m ≡ false → (a || not m) ≡ true
may_stay true m e = refl
may_stay false m e = rw e refl

module _ (must : ℕ → Bool) (goal : ℕ) where
  late-all : (is : List ℕ) → are_late must goal is ≡ true → (i : ℕ) → has is i ≡ true → (goal ≤ i) ⊎ (must i ≡ false)
  unfolding are_late
  late-all [] h i there = absurd (has-nil i there)
  late-all (x ∷ xs) h i there =
      let p = and_parts (leb goal x || not (must x)) (are_late must goal xs) h in
      either
      (λ e. subst (λ (y : ℕ). (goal ≤ y) ⊎ (must y ≡ false)) e (either
      (λ a. inl (leb-true goal x a))
      (λ b. inr (not-true (must x) b))
      (or_cases (leb goal x) (not (must x)) p.0)))
      (λ t. late-all xs p.1 i t)
      (has-cases x i xs there)

  all-late : (is : List ℕ) → ((i : ℕ) → has is i ≡ true → (goal ≤ i) ⊎ (must i ≡ false)) → are_late must goal is ≡ true
  unfolding are_late
  all-late [] h = refl
  all-late (x ∷ xs) h =
      and_from (leb goal x || not (must x)) (are_late must goal xs)
      (either
      (λ a. let e = le-leb goal x a in rw e refl)
      (λ b. may_stay (leb goal x) (must x) b)
      (h x (has-here x xs)))
      (all-late xs (λ i t. h i (has-later x i xs t)))

same_bool : (a b : Bool) → (a ≡ true → b ≡ true) → (b ≡ true → a ≡ true) → a ≡ b
same_bool true true f g = refl
same_bool true false f g = sym (f refl)
same_bool false true f g = g refl
same_bool false false f g = refl

-- the line before a goal that is above another number
goal_before : (goal top : ℕ) → top < goal → (i : ℕ) × (i + 1 ≡ goal)
goal_before zero top h = absurd (omega (arith, h))
goal_before (suc i) top h = (i, omega arith)

pub told_by_pending : {S : Type 0} (must : ℕ → Bool) (goal : ℕ) (q : Place S) → IsToldByPending must goal q
told_by_pending must goal q ends =
    same_bool (is_wanted must goal q) (leb goal q.top && are_late must goal q.pending)
    (λ wanted.
    let gone = wanted_all must q goal wanted in
    and_from (leb goal q.top) (are_late must goal q.pending)
    (le-leb goal q.top (either
    (λ low. let last = goal_before goal q.top low in
    let m = ends last.0 last.1 in
    let is = last.1 in
    let under = ltb-true last.0 q.top (and_parts (ltb last.0 q.top) (not (has q.pending last.0)) (gone last.0 (omega (arith, is)) m)).0 in
    absurd (omega (arith, under, low, is)))
    (λ high. high)
    (cases_lt q.top goal)))
    (all-late must goal q.pending (λ i there. either
    (λ m. either
    (λ under. absurd (not_both (has q.pending i) there (not-true (has q.pending i) (and_parts (ltb i q.top) (not (has q.pending i)) (gone i under m)).1)))
    (λ over. inl over)
    (cases_lt i goal))
    (λ m. inr m)
    (cases_Bool (must i)))))
    (λ told.
    let p = and_parts (leb goal q.top) (are_late must goal q.pending) told in
    let high = leb-true goal q.top p.0 in
    all_wanted must q goal (λ i under m.
    let free = to_false (has q.pending i) (λ there. either
    (λ over. absurd (omega (arith, over, under)))
    (λ none. not_both (must i) m none)
    (late-all must goal q.pending p.1 i there)) in
    and_from (ltb i q.top) (not (has q.pending i)) (lt-ltb i q.top (omega (arith, under, high))) (rw free refl)))
