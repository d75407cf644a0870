-- How many steps of a question may have been seen after one event more.
use Rattle.std.proofs.Common.{◌≡◌, ℕ, zero, suc, ◌+◌, ◌<◌, ◌≤◌, Bool, true, false, ◌||◌, cond, List, [], ◌∷◌, ◌++◌, length, take, replicate, Some, refl, sym, ap, ◌∙◌, subst, inl, inr, arith}
use Rattle.std.specs.Prelude.{slice_index_or, slice_get}
use Rattle.std.proofs.lemmas.Grind.{common_steps}
use Rattle.std.proofs.lemmas.Bool.{cases_lt, and_from, or_left, or_right, and_parts, or_cases}
use Rattle.std.proofs.Math.Bool.{and-true, or-false}
use Rattle.std.proofs.lemmas.List.{length-append, take-append-le}
use Rattle.std.proofs.Math.Seq.{take-append_seam}
use Rattle.std.proofs.lemmas.Option.{slice_get_past, slice_get_within}
use Rattle.fmp_codes.specs.declared.records.Record.{Record}
use Rattle.fmp_setup.specs.Setup.{Setup}
use Rattle.fmp_search_pattern.specs.declared.question.Step.{Step}
use Rattle.fmp_search_pattern.specs.Sights.{Sight}
use Rattle.fmp_search_pattern.specs.Questions.{allows, seen}
use Rattle.fmp_search_orders.specs.declared.rules.Rules.{Rules}
use Rattle.fmp_search_orders.specs.Shown.{last_sight, IsMarked}
use Rattle.fmp_search_orders.proofs.Longer.{marked_more, seen_more}
use Rattle.fmp_search_shrink.specs.Seen.{MaySee, AreNext, AreSeen, IsSettled, goes_on, is_seen}

-- ---- lists that are one longer

last_of : {A : Type 0} (n : ℕ) (xs : List A) → length xs ≡ n + 1 → (front : List A) × (x : A) × (xs ≡ front ++ x ∷ [])
last_of n [] long = absurd (omega (arith, long))
last_of zero (x ∷ []) long = ([], x, refl)
last_of zero (x ∷ y ∷ xs) long = absurd (grind (arith, common_steps, long))
last_of (suc n) (x ∷ xs) long =
    let more = last_of n xs (grind (arith, common_steps, long)) in
    (x ∷ more.0, more.1, ap (λ l. x ∷ l) more.2)

get_front : {A : Type 0} (k : ℕ) (xs ys : List A) → k < length xs → slice_get (xs ++ ys) k ≡ slice_get xs k
get_front k [] ys small = absurd (omega (arith, small))
get_front zero (x ∷ xs) ys small = refl
get_front (suc k) (x ∷ xs) ys small = get_front k xs ys (grind (arith, common_steps, small))

get_last : {A : Type 0} (xs : List A) (y : A) → slice_get (xs ++ y ∷ []) (length xs) ≡ Some y
get_last [] y = refl
get_last (x ∷ xs) y = get_last xs y

take_all_of : {A : Type 0} (xs : List A) (y : A) → take (suc (length xs)) (xs ++ y ∷ []) ≡ xs ++ y ∷ []
take_all_of [] y = refl
take_all_of (x ∷ xs) y = ap (λ l. x ∷ l) (take_all_of xs y)

-- ---- marks of records that are one longer

module _ (c : Setup) (rules : Rules) (question : List Step) (h : List Record) (r : Record) (front : List Bool) (m : Bool)
    (marked : IsMarked c rules question (h ++ r ∷ []) (front ++ m ∷ [])) where
  as_many : length front ≡ length h
  as_many =
      let many = marked.as_many in
      let marks_long = length-append front (m ∷ []) in
      let records_long = length-append h (r ∷ []) in
      grind (arith, common_steps, many, marks_long, records_long)

  -- the marks before the last are those of the records before the last
  marked_before : IsMarked c rules question h front
  marked_before = record {
    as_many = as_many;
    allowed = λ k x n at mark_at.
        let small = slice_get_within h k x at in
        let mark_small = slice_get_within front k n mark_at in
        let there : slice_get (h ++ r ∷ []) k ≡ Some x = get_front k h (r ∷ []) small ∙ at in
        let mark_there : slice_get (front ++ m ∷ []) k ≡ Some n = get_front k front (m ∷ []) mark_small ∙ mark_at in
        let before : take k (front ++ m ∷ []) ≡ take k front = take-append-le k front (m ∷ []) (omega (arith, mark_small)) in
        let up_to : take (suc k) (h ++ r ∷ []) ≡ take (suc k) h = take-append-le (suc k) h (r ∷ []) (omega (arith, small)) in
        subst (λ l. allows question (seen (take k front)) n (last_sight c rules l x) ≡ true) up_to
        (subst (λ l. allows question (seen l) n (last_sight c rules (take (suc k) (h ++ r ∷ [])) x) ≡ true) before (marked.allowed k x n there mark_there));
  }

  allowed_last : allows question (seen front) m (last_sight c rules (h ++ r ∷ []) r) ≡ true
  allowed_last =
      let k = length front in
      let at : slice_get (h ++ r ∷ []) k ≡ Some r = ap (λ n. slice_get (h ++ r ∷ []) n) as_many ∙ get_last h r in
      let before : take k (front ++ m ∷ []) ≡ front = take-append_seam front (m ∷ []) in
      let up_to : take (suc k) (h ++ r ∷ []) ≡ h ++ r ∷ [] = ap (λ n. take (suc n) (h ++ r ∷ [])) as_many ∙ take_all_of h r in
      subst (λ l. allows question (seen front) m (last_sight c rules l r) ≡ true) up_to
      (subst (λ l. allows question (seen l) m (last_sight c rules (take (suc k) (h ++ r ∷ [])) r) ≡ true) before (marked.allowed k r m at (get_last front m)))

-- ---- numbers of steps

module _ (c : Setup) (rules : Rules) (question : List Step) (h : List Record) (r : Record) (numbers : List Bool) (seen_before : AreSeen c rules question h numbers) where
  abbrev text : Sight
  text = last_sight c rules (h ++ r ∷ []) r

  -- who goes on from a number that may have been seen
  gone_on : (n : ℕ) (m : Bool) → n ≤ length question → goes_on question text numbers n m ≡ true → MaySee c rules question (h ++ r ∷ []) (cond m (n + 1) n)
  gone_on n m small on =
      let both = and_parts (slice_index_or numbers n false) (allows question n m text) on in
      let had = (seen_before n small).0 both.0 in
      let allowed : allows question (seen had.0) m text ≡ true = subst (λ k. allows question k m text ≡ true) (sym had.2) both.1 in
      (had.0 ++ m ∷ [], marked_more c rules question h r had.0 m had.1 allowed, seen_more had.0 m ∙ ap (λ k. cond m (k + 1) k) had.2)

  -- from where a number of steps is seen
  came_from : (n : ℕ) → n ≤ length question → (front : List Bool) (m : Bool) → IsMarked c rules question (h ++ r ∷ []) (front ++ m ∷ []) → seen (front ++ m ∷ []) ≡ n →
      goes_on question text numbers (seen front) m ≡ true
  came_from n small front m marked is =
      let more = seen_more front m ∙ refl in
      let low : seen front ≤ seen (front ++ m ∷ []) = fewer front m in
      let had : slice_index_or numbers (seen front) false ≡ true =
      (seen_before (seen front) (omega (arith, small, low, is))).1 (front, marked_before c rules question h r front m marked, refl) in
      and_from (slice_index_or numbers (seen front) false) (allows question (seen front) m text) had (allowed_last c rules question h r front m marked)
    where
      cond_more : (b : Bool) (k : ℕ) → k ≤ cond b (k + 1) k
      cond_more true k = omega arith
      cond_more false k = omega arith

      fewer : (front : List Bool) (m : Bool) → seen front ≤ seen (front ++ m ∷ [])
      fewer front m = let least = cond_more m (seen front) in rw (seen_more front m) least

  -- after the event so many steps may have been seen
  forth : (n : ℕ) → n ≤ length question → is_seen question text numbers n ≡ true → MaySee c rules question (h ++ r ∷ []) n
  forth zero small is = gone_on zero false small is
  forth (suc n) small is =
      elim (or_cases (goes_on question text numbers (suc n) false) (goes_on question text numbers n true) is) [
        | inl stays ↦ gone_on (suc n) false small stays
        | inr moves ↦ subst (MaySee c rules question (h ++ r ∷ [])) (omega arith) (gone_on n true (omega (arith, small)) moves)
      ]

  back_from : (n : ℕ) → n ≤ length question → (front : List Bool) (m : Bool) → IsMarked c rules question (h ++ r ∷ []) (front ++ m ∷ []) → seen (front ++ m ∷ []) ≡ n →
      is_seen question text numbers n ≡ true
  back_from zero small front false marked is =
      let same : seen front ≡ zero = sym (seen_more front false) ∙ is in
      subst (λ k. goes_on question text numbers k false ≡ true) same (came_from zero small front false marked is)
  back_from zero small front true marked is = absurd (let more = seen_more front true in omega (arith, more, is))
  back_from (suc n) small front false marked is =
      let same : seen front ≡ suc n = sym (seen_more front false) ∙ is in
      or_left (goes_on question text numbers (suc n) false) (goes_on question text numbers n true)
      (subst (λ k. goes_on question text numbers k false ≡ true) same (came_from (suc n) small front false marked is))
  back_from (suc n) small front true marked is =
      let more : seen front + 1 ≡ suc n = sym (seen_more front true) ∙ is in
      let same : seen front ≡ n = omega (arith, more) in
      or_right (goes_on question text numbers (suc n) false) (goes_on question text numbers n true)
      (subst (λ k. goes_on question text numbers k true ≡ true) same (came_from (suc n) small front true marked is))

  back : (n : ℕ) → n ≤ length question → MaySee c rules question (h ++ r ∷ []) n → is_seen question text numbers n ≡ true
  back n small may =
      let long : length may.0 ≡ length h + 1 = let many = may.1.as_many in many ∙ length-append h (r ∷ []) in
      let parts = last_of (length h) may.0 long in
      back_from n small parts.0 parts.1 (subst (IsMarked c rules question (h ++ r ∷ [])) parts.2 may.1) (subst (λ l. seen l ≡ n) parts.2 may.2)

  -- the numbers that come next are those after one record more
  pub seen_after : (next : List Bool) → AreNext question text numbers next → AreSeen c rules question (h ++ r ∷ []) next
  seen_after next is = λ n small. (
    λ there. forth n small (sym (is n small) ∙ there),
    λ may. is n small ∙ back n small may,
  )

-- ---- at boot nothing was seen

no_marks : (marks : List Bool) → length marks ≡ 0 → seen marks ≡ 0
no_marks [] long = refl
no_marks (m ∷ marks) long = absurd (omega (arith, long))

only_first : (n : ℕ) → slice_index_or (true ∷ replicate 255 false) n false ≡ true → n ≡ 0
only_first zero is = refl
only_first (suc n) is = absurd (off 255 n is)
  where
    off : (k n : ℕ) → slice_index_or (replicate k false) n false ≡ true → ⊥
    off zero n is = cc
    off (suc k) zero is = cc
    off (suc k) (suc n) is = off k n is

pub seen_at_boot : (c : Setup) (rules : Rules) (question : List Step) → AreSeen c rules question [] (true ∷ replicate 255 false)
seen_at_boot c rules question n small = (
  λ there. ([], record { as_many = refl; allowed = λ k x m at mark_at. cc }, sym (only_first n there)),
  λ may. let many = may.1.as_many in let none = no_marks may.0 many in
      subst (λ k. slice_index_or (true ∷ replicate 255 false) k false ≡ true) (sym none ∙ may.2) refl,
)

-- ---- what is settled stays as it is

-- where all steps were seen, nothing is looked for any more
pub allowed_at_end : (question : List Step) (text : Sight) (n : ℕ) → length question ≤ n → allows question n false text ≡ true
unfolding allows
allowed_at_end question text n past = rw (slice_get_past question n past) refl

module _ (question : List Step) (numbers : List Bool) (settled : IsSettled question numbers) (text : Sight) where
  stays : (n : ℕ) → goes_on question text numbers n false ≡ slice_index_or numbers n false
  stays n = elim (cases_lt n (length question)) [
    | inl less ↦ rw (settled n less) refl
    | inr past ↦ rw (allowed_at_end question text n past) (and-true (slice_index_or numbers n false))
  ]

  none_moves : (n : ℕ) → n < length question → goes_on question text numbers n true ≡ false
  none_moves n less = rw (settled n less) refl

  pub settled_next : AreNext question text numbers numbers
  settled_next zero small = sym (stays zero)
  settled_next (suc n) small =
      sym (ap (λ b. goes_on question text numbers (suc n) false || b) (none_moves n (omega (arith, small))) ∙ or-false _ ∙ stays (suc n))
