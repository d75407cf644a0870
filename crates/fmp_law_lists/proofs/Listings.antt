-- Lists that have the tasks that qualify, in an order.
use Rattle.std.proofs.Common.{◌≡◌, ℕ, zero, suc, ◌+◌, zero-add, ◌<◌, ◌≤◌, Bool, cond, true, false, not, ◌&&◌, ◌||◌, List, [], ◌∷◌, ◌++◌, refl, sym, ap, ◌∙◌, subst, arith, ⊎_elim}
use Rattle.std.specs.Prelude.{nat_le}
use Rattle.std.proofs.lemmas.Bool.{cases_eq, cases_lt, cases_Bool, cond_both, both_ways, or_cases, or_left, or_right, and_parts, and_from, and_right, eqb-true, eqb-false, eq-eqb, ne_eqb, false≢true, le-leb, lt-leb, leb-true}
use Rattle.std.proofs.lemmas.Map.Views.{any-filter_same}
use Rattle.std.proofs.lemmas.List.Folds.{list_any-append}
use Rattle.std.proofs.lemmas.List.Sums.{sum_by-cons}
use Rattle.fmp_codes.specs.Numbers.{as_task, within}
use Rattle.fmp_rules.specs.Arrivals.{inserted, inserted_if, in_order}
use Rattle.fmp_law_safety.specs.First.{IsStrict}
use Rattle.fmp_codes.specs.declared.numbers.Task.{Task}
use Rattle.fmp_codes.proofs.Same.{tasks_same}
use Rattle.fmp_kernel_parts.specs.Tasks.{has_task, without}
use Rattle.fmp_law_lists.specs.Listing.{is_task, times, StandsOnceIf, all_but, AllAfter, IsInOrder, IsListOf, IsTotal}

pub itself : (t : Task) → is_task t t ≡ true
itself t = eq-eqb t.number t.number refl

abbrev pub In : Task → List Task → Type 0
In t us = has_task t us ≡ true

head_in : (t : Task) (us : List Task) → In t (t ∷ us)
head_in t us = or_left _ _ (itself t)

-- what holds of a task holds of the same task
pub at_same : (P : Task → Type 0) (t u : Task) → is_task t u ≡ true → P u → P t
at_same P t u e h = subst P (tasks_same u t (eqb-true u.number t.number (eq-eqb u.number t.number (sym (eqb-true t.number u.number e))))) h

swapped : (t u : Task) → is_task t u ≡ false → is_task u t ≡ false
swapped t u e = ne_eqb u.number t.number (λ g. eqb-false t.number u.number e (sym g))

-- The same tasks in an order that is the same among them.

after_agree : (before after : Task → Task → Bool) (t : Task) (us : List Task) →
    ((u : Task) → In u us → before t u ≡ true → after t u ≡ true) → AllAfter before t us → AllAfter after t us
after_agree before after t [] h a = tt
after_agree before after t (u ∷ us) h a = (h u (head_in u us) a.0, after_agree before after t us (λ v i. h v (or_right _ _ i)) a.1)

order_agree : (before after : Task → Task → Bool) (us : List Task) →
    ((t u : Task) → In t us → In u us → before t u ≡ true → after t u ≡ true) → IsInOrder before us → IsInOrder after us
order_agree before after [] h a = tt
order_agree before after (t ∷ us) h a =
    (after_agree before after t us (λ u i. h t u (head_in t us) (or_right _ _ i)) a.0, order_agree before after us (λ u v i j. h u v (or_right _ _ i) (or_right _ _ j)) a.1)

swapped_true : (t u : Task) → is_task t u ≡ true → is_task u t ≡ true
swapped_true t u e = eq-eqb u.number t.number (sym (eqb-true t.number u.number e))

times_head_yes : (t u : Task) (us : List Task) → is_task t u ≡ true → times t (u ∷ us) ≡ 1 + times t us
times_head_yes t u us e = sum_by-cons (λ v. cond (is_task t v) 1 0) u us ∙ ap (λ b. cond b 1 0 + times t us) e

times_head_no : (t u : Task) (us : List Task) → is_task t u ≡ false → times t (u ∷ us) ≡ times t us
times_head_no t u us e = sum_by-cons (λ v. cond (is_task t v) 1 0) u us ∙ ap (λ b. cond b 1 0 + times t us) e ∙ zero-add (times t us)

pub listing_agree : {p q : Task → Bool} {before after : Task → Task → Bool} {us : List Task} → ((t : Task) → p t ≡ q t) →
    ((t u : Task) → q t ≡ true → q u ≡ true → before t u ≡ after t u) → IsListOf p before us → IsListOf q after us
listing_agree {p} {q} {before} {after} {us} same alike l = record {
  members = λ t. l.members t ∙ same t;
  ordered = order_agree before after us (λ t u i j e. sym (alike t u (there t i) (there u j)) ∙ e) l.ordered;
}
  where
    there : (t : Task) → In t us → q t ≡ true
    there t i = sym (l.members t ∙ same t) ∙ i

pub listing_same : {p q : Task → Bool} {before : Task → Task → Bool} {us : List Task} → ((t : Task) → p t ≡ q t) → IsListOf p before us → IsListOf q before us
listing_same same l = record { members = λ t. l.members t ∙ same t; ordered = l.ordered }

-- A task leaves.

after_without : (before : Task → Task → Bool) (t u : Task) (us : List Task) → AllAfter before t us → AllAfter before t (without u us)
after_without before t u [] a = tt
after_without before t u (v ∷ us) a =
    cond_both (not (is_task v u)) (v ∷ without u us) (without u us) (AllAfter before t) (λ _. (a.0, after_without before t u us a.1)) (λ _. after_without before t u us a.1)

order_without : (before : Task → Task → Bool) (u : Task) (us : List Task) → IsInOrder before us → IsInOrder before (without u us)
order_without before u [] a = tt
order_without before u (v ∷ us) a =
    cond_both (not (is_task v u)) (v ∷ without u us) (without u us) (IsInOrder before)
    (λ _. (after_without before v u us a.0, order_without before u us a.1)) (λ _. order_without before u us a.1)

pub listing_out : (u : Task) {q : Task → Bool} {before : Task → Task → Bool} {us : List Task} → IsListOf q before us → IsListOf (all_but u q) before (without u us)
listing_out u {q} {before} {us} l = record {
  members = λ t. any-filter_same (is_task t) (λ v. not (is_task v u)) (not (is_task t u))
      (λ v e. at_same (λ x. not (is_task v u) ≡ not (is_task x u)) t v e refl) us ∙ ap (λ b. not (is_task t u) && b) (l.members t);
  ordered = order_without before u us l.ordered;
}

-- where a task does not qualify, all but it are all
pub but_none : (u : Task) (q : Task → Bool) → q u ≡ false → (t : Task) → all_but u q t ≡ q t
but_none u q none t = ⊎_elim
    (λ (e : is_task t u ≡ true). rw e (sym (at_same (λ x. q x ≡ false) t u e none)))
    (λ (e : is_task t u ≡ false). rw e refl) (cases_Bool (is_task t u))

pub but_other : (u : Task) (q : Task → Bool) (t : Task) → all_but u q t ≡ true → (is_task t u ≡ false) × (q t ≡ true)
but_other u q t e = ⊎_elim
    (λ (s : is_task t u ≡ true). absurd (false≢true (sym (ap (λ b. not b && q t) s) ∙ e)))
    (λ (s : is_task t u ≡ false). (s, sym (ap (λ b. not b && q t) s) ∙ e)) (cases_Bool (is_task t u))

-- a task that is not in the list leaves it
pub listing_gone : (u : Task) (q : Task → Bool) {before : Task → Task → Bool} {us : List Task} → IsListOf (all_but u q) before us → IsListOf (all_but u q) before (without u us)
listing_gone u q l = listing_same (λ t. once (not (is_task t u)) (q t)) (listing_out u l)
  where
    once : (a b : Bool) → (a && (a && b)) ≡ (a && b)
    once true b = refl
    once false b = refl

-- A task comes in.

has_inserted : (goes : Task → Task → Bool) (u : Task) (us : List Task) (t : Task) → has_task t (inserted goes u us) ≡ (is_task t u || has_task t us)
has_inserted goes u [] t = refl
has_inserted goes u (v ∷ us) t =
    cond_both (goes u v) (u ∷ v ∷ us) (v ∷ inserted goes u us) (λ xs. has_task t xs ≡ (is_task t u || (is_task t v || has_task t us)))
    (λ _. refl) (λ _. ap (λ b. is_task t v || b) (has_inserted goes u us t) ∙ swap (is_task t v) (is_task t u) (has_task t us))
  where
    swap : (a b c : Bool) → (a || (b || c)) ≡ (b || (a || c))
    swap true true c = refl
    swap true false c = refl
    swap false b c = refl

after_inserted : (before : Task → Task → Bool) (t : Task) (goes : Task → Task → Bool) (u : Task) (us : List Task) →
    before t u ≡ true → AllAfter before t us → AllAfter before t (inserted goes u us)
after_inserted before t goes u [] h a = (h, tt)
after_inserted before t goes u (v ∷ us) h a =
    cond_both (goes u v) (u ∷ v ∷ us) (v ∷ inserted goes u us) (AllAfter before t) (λ _. (h, a)) (λ _. (a.0, after_inserted before t goes u us h a.1))

after_further : (before : Task → Task → Bool) → IsStrict before → (t u : Task) (us : List Task) → before t u ≡ true → AllAfter before u us → AllAfter before t us
after_further before s t u [] h a = tt
after_further before s t u (v ∷ us) h a = (s.transitive t u v h a.0, after_further before s t u us h a.1)

order_inserted : (before : Task → Task → Bool) → IsStrict before → (goes : Task → Task → Bool) (u : Task) (us : List Task) →
    ((t : Task) → In t us → goes u t ≡ true → before u t ≡ true) → ((t : Task) → In t us → goes u t ≡ false → before t u ≡ true) →
    IsInOrder before us → IsInOrder before (inserted goes u us)
order_inserted before s goes u [] first later a = (tt, tt)
order_inserted before s goes u (v ∷ us) first later a =
    cond_both (goes u v) (u ∷ v ∷ us) (v ∷ inserted goes u us) (IsInOrder before)
    (λ g. let h = first v (head_in v us) g in ((h, after_further before s u v us h a.0), a))
    (λ g. (after_inserted before v goes u us (later v (head_in v us) g) a.0, order_inserted before s goes u us (λ t i. first t (or_right _ _ i)) (λ t i. later t (or_right _ _ i)) a.1))

pub listing_in : (u : Task) (q : Task → Bool) (before : Task → Task → Bool) → IsStrict before → (goes : Task → Task → Bool) (us : List Task) → q u ≡ true →
    ((t : Task) → is_task t u ≡ false → q t ≡ true → goes u t ≡ true → before u t ≡ true) →
    ((t : Task) → is_task t u ≡ false → q t ≡ true → goes u t ≡ false → before t u ≡ true) →
    IsListOf (all_but u q) before us → IsListOf q before (inserted goes u us)
listing_in u q before s goes us mine first later l = record {
  members = λ t. has_inserted goes u us t ∙ ap (λ b. is_task t u || b) (l.members t) ∙ both t;
  ordered = order_inserted before s goes u us
      (λ t i. let o = but_other u q t (sym (l.members t) ∙ i) in first t o.0 o.1) (λ t i. let o = but_other u q t (sym (l.members t) ∙ i) in later t o.0 o.1) l.ordered;
}
  where
    both : (t : Task) → (is_task t u || all_but u q t) ≡ q t
    both t = ⊎_elim
        (λ (e : is_task t u ≡ true). rw e (sym (at_same (λ x. q x ≡ true) t u e mine)))
        (λ (e : is_task t u ≡ false). rw e refl) (cases_Bool (is_task t u))

-- The same tasks in the same order are one list.

after_at : (before : Task → Task → Bool) (t u : Task) (us : List Task) → AllAfter before t us → In u us → before t u ≡ true
after_at before t u [] a i = absurd (false≢true i)
after_at before t u (v ∷ us) a i =
    ⊎_elim (λ (e : is_task u v ≡ true). at_same (λ x. before t x ≡ true) u v e a.0) (λ e. after_at before t u us a.1 e) (or_cases (is_task u v) (has_task u us) i)

asymmetric : (before : Task → Task → Bool) → IsStrict before → (t u : Task) → before t u ≡ true → before u t ≡ true → ⊥
asymmetric before s t u a b = both_ways _ (s.irreflexive t) (s.transitive t u t a b)

not_after_itself : (before : Task → Task → Bool) → IsStrict before → (t : Task) (us : List Task) → AllAfter before t us → has_task t us ≡ false
not_after_itself before s t us a =
    ⊎_elim (λ (i : In t us). absurd (both_ways _ (s.irreflexive t) (after_at before t t us a i))) (λ i. i) (cases_Bool (has_task t us))

pub same_list : (before : Task → Task → Bool) → IsStrict before → (ts us : List Task) → IsInOrder before ts → IsInOrder before us →
    ((t : Task) → has_task t ts ≡ has_task t us) → ts ≡ us
same_list before s [] [] a b h = refl
same_list before s [] (u ∷ us) a b h = absurd (false≢true (h u ∙ head_in u us))
same_list before s (t ∷ ts) [] a b h = absurd (false≢true (sym (h t) ∙ head_in t ts))
same_list before s (t ∷ ts) (u ∷ us) a b h =
    ⊎_elim
    (λ (e : is_task t u ≡ true).
    let is : t ≡ u = tasks_same t u (eqb-true t.number u.number e) in
    let rest : ts ≡ us = same_list before s ts us a.1 b.1 (λ v. ⊎_elim
    (λ (g : is_task v t ≡ true).
    at_same (λ x. has_task x ts ≡ false) v t g (not_after_itself before s t ts a.0)
    ∙ sym (at_same (λ x. has_task x us ≡ false) v u (subst (λ x. is_task v x ≡ true) is g) (not_after_itself before s u us b.0)))
    (λ (g : is_task v t ≡ false).
    sym (ap (λ x. x || has_task v ts) g) ∙ h v ∙ ap (λ x. x || has_task v us) (subst (λ x. is_task v x ≡ false) is g))
    (cases_Bool (is_task v t))) in
    ap (λ x. x ∷ ts) is ∙ ap (λ xs. u ∷ xs) rest)
    (λ (e : is_task t u ≡ false).
    let later : In u ts = sym (ap (λ x. x || has_task u ts) (swapped t u e)) ∙ h u ∙ head_in u us in
    let earlier : In t us = sym (ap (λ x. x || has_task t us) e) ∙ sym (h t) ∙ head_in t ts in
    absurd (asymmetric before s t u (after_at before t u ts a.0 later) (after_at before u t us b.0 earlier)))
    (cases_Bool (is_task t u))

-- The model's list.

abbrev pub up_to : ℕ → (Task → Bool) → Task → Bool
up_to n q t = nat_le t.number n && q t

up_to_parts : (n : ℕ) (q : Task → Bool) (t : Task) → up_to n q t ≡ true → (t.number ≤ n) × (q t ≡ true)
up_to_parts n q t e = let p = and_parts (nat_le t.number n) (q t) e in (leb-true t.number n p.0, p.1)

up_to_true : (n : ℕ) (q : Task → Bool) (t : Task) → t.number ≤ n → q t ≡ true → up_to n q t ≡ true
up_to_true n q t l e = and_from _ _ (le-leb t.number n l) e

up_to_past : (n : ℕ) (q : Task → Bool) (t : Task) → n < t.number → up_to n q t ≡ false
up_to_past n q t l = ap (λ b. b && q t) (lt-leb t.number n l)

up_to_at : (n : ℕ) (q : Task → Bool) (t : Task) → t.number ≤ n → up_to n q t ≡ q t
up_to_at n q t l = ap (λ b. b && q t) (le-leb t.number n l)

less_more : (n m : ℕ) → (m ≡ suc n → ⊥) → nat_le m n ≡ nat_le m (suc n)
less_more n m d = ⊎_elim
    (λ (l : n < m). lt-leb m n l ∙ sym (lt-leb m (suc n) (omega (arith, l, d))))
    (λ (l : m ≤ n). le-leb m n l ∙ sym (le-leb m (suc n) (omega (arith, l)))) (cases_lt n m)

module _ (q : Task → Bool) (before : Task → Task → Bool) (s : IsStrict before) (total : IsTotal q before) where
  one_more : (n : ℕ) (t : Task) → t.number ≡ suc n → (b : Bool) → q t ≡ b → (us : List Task) →
      IsListOf (up_to n q) before us → IsListOf (up_to (suc n) q) before (inserted_if b before t us)
  one_more n t e false none us l = listing_same same l
    where
      same : (u : Task) → up_to n q u ≡ up_to (suc n) q u
      same u = ⊎_elim
          (λ (g : u.number ≡ suc n).
          up_to_past n q u (omega (arith, g)) ∙ sym (up_to_at (suc n) q u (omega (arith, g)) ∙ ap q (tasks_same u t (g ∙ sym e)) ∙ none))
          (λ (g : u.number ≡ suc n → ⊥). ap (λ b. b && q u) (less_more n u.number g)) (cases_eq u.number (suc n))
  one_more n t e true mine us l =
      listing_in t (up_to (suc n) q) before s before us (up_to_true (suc n) q t (omega (arith, e)) mine)
      (λ u d m g. g)
      (λ u d m g. total t u mine (up_to_parts (suc n) q u m).1 (swapped u t d) g)
      (listing_same same l)
    where
      same : (u : Task) → up_to n q u ≡ all_but t (up_to (suc n) q) u
      same u = ⊎_elim
          (λ (g : is_task u t ≡ true). rw g (up_to_past n q u (let h = eqb-true u.number t.number g in omega (arith, h, e))))
          (λ (g : is_task u t ≡ false). rw g (ap (λ b. b && q u) (less_more n u.number (λ h. eqb-false u.number t.number g (h ∙ sym e))))) (cases_Bool (is_task u t))

  pub in_order_is : (n : ℕ) → n ≤ 64 → IsListOf (up_to n q) before (in_order q before n)
  in_order_is zero h = record { members = λ t. sym (up_to_past 0 q t (let l = t.least in omega (arith, l))); ordered = tt }
  in_order_is (suc n) h =
      let number : within 64 (suc n) ≡ suc n = omega (arith, h) in
      one_more n (as_task (suc n)) number (q (as_task (suc n))) refl (in_order q before n) (in_order_is n (omega (arith, h)))

  -- a list of those that qualify, in order, is the model's
  pub same_order : (n : ℕ) (us : List Task) → n ≤ 64 → ((t : Task) → q t ≡ true → t.number ≤ n) → IsListOf q before us → us ≡ in_order q before n
  same_order n us h few l =
      let model = in_order_is n h in
      same_list before s us (in_order q before n) l.ordered model.ordered (λ t. l.members t ∙ sym (model.members t ∙ within_few t))
    where
      within_few : (t : Task) → up_to n q t ≡ q t
      within_few t = ⊎_elim (λ (e : q t ≡ true). up_to_true n q t (few t e) e ∙ sym e) (λ (e : q t ≡ false). and_right _ _ e ∙ sym e) (cases_Bool (q t))

-- One list after another.

after_append : (before : Task → Task → Bool) (t : Task) (us vs : List Task) →
    AllAfter before t us → ((v : Task) → In v vs → before t v ≡ true) → AllAfter before t (us ++ vs)
after_append before t [] [] a h = tt
after_append before t [] (v ∷ vs) a h = (h v (head_in v vs), after_append before t [] vs tt (λ x i. h x (or_right _ _ i)))
after_append before t (u ∷ us) vs a h = (a.0, after_append before t us vs a.1 h)

order_append : (before : Task → Task → Bool) (us vs : List Task) → ((u v : Task) → In u us → In v vs → before u v ≡ true) →
    IsInOrder before us → IsInOrder before vs → IsInOrder before (us ++ vs)
order_append before [] vs h a b = b
order_append before (u ∷ us) vs h a b =
    (after_append before u us vs a.0 (λ v i. h u v (head_in u us) i), order_append before us vs (λ x v i j. h x v (or_right _ _ i) j) a.1 b)

pub listing_append : (p q : Task → Bool) (before : Task → Task → Bool) (us vs : List Task) → ((u v : Task) → p u ≡ true → q v ≡ true → before u v ≡ true) →
    IsListOf p before us → IsListOf q before vs → IsListOf (λ t. p t || q t) before (us ++ vs)
listing_append p q before us vs h l m = record {
  members = λ t. list_any-append (is_task t) us vs ∙ ap (λ b. b || has_task t vs) (l.members t) ∙ ap (λ b. p t || b) (m.members t);
  ordered = order_append before us vs (λ u v i j. h u v (sym (l.members u) ∙ i) (sym (m.members v) ∙ j)) l.ordered m.ordered;
}

inserted_last : (t : Task) (us : List Task) → inserted (λ u v. false) t us ≡ us ++ t ∷ []
inserted_last t [] = refl
inserted_last t (u ∷ us) = ap (λ xs. u ∷ xs) (inserted_last t us)

-- a task goes last that comes after all others
pub listing_last : (u : Task) (q : Task → Bool) (before : Task → Task → Bool) → IsStrict before → (us : List Task) → q u ≡ true →
    ((t : Task) → is_task t u ≡ false → q t ≡ true → before t u ≡ true) → IsListOf (all_but u q) before us → IsListOf q before (us ++ u ∷ [])
listing_last u q before s us mine later l =
    subst (IsListOf q before) (inserted_last u us) (listing_in u q before s (λ t v. false) us mine (λ t d m g. absurd (false≢true g)) (λ t d m g. later t d m) l)

-- A list in an order has each of its tasks once.

-- what all others come after stands not among them
not_after : {before : Task → Task → Bool} → IsStrict before → (t u : Task) (us : List Task) → is_task t u ≡ true → AllAfter before u us → times t us ≡ 0
not_after s t u [] e a = refl
not_after {before} s t u (v ∷ us) e a =
    ⊎_elim
    (λ (same : is_task t v ≡ true).
    let itself_first : before u u ≡ true = at_same (λ x. before u x ≡ true) u v (at_same (λ x. is_task x v ≡ true) u t (swapped_true t u e) same) a.0 in
    absurd (both_ways _ (s.irreflexive u) itself_first))
    (λ (other : is_task t v ≡ false). times_head_no t v us other ∙ not_after s t u us e a.1)
    (cases_Bool (is_task t v))

once : {before : Task → Task → Bool} → IsStrict before → (t : Task) (us : List Task) → IsInOrder before us → StandsOnceIf (has_task t us) t us
once s t [] a = refl
once s t (u ∷ us) a =
    ⊎_elim
    (λ (same : is_task t u ≡ true).
    times_head_yes t u us same ∙ ap (λ n. 1 + n) (not_after s t u us same a.0) ∙ ap (λ b. cond (b || has_task t us) 1 0) (sym same))
    (λ (other : is_task t u ≡ false). times_head_no t u us other ∙ once s t us a.1 ∙ ap (λ b. cond (b || has_task t us) 1 0) (sym other))
    (cases_Bool (is_task t u))

pub listed_once : {q : Task → Bool} {before : Task → Task → Bool} {us : List Task} → IsStrict before → IsListOf q before us → (t : Task) → StandsOnceIf (q t) t us
listed_once {q} {before} {us} s l t = subst (λ b. StandsOnceIf b t us) (l.members t) (once s t us l.ordered)
