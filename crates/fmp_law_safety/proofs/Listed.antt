-- The lists of the model have the tasks of which the records say so.
use Rattle.std.proofs.Common.{◌≡◌, ℕ, zero, suc, ◌+◌, ◌-◌, ◌<◌, ◌≤◌, ◌⊎◌, inl, inr, Bool, true, false, List, [], ◌∷◌, length, refl, sym, subst, arith, Option, None, ⊎_elim}
use Rattle.std.specs.Prelude.{is_some}
use Rattle.std.proofs.Math.Logic.{⊎_map}
use Rattle.std.proofs.lemmas.Bool.{cases_eq, cases_lt, cond_both, both_ways}
use Rattle.std.proofs.lemmas.List.{get_or_past}
use Rattle.fmp_codes.specs.Numbers.{as_task}
use Rattle.fmp_codes.specs.declared.numbers.Task.{Task}
use Rattle.fmp_codes.specs.declared.numbers.Object.{Object}
use Rattle.fmp_rules.specs.declared.machine.TaskRecord.{TaskRecord}
use Rattle.fmp_rules.specs.declared.machine.QueueKind.{QueueKind}
use Rattle.fmp_rules.specs.World.{no_task, item}
use Rattle.fmp_rules.specs.Ordering.{waits_in, order_in}
use Rattle.fmp_rules.specs.Arrivals.{State, numbered, inserted, inserted_if, in_order, comes_before, rank_in}
use Rattle.fmp_law_safety.proofs.First.{as_task_same}
use Rattle.fmp_law_safety.proofs.Queues.{IsAmong, Lists}

module _ (qualifies : Task → Bool) (before : Task → Task → Bool) where
  inserted_has : (u : Task) (ts : List Task) → IsAmong u (inserted before u ts)
  inserted_has u [] = inl refl
  inserted_has u (t ∷ ts) = cond_both (before u t) (u ∷ t ∷ ts) (t ∷ inserted before u ts) (IsAmong u) (λ _. inl refl) (λ _. inr (inserted_has u ts))

  inserted_keeps : (u t : Task) (ts : List Task) → IsAmong t ts → IsAmong t (inserted before u ts)
  inserted_keeps u t [] i = absurd i
  inserted_keeps u t (v ∷ ts) (inl e) = cond_both (before u v) (u ∷ v ∷ ts) (v ∷ inserted before u ts) (IsAmong t) (λ _. inr (inl e)) (λ _. inl e)
  inserted_keeps u t (v ∷ ts) (inr i) = cond_both (before u v) (u ∷ v ∷ ts) (v ∷ inserted before u ts) (IsAmong t) (λ _. inr (inr i)) (λ _. inr (inserted_keeps u t ts i))

  inserted_only : (u t : Task) (ts : List Task) → IsAmong t (inserted before u ts) → (u ≡ t) ⊎ IsAmong t ts
  inserted_only u t [] i = i
  inserted_only u t (v ∷ ts) i =
      cond_both (before u v) (u ∷ v ∷ ts) (v ∷ inserted before u ts) (λ (xs : List Task). IsAmong t xs → (u ≡ t) ⊎ IsAmong t (v ∷ ts)) (λ _ j. j)
      (λ _. ⊎_elim (λ e. inr (inl e)) (λ j. ⊎_map (λ e. e) (λ l. inr l) (inserted_only u t ts j))) i

  inserted_length : (u : Task) (ts : List Task) → length (inserted before u ts) ≤ length ts + 1
  inserted_length u [] = omega arith
  inserted_length u (t ∷ ts) =
      let rest : length (inserted before u ts) ≤ length ts + 1 = inserted_length u ts in
      cond_both (before u t) (u ∷ t ∷ ts) (t ∷ inserted before u ts) (λ (xs : List Task). length xs ≤ length (t ∷ ts) + 1) (λ _. omega arith) (λ _. omega (arith, rest))

  -- one task more
  module _ (n : ℕ) where
    abbrev new : Task
    new = as_task (suc n)

    abbrev with_new : Bool → List Task
    with_new b = inserted_if b before new (in_order qualifies before n)

    more_has : (t : Task) → t.number ≤ suc n → qualifies t ≡ true → (t.number ≤ n → IsAmong t (in_order qualifies before n)) → (b : Bool) → qualifies new ≡ b → IsAmong t (with_new b)
    more_has t h e old true q =
        ⊎_elim (λ (i : t.number ≡ suc n). subst (λ (u : Task). IsAmong u (with_new true)) (as_task_same t (suc n) i) (inserted_has new (in_order qualifies before n)))
        (λ (d : t.number ≡ suc n → ⊥). inserted_keeps new t (in_order qualifies before n) (old (omega (arith, h, d)))) (cases_eq t.number (suc n))
    more_has t h e old false q =
        ⊎_elim (λ (i : t.number ≡ suc n). absurd (both_ways _ q (subst (λ (u : Task). qualifies u ≡ true) (sym (as_task_same t (suc n) i)) e)))
        (λ (d : t.number ≡ suc n → ⊥). old (omega (arith, h, d))) (cases_eq t.number (suc n))

    more_only : (t : Task) → (IsAmong t (in_order qualifies before n) → (qualifies t ≡ true) × (t.number ≤ n)) → (b : Bool) → qualifies new ≡ b → IsAmong t (with_new b) →
        (qualifies t ≡ true) × (t.number ≤ suc n)
    more_only t old true q i =
        ⊎_elim (λ (e : new ≡ t). (subst (λ (u : Task). qualifies u ≡ true) e q, subst (λ (u : Task). u.number ≤ suc n) e (omega arith)))
        (λ j. let before_it = old j in let most = before_it.1 in (before_it.0, omega (arith, most))) (inserted_only new t (in_order qualifies before n) i)
    more_only t old false q i = let before_it = old i in let most = before_it.1 in (before_it.0, omega (arith, most))

    more_few : length (in_order qualifies before n) ≤ n → (b : Bool) → length (with_new b) ≤ suc n
    more_few old true = omega (arith, old, inserted_length new (in_order qualifies before n))
    more_few old false = omega (arith, old)

  -- all that qualify are in their order, and no others
  has_all : (n : ℕ) (t : Task) → t.number ≤ n → qualifies t ≡ true → IsAmong t (in_order qualifies before n)
  has_all zero t h e = absurd (omega (arith, h, t.least))
  has_all (suc n) t h e = more_has n t h e (λ l. has_all n t l e) (qualifies (as_task (suc n))) refl

  has_only : (n : ℕ) (t : Task) → IsAmong t (in_order qualifies before n) → (qualifies t ≡ true) × (t.number ≤ n)
  has_only zero t i = absurd i
  has_only (suc n) t i = more_only n t (has_only n t) (qualifies (as_task (suc n))) refl i

  has_few : (n : ℕ) → length (in_order qualifies before n) ≤ n
  has_few zero = omega arith
  has_few (suc n) = more_few n (has_few n) (qualifies (as_task (suc n)))

-- a number of an item that is not blank is one of the list's
pub not_past : {X : Type 0} (test : X → Bool) (blank : X) (xs : List X) (n : ℕ) → 1 ≤ n → test blank ≡ false → test (item blank xs n) ≡ true → n ≤ length xs
not_past test blank xs n least none e =
    ⊎_elim (λ (h : n - 1 < length xs). omega (arith, h))
    (λ (h : length xs ≤ n - 1). absurd (both_ways _ none (subst (λ x. test x ≡ true) (get_or_past xs (n - 1) blank h) e))) (cases_lt (n - 1) (length xs))

nobody_there : (x : QueueKind) (o : Object) → waits_in x o no_task.wait ≡ false
nobody_there x o = refl

pub numbered_lists : (m : State) → Lists numbered m
unfolding numbered
numbered_lists m = record {
  waiting = λ x o t e.
      has_all (λ u. waits_in x o (item no_task m.tasks u.number).wait) (comes_before (rank_in (order_in m x o) m.tasks) m.order.begun) (length m.tasks) t
      (not_past (λ (r : TaskRecord). waits_in x o r.wait) no_task m.tasks t.number t.least (nobody_there x o) e) e;
  only_waiting = λ x o t i. (has_only (λ u. waits_in x o (item no_task m.tasks u.number).wait) (comes_before (rank_in (order_in m x o) m.tasks) m.order.begun) (length m.tasks) t i).0;
  few_waiting = λ x o. has_few (λ u. waits_in x o (item no_task m.tasks u.number).wait) (comes_before (rank_in (order_in m x o) m.tasks) m.order.begun) (length m.tasks);
  timed = λ t e.
      has_all (λ u. is_some (item None m.waits_left u.number)) (comes_before (λ u. 0) m.order.begun) (length m.waits_left) t
      (not_past (λ (o : Option ℕ). is_some o) None m.waits_left t.number t.least refl e) e;
  only_timed = λ t i. (has_only (λ u. is_some (item None m.waits_left u.number)) (comes_before (λ u. 0) m.order.begun) (length m.waits_left) t i).1;
  few_timed = has_few (λ u. is_some (item None m.waits_left u.number)) (comes_before (λ u. 0) m.order.begun) (length m.waits_left);
}
