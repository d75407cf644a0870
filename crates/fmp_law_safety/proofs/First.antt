-- The first of the tasks that qualify is the least of them.
use Rattle.std.proofs.Common.{◌≡◌, ℕ, zero, suc, ◌<◌, ◌≤◌, ◌==◌, Bool, true, false, ◌||◌, ◌&&◌, List, [], ◌∷◌, length, refl, ◌∙◌, subst, arith, Option, Some, None, ⊎_elim, inl, inr}
use Rattle.std.specs.Prelude.{nat_lt, ◌⊎◌}
use Rattle.std.proofs.lemmas.Bool.{cases_eq, both_ways, cond_both, or_cases, or_left, or_right, or_from, and_parts, and_from, and_right, eqb-true, eq-eqb, ltb-true, lt-ltb, le-ltb, false_from_ne_true}
use Rattle.fmp_codes.specs.Numbers.{as_task, within}
use Rattle.fmp_codes.specs.declared.numbers.Proc.{Proc}
use Rattle.fmp_codes.specs.declared.numbers.Task.{Task}
use Rattle.fmp_codes.specs.declared.numbers.Object.{Object}
use Rattle.fmp_codes.proofs.Same.{tasks_same}
use Rattle.fmp_rules.specs.declared.machine.QueueKind.{QueueKind}
use Rattle.fmp_rules.specs.World.{item, first}
use Rattle.fmp_rules.specs.Ordering.{order_in, queue, top}
use Rattle.fmp_rules.specs.Arrivals.{State, numbered, inserted, inserted_if, in_order, comes_before, priority_in, is_ready_on, rank_in}
use Rattle.fmp_law_safety.specs.First.{IsStrict, IsFirst, waits_at}

pub as_task_same : (t : Task) (n : ℕ) → t.number ≡ n → as_task n ≡ t
as_task_same t n e = let number : within 64 n ≡ t.number = omega (arith, e, t.least, t.most) in tasks_same (as_task n) t number

module _ (qualifies : Task → Bool) (before : Task → Task → Bool) (s : IsStrict before) (n : ℕ) where
  abbrev new : Task
  new = as_task (suc n)

  -- a task up to suc n is the new one or one of the others
  one_more : (P : Task → Type 0) → ((u : Task) → u.number ≤ n → P u) → P new → (u : Task) → u.number ≤ suc n → P u
  one_more P others mine u h =
      ⊎_elim (λ (e : u.number ≡ suc n). subst P (as_task_same u (suc n) e) mine) (λ (d : u.number ≡ suc n → ⊥). others u (omega (arith, h, d))) (cases_eq u.number (suc n))

  new_within : new.number ≤ suc n
  new_within = omega arith

  left_out : qualifies new ≡ false → (o : Option Task) → IsFirst qualifies before n o → IsFirst qualifies before (suc n) o
  left_out fails None f = one_more (λ u. qualifies u ≡ false) f fails
  left_out fails (Some t) f =
      (omega (arith, f.0), f.1, one_more (λ u. qualifies u ≡ true → before u t ≡ false) f.2 (λ q. absurd (both_ways _ fails q)))

  taken_in : qualifies new ≡ true → (us : List Task) → IsFirst qualifies before n (first us) → IsFirst qualifies before (suc n) (first (inserted before new us))
  taken_in passes [] f =
      (new_within, passes, one_more (λ u. qualifies u ≡ true → before u new ≡ false) (λ u h q. absurd (both_ways _ (f u h) q)) (λ _. s.irreflexive new))
  taken_in passes (t ∷ us) f =
      cond_both (before new t) (new ∷ t ∷ us) (t ∷ inserted before new us) (λ (vs : List Task). IsFirst qualifies before (suc n) (first vs))
      (λ (e : before new t ≡ true). (
        new_within,
        passes,
        one_more (λ u. qualifies u ≡ true → before u new ≡ false)
            (λ u h q. false_from_ne_true _ (λ (g : before u new ≡ true). both_ways _ (f.2 u h q) (s.transitive u new t g e))) (λ _. s.irreflexive new),
      ))
      (λ (e : before new t ≡ false). (omega (arith, f.0), f.1, one_more (λ u. qualifies u ≡ true → before u t ≡ false) f.2 (λ _. e)))

  pub one_more_first : (us : List Task) (b : Bool) → qualifies new ≡ b → IsFirst qualifies before n (first us) → IsFirst qualifies before (suc n) (first (inserted_if b before new us))
  one_more_first us true e f = taken_in e us f
  one_more_first us false e f = left_out e (first us) f

pub first_is_least : (qualifies : Task → Bool) (before : Task → Task → Bool) (n : ℕ) → IsStrict before → IsFirst qualifies before n (first (in_order qualifies before n))
first_is_least qualifies before zero s = λ u h. absurd (omega (arith, h, u.least))
first_is_least qualifies before (suc n) s =
    one_more_first qualifies before s n (in_order qualifies before n) (qualifies (as_task (suc n))) refl (first_is_least qualifies before n s)

-- one pair comes before another
Precedes : ℕ → ℕ → ℕ → ℕ → Type 0
Precedes a x b y = (a < b) ⊎ ((a ≡ b) × (x < y))

parts : (a x b y : ℕ) → (nat_lt a b || (a == b && nat_lt x y)) ≡ true → Precedes a x b y
unfolding Precedes
parts a x b y e =
    ⊎_elim (λ (l : nat_lt a b ≡ true). inl (ltb-true a b l))
    (λ (r : (a == b && nat_lt x y) ≡ true). let both = and_parts (a == b) (nat_lt x y) r in inr (eqb-true a b both.0, ltb-true x y both.1))
    (or_cases (nat_lt a b) (a == b && nat_lt x y) e)

join : (a x b y : ℕ) → Precedes a x b y → (nat_lt a b || (a == b && nat_lt x y)) ≡ true
unfolding Precedes
join a x b y (inl l) = or_left _ _ (lt-ltb a b l)
join a x b y (inr r) = or_right _ _ (and_from _ _ (eq-eqb a b r.0) (lt-ltb x y r.1))

lt_trans : {x y z : ℕ} → x < y → y < z → x < z
lt_trans l m = omega (arith, l, m)

chain : (a x b y c z : ℕ) → Precedes a x b y → Precedes b y c z → Precedes a x c z
unfolding Precedes
chain a x b y c z (inl l) (inl m) = inl (omega (arith, l, m))
chain a x b y c z (inl l) (inr m) = let e = m.0 in inl (omega (arith, l, e))
chain a x b y c z (inr l) (inl m) = let e = l.0 in inl (omega (arith, m, e))
chain a x b y c z (inr l) (inr m) = inr (l.0 ∙ m.0, lt_trans l.1 m.1)

pub comes_before_is_strict : (rank : Task → ℕ) (ns : List ℕ) → IsStrict (comes_before rank ns)
comes_before_is_strict rank ns = record {
  irreflexive = λ t. or_from _ _ (le-ltb (rank t) (rank t) (omega arith)) (and_right _ _ (le-ltb (item 0 ns t.number) (item 0 ns t.number) (omega arith)));
  transitive = λ t u v e f.
      join (rank t) (item 0 ns t.number) (rank v) (item 0 ns v.number)
      (chain (rank t) (item 0 ns t.number) (rank u) (item 0 ns u.number) (rank v) (item 0 ns v.number) (parts _ _ _ _ e) (parts _ _ _ _ f));
}

pub top_is_first : (m : State) (p : Proc) → IsFirst (is_ready_on m.tasks p) (comes_before (priority_in m.tasks) m.order.ready) (length m.tasks) (top numbered m p)
unfolding numbered
top_is_first m p = first_is_least (is_ready_on m.tasks p) (comes_before (priority_in m.tasks) m.order.ready) (length m.tasks) (comes_before_is_strict (priority_in m.tasks) m.order.ready)

pub queue_is_first : (m : State) (x : QueueKind) (o : Object) →
    IsFirst (waits_at m x o) (comes_before (rank_in (order_in m x o) m.tasks) m.order.begun) (length m.tasks) (first (queue numbered m x o))
unfolding numbered
queue_is_first m x o = first_is_least (waits_at m x o) (comes_before (rank_in (order_in m x o) m.tasks) m.order.begun) (length m.tasks) (comes_before_is_strict (rank_in (order_in m x o) m.tasks) m.order.begun)
