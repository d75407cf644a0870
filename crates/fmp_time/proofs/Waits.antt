-- The waits stay those that have ticks left.
use Rattle.std.proofs.Common.{◌≡◌, ℕ, ◌+◌, ◌-◌, ◌==◌, Bool, true, false, not, ◌||◌, ◌&&◌, cond, Option, Some, None, List, [], ◌∷◌, ◌++◌, length, set, refl, sym, ap, ◌∙◌, arith, ⊎_elim}
use Rattle.std.specs.Prelude.{is_some, slice_index_or}
use Rattle.std.proofs.lemmas.Bool.{cases_eq, eq-eqb, ne_eqb}
use Rattle.std.proofs.lemmas.List.{get_or-set_same, get_or-set_other, get_or-map, get_or-replicate}
use Rattle.fmp_codes.specs.declared.numbers.Proc.{Proc}
use Rattle.fmp_codes.specs.declared.numbers.Task.{Task}
use Rattle.fmp_kernel_parts.specs.Tasks.{has_task, without}
use Rattle.fmp_kernel_parts.proofs.Tasks.{has_task-append, has_task-filter}
use Rattle.fmp_time.specs.declared.item.Item.{Item}
use Rattle.fmp_time.specs.declared.item.Item.TheVariants.{Wait, Alarm, Cyclic}
use Rattle.fmp_time.specs.Left.{Left}
use Rattle.fmp_time.specs.Times.{Times, wait_of, left_of, began, armed, cancelled, moved, moved_to, is_due, lowered_on, lowered, counted_down, ticked, no_times, AreWaits}

has_ended : (t u : Task) (ts : List Task) → has_task t (without u ts) ≡ cond (t.number == u.number) false (has_task t ts)
has_ended t u ts = has_task-filter t (λ n. not (n == u.number)) ts
    ∙ elim (t.number == u.number) as (λ (b : Bool). (has_task t ts && not b) ≡ cond b false (has_task t ts)) [ true ↦ and_false (has_task t ts) | false ↦ and_true (has_task t ts) ]
  where
    and_false : (b : Bool) → (b && false) ≡ false
    and_false true = refl
    and_false false = refl

    and_true : (b : Bool) → (b && true) ≡ b
    and_true true = refl
    and_true false = refl

has_began : (t u : Task) (ts : List Task) → has_task t (without u ts ++ u ∷ []) ≡ cond (t.number == u.number) true (has_task t ts)
has_began t u ts = has_task-append t u (without u ts) ∙ ap (λ (b : Bool). b || (t.number == u.number)) (has_ended t u ts)
    ∙ elim (t.number == u.number) as (λ (b : Bool). (cond b false (has_task t ts) || b) ≡ cond b true (has_task t ts)) [ true ↦ refl | false ↦ or_false (has_task t ts) ]
  where
    or_false : (b : Bool) → (b || false) ≡ b
    or_false true = refl
    or_false false = refl

-- where another value is written for the wait of a task, or for a handler
set_wait : (left : List (Option Left)) (u t : Task) (v : Option Left) → length left ≡ 128 →
    slice_index_or (set left (u.number - 1) v) (t.number - 1) None ≡ cond (t.number == u.number) v (slice_index_or left (t.number - 1) None)
set_wait left u t v count =
    let low = u.least in
    let high = u.most in
    let least = t.least in
    ⊎_elim (λ (e : t.number ≡ u.number). rw (eq-eqb t.number u.number e)
    (ap (λ (n : ℕ). slice_index_or (set left (u.number - 1) v) (n - 1) None) e ∙ get_or-set_same left (u.number - 1) v None (omega (arith, low, high, count))))
    (λ (e : t.number ≡ u.number → ⊥). rw (ne_eqb t.number u.number e)
    (get_or-set_other left (u.number - 1) (t.number - 1) v None (λ (f : t.number - 1 ≡ u.number - 1). e (omega (arith, f, low, least)))))
    (cases_eq t.number u.number)

set_handler : (left : List (Option Left)) (k : ℕ) (t : Task) (v : Option Left) → slice_index_or (set left (64 + k) v) (t.number - 1) None ≡ slice_index_or left (t.number - 1) None
set_handler left k t v =
    let high = t.most in
    let low = t.least in
    get_or-set_other left (64 + k) (t.number - 1) v None (λ (f : t.number - 1 ≡ 64 + k). omega (arith, f, high, low))

set_later : (left : List (Option Left)) (k : ℕ) (t : Task) (v : Option Left) → slice_index_or (set left (96 + k) v) (t.number - 1) None ≡ slice_index_or left (t.number - 1) None
set_later left k t v =
    let high = t.most in
    let low = t.least in
    get_or-set_other left (96 + k) (t.number - 1) v None (λ (f : t.number - 1 ≡ 96 + k). omega (arith, f, high, low))

pub waits-armed : (m : Times) (p : Proc) (x : Item) (n : ℕ) → length m.left ≡ 128 → AreWaits m → AreWaits (armed m p x n)
waits-armed m p (Wait u) n count h t =
    has_began t u m.waits ∙ ap (cond (t.number == u.number) true) (h t)
    ∙ elim (t.number == u.number) as (λ (b : Bool). cond b true (is_some (left_of m (wait_of t))) ≡ is_some (cond b (Some (record { processor = p; ticks = n })) (left_of m (wait_of t)))) [ true ↦ refl | false ↦ refl ]
    ∙ sym (ap is_some (set_wait m.left u t (Some (record { processor = p; ticks = n })) count))
waits-armed m p (Alarm o) n count h t = h t ∙ sym (ap is_some (set_handler m.left (o.number - 1) t (Some (record { processor = p; ticks = n }))))
waits-armed m p (Cyclic o) n count h t = h t ∙ sym (ap is_some (set_later m.left (o.number - 1) t (Some (record { processor = p; ticks = n }))))

pub waits-cancelled : (m : Times) (x : Item) → length m.left ≡ 128 → AreWaits m → AreWaits (cancelled m x)
waits-cancelled m (Wait u) count h t =
    has_ended t u m.waits ∙ ap (cond (t.number == u.number) false) (h t)
    ∙ elim (t.number == u.number) as (λ (b : Bool). cond b false (is_some (left_of m (wait_of t))) ≡ is_some (cond b None (left_of m (wait_of t)))) [ true ↦ refl | false ↦ refl ]
    ∙ sym (ap is_some (set_wait m.left u t None count))
waits-cancelled m (Alarm o) count h t = h t ∙ sym (ap is_some (set_handler m.left (o.number - 1) t None))
waits-cancelled m (Cyclic o) count h t = h t ∙ sym (ap is_some (set_later m.left (o.number - 1) t None))

same_left : (m : Times) (t u : Task) → t.number ≡ u.number → left_of m (wait_of t) ≡ left_of m (wait_of u)
same_left m t u e = ap (λ (n : ℕ). slice_index_or m.left (n - 1) None) e

is_moved : (p : Proc) (l : Option Left) → is_some (moved p l) ≡ is_some l
is_moved p None = refl
is_moved p (Some l) = refl

pub waits-moved_to : (m : Times) (x : Item) (p : Proc) → length m.left ≡ 128 → AreWaits m → AreWaits (moved_to m x p)
waits-moved_to m (Wait u) p count h t =
    h t ∙ ⊎_elim (λ (e : t.number ≡ u.number). sym (ap (λ (b : Bool). is_some (cond b (moved p (left_of m (wait_of u))) (left_of m (wait_of t)))) (eq-eqb t.number u.number e)
    ∙ is_moved p (left_of m (wait_of u)) ∙ ap is_some (sym (same_left m t u e))))
    (λ (e : t.number ≡ u.number → ⊥). sym (ap (λ (b : Bool). is_some (cond b (moved p (left_of m (wait_of u))) (left_of m (wait_of t)))) (ne_eqb t.number u.number e)))
    (cases_eq t.number u.number)
    ∙ sym (ap is_some (set_wait m.left u t (moved p (left_of m (wait_of u))) count))
waits-moved_to m (Alarm o) p count h t = h t ∙ sym (ap is_some (set_handler m.left (o.number - 1) t (moved p (left_of m (Alarm o)))))
waits-moved_to m (Cyclic o) p count h t = h t ∙ sym (ap is_some (set_later m.left (o.number - 1) t (moved p (left_of m (Cyclic o)))))

-- a wait that counts begins anew
pub waits-began : (m : Times) (x : Item) → is_some (left_of m x) ≡ true → AreWaits m → AreWaits (record { left = m.left; waits = began x m.waits })
waits-began m (Wait u) e h t =
    has_began t u m.waits ∙ ⊎_elim (λ (f : t.number ≡ u.number). ap (λ (b : Bool). cond b true (has_task t m.waits)) (eq-eqb t.number u.number f) ∙ sym (ap is_some (same_left m t u f) ∙ e))
    (λ (f : t.number ≡ u.number → ⊥). ap (λ (b : Bool). cond b true (has_task t m.waits)) (ne_eqb t.number u.number f) ∙ h t)
    (cases_eq t.number u.number)
waits-began m (Alarm o) e h t = h t
waits-began m (Cyclic o) e h t = h t

goes_on : (p : Proc) (l : Option Left) → (is_some l && not (is_due p l)) ≡ is_some (counted_down p l)
goes_on p None = refl
goes_on p (Some l) =
    elim (is_due p (Some l)) as (λ (b : Bool). (true && not b) ≡ is_some (cond b None (lowered_on p (Some l)))) [
      | true ↦ refl
      | false ↦ elim (l.processor.number == p.number) as (λ (b : Bool). true ≡ is_some (cond b (Some (record { processor = l.processor; ticks = l.ticks - 1 })) (Some l))) [ true ↦ refl | false ↦ refl ]
    ]

pub waits-ticked : (m : Times) (p : Proc) → length m.left ≡ 128 → AreWaits m → AreWaits (ticked m p)
waits-ticked m p count h t =
    let high = t.most in
    let low = t.least in
    has_task-filter t (λ n. not (is_due p (slice_index_or m.left (n - 1) None))) m.waits
    ∙ ap (λ (b : Bool). b && not (is_due p (left_of m (wait_of t)))) (h t) ∙ goes_on p (left_of m (wait_of t))
    ∙ sym (ap is_some (get_or-map (counted_down p) m.left (t.number - 1) None None (omega (arith, high, low, count))))

still_counts : (p : Proc) (l : Option Left) → is_some l ≡ is_some (lowered_on p l)
still_counts p None = refl
still_counts p (Some l) = elim (l.processor.number == p.number) as (λ (b : Bool). true ≡ is_some (cond b (Some (record { processor = l.processor; ticks = l.ticks - 1 })) (Some l))) [ true ↦ refl | false ↦ refl ]

pub waits-lowered : (m : Times) (p : Proc) → length m.left ≡ 128 → AreWaits m → AreWaits (lowered m p)
waits-lowered m p count h t =
    let high = t.most in
    let low = t.least in
    h t ∙ still_counts p (left_of m (wait_of t)) ∙ sym (ap is_some (get_or-map (lowered_on p) m.left (t.number - 1) None None (omega (arith, high, low, count))))

pub waits-none : AreWaits no_times
waits-none t =
    let high = t.most in
    let low = t.least in
    sym (ap is_some (get_or-replicate 128 (t.number - 1) None None (omega (arith, high, low))))
