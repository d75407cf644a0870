-- The least ticks left.
use Rattle.std.proofs.Common.{◌≡◌, ℕ, ◌+◌, ◌-◌, ◌<◌, ◌≤◌, ◌⊎◌, Bool, true, false, cond, Option, Some, None, List, length, get_or, refl, sym, ap, ◌∙◌, subst, arith, inl, inr, ⊎_elim}
use Rattle.std.specs.Prelude.{option_map, is_some}
use Rattle.std.proofs.lemmas.Bool.{cases_lt, cases_eq, lt-ltb, le-ltb, eq-eqb, ne_eqb}
use Rattle.fmp_codes.specs.declared.numbers.Proc.{Proc}
use Rattle.fmp_codes.specs.declared.numbers.Task.{Task}
use Rattle.fmp_kernel_parts.specs.Tasks.{has_task}
use Rattle.fmp_setup.specs.declared.setup.Timer.{Timer}
use Rattle.fmp_setup.specs.declared.setup.Timer.TheVariants as timer
use Rattle.fmp_rules.specs.declared.machine.TaskRecord.{TaskRecord}
use Rattle.fmp_rules.specs.declared.machine.Cyclic.{Cyclic}
use Rattle.fmp_rules.specs.declared.machine.Alarm.{Alarm}
use Rattle.fmp_rules.specs.Due.{HasLeft, AreLeft, IsLeast}
use Rattle.fmp_setup.specs.Setup.{counts_for}
use Rattle.fmp_rules.specs.World.{no_task}
use Rattle.fmp_time.specs.declared.item.Item.{Item}
use Rattle.fmp_time.specs.declared.item.Item.TheVariants.{Wait, Alarm as AlarmItem, Cyclic as CyclicItem}
use Rattle.fmp_time.specs.Left.{Left, ticks_of}
use Rattle.fmp_time.specs.Times.{Times, item_at, left_of, ticks_on, IsLeastOn, AreWaits}
use Rattle.fmp_time.proofs.Effects.{place-item_at}
use Rattle.fmp_kernel_assigned.specs.Assignments.{Assignments, assignments_of, lefts, blank_cyclic, blank_alarm, IsNextDue}
use Rattle.fmp_kernel_assigned.specs.Counting.{IsAt, AreAt, AreInStep, ticks_for, ticks_below, AreShown, lesser}
use Rattle.fmp_kernel_assigned.proofs.Falling.{counts_same}
use Rattle.fmp_kernel_assigned.proofs.Lefts.{lefts-at}

-- The least of numbers.

pub least_same : (P Q : ℕ → Type 0) → ((n : ℕ) → P n → Q n) → ((n : ℕ) → Q n → P n) → (o : Option ℕ) → IsLeast P o → IsLeast Q o
least_same P Q to from None h = λ n q. h n (from n q)
least_same P Q to from (Some n) h = (to n h.0, λ k q. h.1 k (from k q))

least_either : (P Q : ℕ → Type 0) (a b : Option ℕ) → IsLeast P a → IsLeast Q b → IsLeast (λ n. P n ⊎ Q n) (lesser a b)
least_either P Q None None f g = λ n h. ⊎_elim (f n) (g n) h
least_either P Q None (Some m) f g = (inr g.0, λ k h. ⊎_elim (λ (x : P k). absurd (f k x)) (g.1 k) h)
least_either P Q (Some n) None f g = (inl f.0, λ k h. ⊎_elim (f.1 k) (λ (y : Q k). absurd (g k y)) h)
least_either P Q (Some n) (Some m) f g = (
  ⊎_elim (λ (h : n < m). inl (subst P (omega (arith, h)) f.0)) (λ (h : m ≤ n). inr (subst Q (omega (arith, h)) g.0)) (cases_lt n m),
  λ k h. ⊎_elim (λ (x : P k). let low = f.1 k x in omega (arith, low)) (λ (y : Q k). let low = g.1 k y in omega (arith, low)) h,
)

-- where the same is shown of each item
shown_same : (f g : Option Left → Option ℕ) (m : Times) → ((l : Option Left) → f l ≡ g l) → (o : Option ℕ) → IsLeast (AreShown f m) o → IsLeast (AreShown g m) o
shown_same f g m same = least_same (AreShown f m) (AreShown g m) (λ n h. (h.0, sym (same (left_of m h.0)) ∙ h.1)) (λ n h. (h.0, same (left_of m h.0) ∙ h.1))

-- One processor after the other.

on_one : (m : Times) (p : Proc) (o : Option ℕ) → IsLeastOn m p o → IsLeast (AreShown (ticks_on p) m) o
on_one m p None h = λ n e. let bad : None ≡ Some n = sym (h e.0) ∙ e.1 in cc
on_one m p (Some n) h = (h.0, λ k e. h.1 e.0 k e.1)

none_below : (l : Option Left) (n : ℕ) → ticks_below 0 l ≡ Some n → ⊥
none_below None n e = cc
none_below (Some l) n e = let bad : None ≡ Some n = sym (ap (λ (b : Bool). cond b (Some l.ticks) None) (le-ltb (l.processor.number - 1) 0 (omega arith))) ∙ e in cc

pub least_none : (m : Times) → IsLeast (AreShown (ticks_below 0) m) None
least_none m = λ n h. none_below (left_of m h.0) n h.1

-- an item is on one of the first processors, or on the next one
module _ (i : ℕ) (p : Proc) (e : p.number ≡ i + 1) where
  parts : (l : Option Left) → ((ticks_below (i + 1) l ≡ ticks_below i l) × (ticks_on p l ≡ None)) ⊎ ((ticks_below (i + 1) l ≡ ticks_on p l) × (ticks_below i l ≡ None))
  parts None = inl (refl, refl)
  parts (Some l) =
      let low = l.processor.least in
      ⊎_elim (λ (f : l.processor.number ≡ p.number).
      inr (rw (le-ltb (l.processor.number - 1) i (omega (arith, e, f, low)), lt-ltb (l.processor.number - 1) (i + 1) (omega (arith, e, f, low)), eq-eqb l.processor.number p.number f) (refl, refl)))
      (λ (f : l.processor.number ≡ p.number → ⊥).
      ⊎_elim (λ (g : l.processor.number - 1 < i).
      inl (rw (lt-ltb (l.processor.number - 1) i g, lt-ltb (l.processor.number - 1) (i + 1) (omega (arith, g)), ne_eqb l.processor.number p.number f) (refl, refl)))
      (λ (g : i ≤ l.processor.number - 1).
      inl (rw (le-ltb (l.processor.number - 1) i g, le-ltb (l.processor.number - 1) (i + 1) (omega (arith, g, f, e, low)), ne_eqb l.processor.number p.number f) (refl, refl)))
      (cases_lt (l.processor.number - 1) i))
      (cases_eq l.processor.number p.number)

  merged : (m : Times) (n : ℕ) → AreShown (ticks_below i) m n ⊎ AreShown (ticks_on p) m n → AreShown (ticks_below (i + 1)) m n
  merged m n h = ⊎_elim
      (λ (g : AreShown (ticks_below i) m n). (g.0, ⊎_elim (λ f. f.0 ∙ g.1) (λ f. let bad : None ≡ Some n = sym f.1 ∙ g.1 in cc) (parts (left_of m g.0))))
      (λ (g : AreShown (ticks_on p) m n). (g.0, ⊎_elim (λ f. let bad : None ≡ Some n = sym f.1 ∙ g.1 in cc) (λ f. f.0 ∙ g.1) (parts (left_of m g.0))))
      h

  parted : (m : Times) (n : ℕ) → AreShown (ticks_below (i + 1)) m n → AreShown (ticks_below i) m n ⊎ AreShown (ticks_on p) m n
  parted m n g = ⊎_elim (λ f. inl (g.0, sym f.0 ∙ g.1)) (λ f. inr (g.0, sym f.0 ∙ g.1)) (parts (left_of m g.0))

  pub least_more : (m : Times) (a b : Option ℕ) → IsLeast (AreShown (ticks_below i) m) a → IsLeastOn m p b → IsLeast (AreShown (ticks_below (i + 1)) m) (lesser a b)
  least_more m a b f g =
      least_same (λ n. AreShown (ticks_below i) m n ⊎ AreShown (ticks_on p) m n) (AreShown (ticks_below (i + 1)) m) (merged m) (parted m) (lesser a b)
      (least_either (AreShown (ticks_below i) m) (AreShown (ticks_on p) m) a b f (on_one m p b g))

-- By the timer.

local_same : (p : Proc) (l : Option Left) → ticks_on p l ≡ ticks_for timer.Local p l
local_same p None = refl
local_same p (Some l) = refl

pub least_local : (m : Times) (p : Proc) (o : Option ℕ) → IsLeastOn m p o → IsLeast (AreShown (ticks_for timer.Local p) m) o
least_local m p o h = shown_same (ticks_on p) (ticks_for timer.Local p) m (local_same p) o (on_one m p o h)

master_same : (master p : Proc) → p.number ≡ master.number → (l : Option Left) → ticks_below 8 l ≡ ticks_for (timer.Global master) p l
master_same master p e None = refl
master_same master p e (Some l) =
    let high = l.processor.most in
    let low = l.processor.least in
    ap (λ (b : Bool). cond b (Some l.ticks) None) (lt-ltb (l.processor.number - 1) 8 (omega (arith, high, low)) ∙ sym (eq-eqb p.number master.number e))

pub least_master : (master p : Proc) → p.number ≡ master.number → (m : Times) (o : Option ℕ) → IsLeast (AreShown (ticks_below 8) m) o → IsLeast (AreShown (ticks_for (timer.Global master) p) m) o
least_master master p e m = shown_same (ticks_below 8) (ticks_for (timer.Global master) p) m (master_same master p e)

-- The items of a kind.

module _ (t : Timer) (p : Proc) (n : ℕ) where
  counted : (q : Proc) (l : Option Left) → IsAt q l → ticks_for t p l ≡ Some n → (counts_for t p q ≡ true) × (option_map ticks_of l ≡ Some n)
  counted q None h e = cc
  counted q (Some l) h e = by (counts_for t p l.processor) (counts_same t p q l.processor (sym h)) e
    where
      by : (b : Bool) → counts_for t p q ≡ b → cond b (Some l.ticks) None ≡ Some n → (counts_for t p q ≡ true) × (Some l.ticks ≡ Some n)
      by true f g = (f, g)
      by false f g = cc

  counting : (q : Proc) (l : Option Left) → IsAt q l → counts_for t p q ≡ true → option_map ticks_of l ≡ Some n → ticks_for t p l ≡ Some n
  counting q None h c e = cc
  counting q (Some l) h c e = ap (λ (b : Bool). cond b (Some l.ticks) None) (counts_same t p l.processor q h ∙ c) ∙ e

  some_left : (l : Option Left) → ticks_for t p l ≡ Some n → is_some l ≡ true
  some_left None e = cc
  some_left (Some l) e = refl

  nothing_left : (l : Option Left) → l ≡ None → ticks_for t p l ≡ Some n → ⊥
  nothing_left l e f = let bad : None ≡ Some n = sym (ap (ticks_for t p) e) ∙ f in cc

  module _ {X : Type 0} (assigned : X → Proc) (blank : X) (xs : List X) (m : Times) (place : ℕ) (at : AreAt assigned blank xs m.left place) where
    has_left : (i : ℕ) → i < length xs → ticks_for t p (get_or m.left (place + i) None) ≡ Some n → HasLeft (λ x. counts_for t p (assigned x)) blank xs (lefts m.left place (length xs)) n
    has_left i low e =
        let seen = counted (assigned (get_or xs i blank)) (get_or m.left (place + i) None) (at i low) e in
        (i, low, seen.0, lefts-at m.left place (length xs) i low ∙ seen.1)

    left_shown : place + length xs ≤ 128 → HasLeft (λ x. counts_for t p (assigned x)) blank xs (lefts m.left place (length xs)) n → AreShown (ticks_for t p) m n
    left_shown few h =
        let l = get_or m.left (place + h.0) None in (
          item_at (place + h.0),
          ap (λ (k : ℕ). ticks_for t p (get_or m.left k None)) (place-item_at (place + h.0) (omega (arith, few, h.1)))
              ∙ counting (assigned (get_or xs h.0 blank)) l (at h.0 h.1) h.2 (sym (lefts-at m.left place (length xs) h.0 h.1) ∙ h.3),
        )

-- All kinds.

module _ (t : Timer) (p : Proc) (tasks : List TaskRecord) (cyclics : List Cyclic) (alarms : List Alarm) (m : Times) (s : AreInStep tasks cyclics alarms m.left)
    (waits : AreWaits m) (known : (u : Task) → has_task u m.waits ≡ true → u.number ≤ length tasks) where
  all_left : (n : ℕ) → AreShown (ticks_for t p) m n → AreLeft t p tasks (lefts m.left 0 (length tasks)) cyclics (lefts m.left 96 (length cyclics)) alarms (lefts m.left 64 (length alarms)) n
  all_left n h = by h.0 h.1
    where
      by : (x : Item) → ticks_for t p (left_of m x) ≡ Some n → AreLeft t p tasks (lefts m.left 0 (length tasks)) cyclics (lefts m.left 96 (length cyclics)) alarms (lefts m.left 64 (length alarms)) n
      by (Wait u) e =
          let here = known u (waits u ∙ some_left t p n (left_of m (Wait u)) e) in
          let first = u.least in
          inl (has_left t p n (λ r. r.assigned) no_task tasks m 0 s.tasks_at (u.number - 1) (omega (arith, here, first))
          (ap (λ (k : ℕ). ticks_for t p (get_or m.left k None)) (omega arith) ∙ e))
      by (CyclicItem o) e =
          let last = o.most in
          ⊎_elim (λ (low : o.number - 1 < length cyclics). inr (inl (has_left t p n (λ c. c.assigned) blank_cyclic cyclics m 96 s.cyclics_at (o.number - 1) low e)))
          (λ (past : length cyclics ≤ o.number - 1). absurd (nothing_left t p n (left_of m (CyclicItem o)) (s.no_cyclics (96 + (o.number - 1)) (omega (arith, past)) (omega (arith, last))) e))
          (cases_lt (o.number - 1) (length cyclics))
      by (AlarmItem o) e =
          let last = o.most in
          ⊎_elim (λ (low : o.number - 1 < length alarms). inr (inr (has_left t p n (λ a. a.assigned) blank_alarm alarms m 64 s.alarms_at (o.number - 1) low e)))
          (λ (past : length alarms ≤ o.number - 1). absurd (nothing_left t p n (left_of m (AlarmItem o)) (s.no_alarms (64 + (o.number - 1)) (omega (arith, past)) (omega (arith, last))) e))
          (cases_lt (o.number - 1) (length alarms))

  left_all : (n : ℕ) → AreLeft t p tasks (lefts m.left 0 (length tasks)) cyclics (lefts m.left 96 (length cyclics)) alarms (lefts m.left 64 (length alarms)) n → AreShown (ticks_for t p) m n
  left_all n h = ⊎_elim (left_shown t p n (λ r. r.assigned) no_task tasks m 0 s.tasks_at (omega (arith, s.few_tasks)))
      (λ g. ⊎_elim (left_shown t p n (λ c. c.assigned) blank_cyclic cyclics m 96 s.cyclics_at (omega (arith, s.few_cyclics)))
      (left_shown t p n (λ a. a.assigned) blank_alarm alarms m 64 s.alarms_at (omega (arith, s.few_alarms))) g) h

  pub least_left : (o : Option ℕ) → IsLeast (AreShown (ticks_for t p) m) o → IsNextDue (assignments_of t tasks cyclics alarms m) p o
  least_left = least_same _ _ all_left left_all

-- under a global timer nothing counts for another processor than the master
pub none_counts : (master p : Proc) → (p.number ≡ master.number → ⊥) → (a : Assignments) → a.timer ≡ timer.Global master → IsNextDue a p None
none_counts master p e a is = λ n h. ⊎_elim (λ f. no _ f.2) (λ g. ⊎_elim (λ f. no _ f.2) (λ f. no _ f.2) g) h
  where
    no : (q : Proc) → counts_for a.timer p q ≡ true → ⊥
    no q f = let bad : true ≡ false = sym f ∙ ap (λ (t : Timer). counts_for t p q) is ∙ ne_eqb p.number master.number e in cc
