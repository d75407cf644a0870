-- Whether anything has ticks left.
use Rattle.std.proofs.Common.{◌≡◌, ℕ, ◌+◌, ◌-◌, ◌<◌, ◌≤◌, ◌⊎◌, ◌&&◌, Bool, true, false, not, cond, Option, Some, None, List, [], ◌∷◌, suc, length, get_or, refl, sym, ap, ◌∙◌, arith, inl, inr, ⊎_elim}
use Rattle.std.specs.Prelude.{option_map, is_some, is_none}
use Rattle.std.specs.List.{list_all}
use Rattle.std.proofs.lemmas.Bool.{cases_lt, lt-ltb}
use Rattle.std.proofs.lemmas.List.Folds.{list_all_at}
use Rattle.fmp_codes.specs.declared.numbers.Task.{Task}
use Rattle.fmp_kernel_parts.specs.Tasks.{has_task}
use Rattle.fmp_rules.specs.declared.machine.TaskRecord.{TaskRecord}
use Rattle.fmp_rules.specs.declared.machine.Cyclic.{Cyclic}
use Rattle.fmp_rules.specs.declared.machine.Alarm.{Alarm}
use Rattle.fmp_rules.specs.Due.{IsLeast}
use Rattle.fmp_time.specs.declared.item.Item.{Item}
use Rattle.fmp_time.specs.declared.item.Item.TheVariants.{Wait, Alarm as AlarmItem, Cyclic as CyclicItem}
use Rattle.fmp_time.specs.Left.{Left, ticks_of}
use Rattle.fmp_time.specs.Times.{Times, item_at, left_of, AreWaits}
use Rattle.fmp_time.proofs.Effects.{place-item_at}
use Rattle.fmp_kernel_assigned.specs.Assignments.{lefts}
use Rattle.fmp_kernel_assigned.specs.Counting.{AreInStep, ticks_below, AreShown}
use Rattle.fmp_kernel_assigned.proofs.Lefts.{length-lefts, lefts-at}

-- Of lists.

all_none : (xs : List (Option ℕ)) → ((i : ℕ) → i < length xs → get_or xs i None ≡ None) → list_all is_none xs ≡ true
all_none [] h = refl
all_none (x ∷ xs) h = rw (h 0 (omega arith)) (all_none xs (λ i l. h (suc i) (omega (arith, l))))

no_ticks : (l : Option Left) → l ≡ None → option_map ticks_of l ≡ None
no_ticks l e = ap (option_map ticks_of) e

-- what is told of an option
pub none_is : (o : Option ℕ) (b : Bool) → is_some o ≡ not b → b ≡ is_none o
none_is None true e = refl
none_is None false e = cc
none_is (Some n) true e = cc
none_is (Some n) false e = refl

-- Of three tests.

all_three : (a b c : Bool) → a ≡ true → b ≡ true → c ≡ true → true ≡ (a && b && c)
all_three a b c e f g = rw (e, f, g) refl

not_three : (a b c : Bool) → (a ≡ false) ⊎ ((b ≡ false) ⊎ (c ≡ false)) → false ≡ (a && b && c)
not_three false b c h = refl
not_three true false c h = refl
not_three true true false h = refl
not_three true true true h = ⊎_elim (λ (e : true ≡ false). cc) (λ (g : (true ≡ false) ⊎ (true ≡ false)). ⊎_elim (λ (e : true ≡ false). cc) (λ (e : true ≡ false). cc) g) h

-- Of timers.

shown : (l : Left) → ticks_below 8 (Some l) ≡ Some l.ticks
shown l =
    let low = l.processor.least in
    let high = l.processor.most in
    ap (λ (b : Bool). cond b (Some l.ticks) None) (lt-ltb (l.processor.number - 1) 8 (omega (arith, low, high)))

some_shown : (l : Option Left) (n : ℕ) → ticks_below 8 l ≡ Some n → is_some l ≡ true
some_shown None n e = cc
some_shown (Some l) n e = refl

some_ticks : (l : Option Left) → is_some l ≡ true → is_none (option_map ticks_of l) ≡ false
some_ticks None e = cc
some_ticks (Some l) e = refl

not_there : (l : Option Left) → l ≡ None → is_some l ≡ true → ⊥
not_there l e f = let bad : false ≡ true = sym (ap is_some e) ∙ f in cc

module _ (tasks : List TaskRecord) (cyclics : List Cyclic) (alarms : List Alarm) (m : Times) (s : AreInStep tasks cyclics alarms m.left)
    (waits : AreWaits m) (known : (u : Task) → has_task u m.waits ≡ true → u.number ≤ length tasks) where
  nothing_left : IsLeast (AreShown (ticks_below 8) m) None → (k : ℕ) → k < 128 → get_or m.left k None ≡ None
  nothing_left h k low = ap (λ (i : ℕ). get_or m.left i None) (sym (place-item_at k low)) ∙ by (left_of m (item_at k)) refl
    where
      by : (l : Option Left) → left_of m (item_at k) ≡ l → left_of m (item_at k) ≡ None
      by None e = e
      by (Some l) e = absurd (h l.ticks (item_at k, ap (ticks_below 8) e ∙ shown l))

  none_among : IsLeast (AreShown (ticks_below 8) m) None → (place n : ℕ) → place + n ≤ 128 → list_all is_none (lefts m.left place n) ≡ true
  none_among h place n few =
      all_none (lefts m.left place n)
      (λ i l.
      let low : i < n = omega (arith, l, length-lefts m.left place n) in
      lefts-at m.left place n i low ∙ no_ticks (get_or m.left (place + i) None) (nothing_left h (place + i) (omega (arith, low, few))))

  some_among : (place n i : ℕ) → i < n → is_some (get_or m.left (place + i) None) ≡ true → list_all is_none (lefts m.left place n) ≡ false
  some_among place n i low e =
      list_all_at is_none (lefts m.left place n) i None (omega (arith, low, length-lefts m.left place n))
      (ap is_none (lefts-at m.left place n i low) ∙ some_ticks (get_or m.left (place + i) None) e)

  counting : (x : Item) → is_some (left_of m x) ≡ true →
      (list_all is_none (lefts m.left 0 (length tasks)) ≡ false)
      ⊎ ((list_all is_none (lefts m.left 96 (length cyclics)) ≡ false) ⊎ (list_all is_none (lefts m.left 64 (length alarms)) ≡ false))
  counting (Wait u) e =
      let here = known u (waits u ∙ e) in
      let first = u.least in
      inl (some_among 0 (length tasks) (u.number - 1) (omega (arith, here, first)) (ap (λ (k : ℕ). is_some (get_or m.left k None)) (omega arith) ∙ e))
  counting (CyclicItem o) e =
      let last = o.most in
      ⊎_elim (λ (low : o.number - 1 < length cyclics). inr (inl (some_among 96 (length cyclics) (o.number - 1) low e)))
      (λ (past : length cyclics ≤ o.number - 1). absurd (not_there (left_of m (CyclicItem o)) (s.no_cyclics (96 + (o.number - 1)) (omega (arith, past)) (omega (arith, last))) e))
      (cases_lt (o.number - 1) (length cyclics))
  counting (AlarmItem o) e =
      let last = o.most in
      ⊎_elim (λ (low : o.number - 1 < length alarms). inr (inr (some_among 64 (length alarms) (o.number - 1) low e)))
      (λ (past : length alarms ≤ o.number - 1). absurd (not_there (left_of m (AlarmItem o)) (s.no_alarms (64 + (o.number - 1)) (omega (arith, past)) (omega (arith, last))) e))
      (cases_lt (o.number - 1) (length alarms))

  -- the least ticks left are told where anything has some
  pub untimed : (o : Option ℕ) → IsLeast (AreShown (ticks_below 8) m) o →
      is_none o ≡ (list_all is_none (lefts m.left 0 (length tasks)) && list_all is_none (lefts m.left 96 (length cyclics)) && list_all is_none (lefts m.left 64 (length alarms)))
  untimed None h =
      let tasks_few = s.few_tasks in
      let cyclics_few = s.few_cyclics in
      let alarms_few = s.few_alarms in
      all_three _ _ _ (none_among h 0 (length tasks) (omega (arith, tasks_few))) (none_among h 96 (length cyclics) (omega (arith, cyclics_few))) (none_among h 64 (length alarms) (omega (arith, alarms_few)))
  untimed (Some n) h = let x = h.0.0 in not_three _ _ _ (counting x (some_shown (left_of m x) n h.0.1))
