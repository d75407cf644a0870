-- What is shown tells the timers.
use Rattle.std.proofs.Common.{◌≡◌, ℕ, ◌+◌, ◌-◌, ◌<◌, ◌≤◌, Bool, true, false, cond, Option, Some, None, List, length, get_or, refl, sym, ap, ◌∙◌, subst, arith, ⊎_elim}
use Rattle.std.specs.Prelude.{option_map, is_some}
use Rattle.std.proofs.lemmas.Bool.{cases_lt, lt-ltb, le-ltb}
use Rattle.std.proofs.lemmas.List.{ext_get_or, get_or_past}
use Rattle.fmp_codes.specs.declared.numbers.Proc.{Proc}
use Rattle.fmp_codes.proofs.Same.{processors_same}
use Rattle.fmp_kernel_parts.specs.Tasks.{task_at, has_task}
use Rattle.fmp_kernel_parts.proofs.Tasks.{number_at}
use Rattle.fmp_setup.specs.declared.setup.Timer.{Timer}
use Rattle.fmp_rules.specs.declared.machine.TaskRecord.{TaskRecord}
use Rattle.fmp_rules.specs.declared.machine.Cyclic.{Cyclic}
use Rattle.fmp_rules.specs.declared.machine.Alarm.{Alarm}
use Rattle.fmp_rules.specs.World.{no_task}
use Rattle.fmp_time.specs.Left.{Left, ticks_of}
use Rattle.fmp_time.specs.Shown.{table}
use Rattle.fmp_time.specs.Times.{Times, AreWaits, no_times}
use Rattle.fmp_time.specs.Words.{made_from, words_of}
use Rattle.fmp_time.proofs.Tables.{at-table, length-table}
use Rattle.fmp_kernel_assigned.specs.Assignments.{assignments_of, lefts, blank_cyclic, blank_alarm}
use Rattle.fmp_kernel_assigned.specs.Counting.{IsAt, IsUnseen, AreInStep}
use Rattle.fmp_kernel_assigned.specs.Telling.{left_with, left_at, wait_in, times_in, IsTold}
use Rattle.fmp_kernel_assigned.proofs.Lefts.{length-lefts, lefts-at}

abbrev the : Proc → ℕ → Option Left
the p n = Some (record { processor = p; ticks = n })

-- what is left is where it is assigned, with the ticks that show
left_is : (p : Proc) (l : Option Left) → IsAt p l → left_with p (option_map ticks_of l) ≡ l
left_is p None h = refl
left_is p (Some l) h = ap (λ (q : Proc). the q l.ticks) (processors_same p l.processor (sym h))

unseen_is : (l : Option Left) (b : Bool) → IsUnseen l → b ≡ is_some l → cond b (the no_task.assigned 0) None ≡ l
unseen_is None true h e = cc
unseen_is None false h e = refl
unseen_is (Some l) true h e = ap (λ (q : Proc). the q 0) (processors_same no_task.assigned l.processor (sym h.0)) ∙ ap (the l.processor) (sym h.1)
unseen_is (Some l) false h e = cc

module _ (timer : Timer) (tasks : List TaskRecord) (cyclics : List Cyclic) (alarms : List Alarm) (m : Times) (s : AreInStep tasks cyclics alarms m.left) (w : AreWaits m) where
  wait_is : (k : ℕ) → k < 64 → wait_in (assignments_of timer tasks cyclics alarms m) k ≡ get_or m.left k None
  wait_is k low = ⊎_elim
      (λ (h : k < length tasks).
      rw (lt-ltb k (length tasks) h)
      (ap (left_with (get_or tasks k no_task).assigned) (lefts-at m.left 0 (length tasks) k h ∙ ap (λ (i : ℕ). option_map ticks_of (get_or m.left i None)) (omega arith))
      ∙ left_is (get_or tasks k no_task).assigned (get_or m.left k None) (subst (λ (i : ℕ). IsAt (get_or tasks k no_task).assigned (get_or m.left i None)) (omega arith) (s.tasks_at k h))))
      (λ (h : length tasks ≤ k).
      let place : (task_at k).number - 1 ≡ k = omega (arith, number_at k low) in
      rw (le-ltb k (length tasks) h)
      (unseen_is (get_or m.left k None) (has_task (task_at k) m.waits) (s.no_tasks k h low) (w (task_at k) ∙ ap (λ (i : ℕ). is_some (get_or m.left i None)) place)))
      (cases_lt k (length tasks))

  alarm_is : (k : ℕ) → 64 ≤ k → k < 96 → left_with (get_or alarms (k - 64) blank_alarm).assigned (get_or (lefts m.left 64 (length alarms)) (k - 64) None) ≡ get_or m.left k None
  alarm_is k high low =
      let place : 64 + (k - 64) ≡ k = omega (arith, high) in
      ⊎_elim
      (λ (h : k - 64 < length alarms).
      ap (left_with (get_or alarms (k - 64) blank_alarm).assigned) (lefts-at m.left 64 (length alarms) (k - 64) h)
      ∙ left_is (get_or alarms (k - 64) blank_alarm).assigned (get_or m.left (64 + (k - 64)) None) (s.alarms_at (k - 64) h) ∙ ap (λ (i : ℕ). get_or m.left i None) place)
      (λ (h : length alarms ≤ k - 64).
      ap (left_with (get_or alarms (k - 64) blank_alarm).assigned) (get_or_past (lefts m.left 64 (length alarms)) (k - 64) None (omega (arith, h, length-lefts m.left 64 (length alarms))))
      ∙ sym (s.no_alarms k (omega (arith, h, high)) low))
      (cases_lt (k - 64) (length alarms))

  cyclic_is : (k : ℕ) → 96 ≤ k → k < 128 → left_with (get_or cyclics (k - 96) blank_cyclic).assigned (get_or (lefts m.left 96 (length cyclics)) (k - 96) None) ≡ get_or m.left k None
  cyclic_is k high low =
      let place : 96 + (k - 96) ≡ k = omega (arith, high) in
      ⊎_elim
      (λ (h : k - 96 < length cyclics).
      ap (left_with (get_or cyclics (k - 96) blank_cyclic).assigned) (lefts-at m.left 96 (length cyclics) (k - 96) h)
      ∙ left_is (get_or cyclics (k - 96) blank_cyclic).assigned (get_or m.left (96 + (k - 96)) None) (s.cyclics_at (k - 96) h) ∙ ap (λ (i : ℕ). get_or m.left i None) place)
      (λ (h : length cyclics ≤ k - 96).
      ap (left_with (get_or cyclics (k - 96) blank_cyclic).assigned) (get_or_past (lefts m.left 96 (length cyclics)) (k - 96) None (omega (arith, h, length-lefts m.left 96 (length cyclics))))
      ∙ sym (s.no_cyclics k (omega (arith, h, high)) low))
      (cases_lt (k - 96) (length cyclics))

  left_told : (k : ℕ) → k < 128 → left_at (assignments_of timer tasks cyclics alarms m) k ≡ get_or m.left k None
  left_told k low = ⊎_elim
      (λ (h : k < 64). rw (lt-ltb k 64 h) (wait_is k h))
      (λ (h : 64 ≤ k). ⊎_elim
      (λ (g : k < 96). rw (le-ltb k 64 h, lt-ltb k 96 g) (alarm_is k h g))
      (λ (g : 96 ≤ k). rw (le-ltb k 64 h, le-ltb k 96 g) (cyclic_is k g low))
      (cases_lt k 96))
      (cases_lt k 64)

  pub times_told : times_in (assignments_of timer tasks cyclics alarms m) ≡ m
  unfolding times_in
  times_told =
      let f = left_at (assignments_of timer tasks cyclics alarms m) in
      ap (λ (l : List (Option Left)). times l) (ext_get_or None (table f) m.left (length-table f ∙ sym s.all)
      (λ k h. let low : k < 128 = omega (arith, h, length-table f) in at-table f k None low ∙ left_told k low))
    where
      times : List (Option Left) → Times
      times l = record { left = l; waits = m.waits }

  -- what is shown tells all
  pub told : made_from no_times (words_of m) ≡ m → IsTold (assignments_of timer tasks cyclics alarms m)
  told back = record {
    all = ap (assignments_of timer tasks cyclics alarms) times_told;
    step = subst (λ (n : Times). AreInStep tasks cyclics alarms n.left) (sym times_told) s;
    back = subst (λ (n : Times). made_from no_times (words_of n) ≡ n) (sym times_told) back;
  }

-- where the same is shown the timers are the same
pub times_same : (t u : Timer) (ts us : List TaskRecord) (cs ds : List Cyclic) (xs ys : List Alarm) (m n : Times) → AreInStep ts cs xs m.left → AreInStep us ds ys n.left → AreWaits m → AreWaits n →
    assignments_of t ts cs xs m ≡ assignments_of u us ds ys n → m ≡ n
times_same t u ts us cs ds xs ys m n s r w v e = sym (times_told t ts cs xs m s w) ∙ ap times_in e ∙ times_told u us ds ys n r v
