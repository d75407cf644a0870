-- What each change of the timers shows.
use Rattle.std.proofs.Common.{◌≡◌, ℕ, ◌+◌, ◌-◌, ◌<◌, ◌≤◌, ◌==◌, ◌++◌, ◌∷◌, [], Bool, true, false, cond, Option, Some, None, List, length, set, get_or, refl, sym, ap, ◌∙◌, subst, arith, ⊎_elim}
use Rattle.std.specs.Prelude.{option_map, is_some, IfSome}
use Rattle.std.proofs.lemmas.Bool.{cases_eq, eq-eqb, ne_eqb}
use Rattle.std.proofs.lemmas.List.{length-set, set-get_or, set_past, get_or_past}
use Rattle.fmp_codes.specs.declared.numbers.Proc.{Proc}
use Rattle.fmp_codes.specs.declared.numbers.Task.{Task}
use Rattle.fmp_codes.specs.declared.numbers.Object.{Object}
use Rattle.fmp_kernel_parts.specs.Tasks.{without}
use Rattle.fmp_kernel_parts.proofs.Tasks.{gone_from, without_lacking}
use Rattle.fmp_setup.specs.declared.setup.Timer.{Timer}
use Rattle.fmp_rules.specs.declared.machine.TaskRecord.{TaskRecord}
use Rattle.fmp_rules.specs.declared.machine.Cyclic.{Cyclic}
use Rattle.fmp_rules.specs.declared.machine.Alarm.{Alarm}
use Rattle.fmp_rules.specs.World.{item, with_item, no_task}
use Rattle.fmp_kernel_order.specs.Queues.{timed_by}
use Rattle.fmp_time.specs.declared.item.Item.TheVariants.{Wait, Alarm as AlarmItem, Cyclic as CyclicItem}
use Rattle.fmp_time.specs.Left.{Left, ticks_of}
use Rattle.fmp_time.specs.Times.{Times, left_of, moved, moved_to, cancelled, renewed}
use Rattle.fmp_kernel_assigned.specs.Assignments.{Assignments, assignments_of, lefts, blank_cyclic, blank_alarm, cyclic_in, alarm_in}
use Rattle.fmp_kernel_assigned.specs.Counting.{IsAt, NoneCounts, IsUnseen, AreInStep, followed, with_left, shown_left}
use Rattle.fmp_kernel_assigned.proofs.Lefts.{length-lefts, lefts-at, lefts-set, lefts-past, lefts-moved}
use Rattle.fmp_kernel_assigned.proofs.Standing.{at_same, at_moved, at-past, at-set, at-write, at-both, none-set, unseen-set}

-- assignments are the same where their lists are
pub made : (timer : Timer) (tasks : List TaskRecord) (cyclics : List Cyclic) (alarms : List Alarm) (w v c d a b : List (Option ℕ)) (t u : List Task) → w ≡ v → t ≡ u → c ≡ d → a ≡ b →
    ◌≡◌ {A = Assignments} (record { timer = timer; tasks = tasks; waits_left = w; timed = t; cyclics = cyclics; cyclics_left = c; alarms = alarms; alarms_left = a })
    (record { timer = timer; tasks = tasks; waits_left = v; timed = u; cyclics = cyclics; cyclics_left = d; alarms = alarms; alarms_left = b })
made timer tasks cyclics alarms w v c d a b t u e f g h =
    ap (λ (x : List (Option ℕ)). the x t c a) e ∙ ap (λ (x : List Task). the v x c a) f ∙ ap (λ (x : List (Option ℕ)). the v u x a) g ∙ ap (λ (x : List (Option ℕ)). the v u d x) h
  where
    the : List (Option ℕ) → List Task → List (Option ℕ) → List (Option ℕ) → Assignments
    the w t c a = record { timer = timer; tasks = tasks; waits_left = w; timed = t; cyclics = cyclics; cyclics_left = c; alarms = alarms; alarms_left = a }

module _ (timer : Timer) (tasks : List TaskRecord) (cyclics : List Cyclic) (alarms : List Alarm) (m : Times) (s : AreInStep tasks cyclics alarms m.left) where
  -- The wait of a task.

  apart-wait : (t : Task) (place i : ℕ) → 64 ≤ place → place + i ≡ t.number - 1 → ⊥
  apart-wait t place i h e =
      let high = t.most in
      let low = t.least in
      omega (arith, h, e, high, low)

  pub wait_in : (t : Task) → t.number - 1 < length m.left
  wait_in t =
      let high = t.most in
      let low = t.least in
      omega (arith, high, low, s.all)

  none-wait : (t : Task) (l : Option Left) (from to : ℕ) → 64 ≤ from → NoneCounts m.left from to → NoneCounts (set m.left (t.number - 1) l) from to
  none-wait t l from to h none =
      let high = t.most in
      let low = t.least in
      none-set m.left from to (t.number - 1) l none (λ f g. absurd (omega (arith, h, f, high, low)))

  pub wait_set : (t : Task) (l : Option Left) (w : List Task) → assignments_of timer tasks cyclics alarms (record { left = set m.left (t.number - 1) l; waits = w })
      ≡ record (assignments_of timer tasks cyclics alarms m) { waits_left = with_item (lefts m.left 0 (length tasks)) t.number (option_map ticks_of l); timed = w }
  wait_set t l w = made timer tasks cyclics alarms _ _ _ _ _ _ _ _
      (lefts-set m.left 0 (length tasks) (t.number - 1) (t.number - 1) l s.all (omega (arith, s.few_tasks)) (omega arith)) refl
      (lefts-past m.left 96 (length cyclics) (t.number - 1) l (λ i h e. apart-wait t 96 i (omega arith) e))
      (lefts-past m.left 64 (length alarms) (t.number - 1) l (λ i h e. apart-wait t 64 i (omega arith) e))

  pub wait_step : (t : Task) (l : Option Left) → IsAt (item no_task tasks t.number).assigned l → (length tasks ≤ t.number - 1 → IsUnseen l) → AreInStep tasks cyclics alarms (set m.left (t.number - 1) l)
  wait_step t l h unseen = record {
    tasks_at = at-set (λ r. r.assigned) no_task tasks m.left 0 s.tasks_at (t.number - 1) (t.number - 1) l (wait_in t) (omega arith) (λ low. h);
    cyclics_at = at-past (λ c. c.assigned) blank_cyclic cyclics m.left 96 s.cyclics_at (t.number - 1) l (λ i low e. apart-wait t 96 i (omega arith) e);
    alarms_at = at-past (λ a. a.assigned) blank_alarm alarms m.left 64 s.alarms_at (t.number - 1) l (λ i low e. apart-wait t 64 i (omega arith) e);
    no_tasks = unseen-set m.left (length tasks) 64 (t.number - 1) l s.no_tasks (λ past high. unseen past);
    no_cyclics = none-wait t l (96 + length cyclics) 128 (omega arith) s.no_cyclics;
    no_alarms = none-wait t l (64 + length alarms) 96 (omega arith) s.no_alarms;
    few_tasks = s.few_tasks;
    few_cyclics = s.few_cyclics;
    few_alarms = s.few_alarms;
    all = length-set m.left (t.number - 1) l ∙ s.all;
  }

  shown_same : (b : Bool) (t : Task) (left : Option ℕ) → (b ≡ false → length tasks ≤ t.number - 1) →
      with_item (lefts m.left 0 (length tasks)) t.number (shown_left b left) ≡ with_item (lefts m.left 0 (length tasks)) t.number left
  shown_same true t left h = refl
  shown_same false t left h =
      let past : length (lefts m.left 0 (length tasks)) ≤ t.number - 1 = omega (arith, h refl, length-lefts m.left 0 (length tasks)) in
      set_past (lefts m.left 0 (length tasks)) (t.number - 1) (shown_left false left) past ∙ sym (set_past (lefts m.left 0 (length tasks)) (t.number - 1) left past)

  shown_timed : (b : Bool) (t : Task) (left : Option ℕ) → timed_by (shown_left b left) t m.waits ≡ timed_by left t m.waits
  shown_timed true t left = refl
  shown_timed false t None = refl
  shown_timed false t (Some n) = refl

  set_is : (t : Task) (p : Proc) (left : Option ℕ) → assignments_of timer tasks cyclics alarms (with_left m p (Wait t) left)
      ≡ record (assignments_of timer tasks cyclics alarms m) { waits_left = with_item (lefts m.left 0 (length tasks)) t.number left; timed = timed_by left t m.waits }
  set_is t p None = wait_set t None (without t m.waits)
  set_is t p (Some n) = wait_set t (Some (record { processor = p; ticks = n })) (without t m.waits ++ t ∷ [])

  set_step : (t : Task) (p : Proc) (left : Option ℕ) → p ≡ (item no_task tasks t.number).assigned → (length tasks ≤ t.number - 1 → IfSome left (λ n. n ≡ 0)) →
      AreInStep tasks cyclics alarms (with_left m p (Wait t) left).left
  set_step t p None e none = wait_step t None tt (λ past. tt)
  set_step t p (Some n) e none = wait_step t (Some (record { processor = p; ticks = n })) (ap (λ (q : Proc). q.number) e)
      (λ past. (ap (λ (q : Proc). q.number) (e ∙ ap (λ (r : TaskRecord). r.assigned) (get_or_past tasks (t.number - 1) no_task past)), none past))

  none_shown : (left : Option ℕ) → IfSome (shown_left false left) (λ n. n ≡ 0)
  none_shown None = tt
  none_shown (Some n) = refl

  shown_none : (b : Bool) (t : Task) (left : Option ℕ) → (b ≡ true → t.number - 1 < length tasks) → length tasks ≤ t.number - 1 → IfSome (shown_left b left) (λ n. n ≡ 0)
  shown_none true t left h past = absurd (omega (arith, h refl, past))
  shown_none false t left h past = none_shown left

  pub begun : (t : Task) (p : Proc) (b : Bool) (left : Option ℕ) → (b ≡ false → length tasks ≤ t.number - 1) → assignments_of timer tasks cyclics alarms (with_left m p (Wait t) (shown_left b left))
      ≡ record (assignments_of timer tasks cyclics alarms m) { waits_left = with_item (lefts m.left 0 (length tasks)) t.number left; timed = timed_by left t m.waits }
  begun t p b left h = set_is t p (shown_left b left) ∙ made timer tasks cyclics alarms _ _ _ _ _ _ _ _ (shown_same b t left h) (shown_timed b t left) refl refl

  pub begun_step : (t : Task) (p : Proc) (b : Bool) (left : Option ℕ) → (b ≡ true → t.number - 1 < length tasks) → p ≡ (item no_task tasks t.number).assigned →
      AreInStep tasks cyclics alarms (with_left m p (Wait t) (shown_left b left)).left
  begun_step t p b left h e = set_step t p (shown_left b left) e (shown_none b t left h)

  -- A cyclic handler.

  apart-cyclic : (o : Object) (place i n : ℕ) → i < n → place + n ≤ 96 → place + i ≡ 96 + (o.number - 1) → ⊥
  apart-cyclic o place i n h few e = omega (arith, h, few, e)

  pub cyclic_in_left : (o : Object) → 96 + (o.number - 1) < length m.left
  cyclic_in_left o =
      let high = o.most in
      let low = o.least in
      omega (arith, high, low, s.all)

  pub cyclic_set : (o : Object) (l : Option Left) → assignments_of timer tasks cyclics alarms (record { left = set m.left (96 + (o.number - 1)) l; waits = m.waits })
      ≡ record (assignments_of timer tasks cyclics alarms m) { cyclics_left = with_item (lefts m.left 96 (length cyclics)) o.number (option_map ticks_of l) }
  cyclic_set o l = made timer tasks cyclics alarms _ _ _ _ _ _ _ _
      (lefts-past m.left 0 (length tasks) (96 + (o.number - 1)) l (λ i h e. apart-cyclic o 0 i (length tasks) h (omega (arith, s.few_tasks)) e)) refl
      (lefts-set m.left 96 (length cyclics) (o.number - 1) (96 + (o.number - 1)) l s.all (omega (arith, s.few_cyclics)) refl)
      (lefts-past m.left 64 (length alarms) (96 + (o.number - 1)) l (λ i h e. apart-cyclic o 64 i (length alarms) h (omega (arith, s.few_alarms)) e))

  pub cyclic_step : (o : Object) (l : Option Left) → o.number - 1 < length cyclics → IsAt (cyclic_in cyclics o).assigned l → AreInStep tasks cyclics alarms (set m.left (96 + (o.number - 1)) l)
  cyclic_step o l here h = record {
    tasks_at = at-past (λ r. r.assigned) no_task tasks m.left 0 s.tasks_at (96 + (o.number - 1)) l (λ i low e. apart-cyclic o 0 i (length tasks) low (omega (arith, s.few_tasks)) e);
    cyclics_at = at-set (λ c. c.assigned) blank_cyclic cyclics m.left 96 s.cyclics_at (96 + (o.number - 1)) (o.number - 1) l (cyclic_in_left o) refl (λ low. h);
    alarms_at = at-past (λ a. a.assigned) blank_alarm alarms m.left 64 s.alarms_at (96 + (o.number - 1)) l (λ i low e. apart-cyclic o 64 i (length alarms) low (omega (arith, s.few_alarms)) e);
    no_tasks = unseen-set m.left (length tasks) 64 (96 + (o.number - 1)) l s.no_tasks (λ f g. absurd (omega (arith, g)));
    no_cyclics = none-set m.left (96 + length cyclics) 128 (96 + (o.number - 1)) l s.no_cyclics (λ f g. absurd (omega (arith, f, here)));
    no_alarms = none-set m.left (64 + length alarms) 96 (96 + (o.number - 1)) l s.no_alarms (λ f g. absurd (omega (arith, g)));
    few_tasks = s.few_tasks;
    few_cyclics = s.few_cyclics;
    few_alarms = s.few_alarms;
    all = length-set m.left (96 + (o.number - 1)) l ∙ s.all;
  }

  pub cyclic_begun : (o : Object) (p : Proc) (left : Option ℕ) → assignments_of timer tasks cyclics alarms (with_left m p (CyclicItem o) left)
      ≡ record (assignments_of timer tasks cyclics alarms m) { cyclics_left = with_item (lefts m.left 96 (length cyclics)) o.number left }
  cyclic_begun o p None = cyclic_set o None
  cyclic_begun o p (Some n) = cyclic_set o (Some (record { processor = p; ticks = n }))

  -- where there is no such handler
  pub cyclic_past : (o : Object) (left : Option ℕ) → length cyclics ≤ o.number - 1 → assignments_of timer tasks cyclics alarms m
      ≡ record (assignments_of timer tasks cyclics alarms m) { cyclics_left = with_item (lefts m.left 96 (length cyclics)) o.number left }
  cyclic_past o left past = made timer tasks cyclics alarms _ _ _ _ _ _ _ _ refl refl
      (sym (set_past (lefts m.left 96 (length cyclics)) (o.number - 1) left (omega (arith, past, length-lefts m.left 96 (length cyclics))))) refl

  pub cyclic_begun_step : (o : Object) (p : Proc) (left : Option ℕ) → o.number - 1 < length cyclics → p ≡ (cyclic_in cyclics o).assigned → AreInStep tasks cyclics alarms (with_left m p (CyclicItem o) left).left
  cyclic_begun_step o p None here e = cyclic_step o None here tt
  cyclic_begun_step o p (Some n) here e = cyclic_step o (Some (record { processor = p; ticks = n })) here (ap (λ (q : Proc). q.number) e)

  -- An alarm.

  apart-alarm : (o : Object) (i n : ℕ) → i < n → n ≤ 64 → 0 + i ≡ 64 + (o.number - 1) → ⊥
  apart-alarm o i n h few e = omega (arith, h, few, e)

  beside-alarm : (o : Object) (i : ℕ) → 96 + i ≡ 64 + (o.number - 1) → ⊥
  beside-alarm o i e = let high = o.most in omega (arith, high, e)

  none-alarm : (o : Object) (l : Option Left) → NoneCounts (set m.left (64 + (o.number - 1)) l) (96 + length cyclics) 128
  none-alarm o l =
      let high = o.most in
      let low = o.least in
      none-set m.left (96 + length cyclics) 128 (64 + (o.number - 1)) l s.no_cyclics (λ f g. absurd (omega (arith, f, high, low)))

  pub alarm_in_left : (o : Object) → 64 + (o.number - 1) < length m.left
  alarm_in_left o =
      let high = o.most in
      let low = o.least in
      omega (arith, high, low, s.all)

  pub alarm_set : (o : Object) (l : Option Left) → assignments_of timer tasks cyclics alarms (record { left = set m.left (64 + (o.number - 1)) l; waits = m.waits })
      ≡ record (assignments_of timer tasks cyclics alarms m) { alarms_left = with_item (lefts m.left 64 (length alarms)) o.number (option_map ticks_of l) }
  alarm_set o l = made timer tasks cyclics alarms _ _ _ _ _ _ _ _
      (lefts-past m.left 0 (length tasks) (64 + (o.number - 1)) l (λ i h e. apart-alarm o i (length tasks) h s.few_tasks e)) refl
      (lefts-past m.left 96 (length cyclics) (64 + (o.number - 1)) l (λ i h e. beside-alarm o i e))
      (lefts-set m.left 64 (length alarms) (o.number - 1) (64 + (o.number - 1)) l s.all (omega (arith, s.few_alarms)) refl)

  pub alarm_step : (o : Object) (l : Option Left) → o.number - 1 < length alarms → IsAt (alarm_in alarms o).assigned l → AreInStep tasks cyclics alarms (set m.left (64 + (o.number - 1)) l)
  alarm_step o l here h = record {
    tasks_at = at-past (λ r. r.assigned) no_task tasks m.left 0 s.tasks_at (64 + (o.number - 1)) l (λ i low e. apart-alarm o i (length tasks) low s.few_tasks e);
    cyclics_at = at-past (λ c. c.assigned) blank_cyclic cyclics m.left 96 s.cyclics_at (64 + (o.number - 1)) l (λ i low e. beside-alarm o i e);
    alarms_at = at-set (λ a. a.assigned) blank_alarm alarms m.left 64 s.alarms_at (64 + (o.number - 1)) (o.number - 1) l (alarm_in_left o) refl (λ low. h);
    no_tasks = unseen-set m.left (length tasks) 64 (64 + (o.number - 1)) l s.no_tasks (λ f g. absurd (omega (arith, g)));
    no_cyclics = none-alarm o l;
    no_alarms = none-set m.left (64 + length alarms) 96 (64 + (o.number - 1)) l s.no_alarms (λ f g. absurd (omega (arith, f, here)));
    few_tasks = s.few_tasks;
    few_cyclics = s.few_cyclics;
    few_alarms = s.few_alarms;
    all = length-set m.left (64 + (o.number - 1)) l ∙ s.all;
  }

  pub alarm_begun : (o : Object) (p : Proc) (left : Option ℕ) → assignments_of timer tasks cyclics alarms (with_left m p (AlarmItem o) left)
      ≡ record (assignments_of timer tasks cyclics alarms m) { alarms_left = with_item (lefts m.left 64 (length alarms)) o.number left }
  alarm_begun o p None = alarm_set o None
  alarm_begun o p (Some n) = alarm_set o (Some (record { processor = p; ticks = n }))

  pub alarm_past : (o : Object) (left : Option ℕ) → length alarms ≤ o.number - 1 → assignments_of timer tasks cyclics alarms m
      ≡ record (assignments_of timer tasks cyclics alarms m) { alarms_left = with_item (lefts m.left 64 (length alarms)) o.number left }
  alarm_past o left past = made timer tasks cyclics alarms _ _ _ _ _ _ _ _ refl refl refl
      (sym (set_past (lefts m.left 64 (length alarms)) (o.number - 1) left (omega (arith, past, length-lefts m.left 64 (length alarms)))))

  pub alarm_begun_step : (o : Object) (p : Proc) (left : Option ℕ) → o.number - 1 < length alarms → p ≡ (alarm_in alarms o).assigned → AreInStep tasks cyclics alarms (with_left m p (AlarmItem o) left).left
  alarm_begun_step o p None here e = alarm_step o None here tt
  alarm_begun_step o p (Some n) here e = alarm_step o (Some (record { processor = p; ticks = n })) here (ap (λ (q : Proc). q.number) e)

  -- A wait begins anew.

  twice : (t : Task) → without t (without t m.waits) ≡ without t m.waits
  twice t = without_lacking t (without t m.waits) (gone_from t m.waits)

  left_there : (t : Task) → t.number - 1 < length tasks → item None (lefts m.left 0 (length tasks)) t.number ≡ option_map ticks_of (left_of m (Wait t))
  left_there t h = lefts-at m.left 0 (length tasks) (t.number - 1) h ∙ ap (λ (k : ℕ). option_map ticks_of (get_or m.left k None)) (omega arith)

  some_timed : (t : Task) (l : Option Left) → is_some l ≡ true → (ts : List Task) → timed_by (option_map ticks_of l) t ts ≡ without t ts ++ t ∷ []
  some_timed t None e ts = cc
  some_timed t (Some l) e ts = refl

  pub renewed_is : (t : Task) → t.number - 1 < length tasks → is_some (left_of m (Wait t)) ≡ true → assignments_of timer tasks cyclics alarms (renewed m (Wait t))
      ≡ record (assignments_of timer tasks cyclics alarms m) { timed = timed_by (item None (lefts m.left 0 (length tasks)) t.number) t (without t m.waits) }
  renewed_is t h e = made timer tasks cyclics alarms _ _ _ _ _ _ _ _ refl
      (ap (λ (b : Bool). cond b (without t m.waits ++ t ∷ []) m.waits) e
      ∙ sym (ap (λ (l : Option ℕ). timed_by l t (without t m.waits)) (left_there t h) ∙ some_timed t (left_of m (Wait t)) e (without t m.waits) ∙ ap (λ (ts : List Task). ts ++ t ∷ []) (twice t)))
      refl refl

  -- without ticks left there is nothing to begin anew
  pub unseen_is : (t : Task) → item None (lefts m.left 0 (length tasks)) t.number ≡ None → assignments_of timer tasks cyclics alarms (cancelled m (Wait t))
      ≡ record (assignments_of timer tasks cyclics alarms m) { timed = timed_by (item None (lefts m.left 0 (length tasks)) t.number) t (without t m.waits) }
  unseen_is t e = wait_set t None (without t m.waits) ∙ made timer tasks cyclics alarms _ _ _ _ _ _ _ _
      (ap (set (lefts m.left 0 (length tasks)) (t.number - 1)) (sym e) ∙ set-get_or (lefts m.left 0 (length tasks)) (t.number - 1) None)
      (sym (ap (λ (l : Option ℕ). timed_by l t (without t m.waits)) e ∙ twice t)) refl refl

  none_left : (l : Option Left) → is_some l ≡ false → option_map ticks_of l ≡ None
  none_left None e = refl
  none_left (Some l) e = cc

  pub unseen_past : (t : Task) → length tasks ≤ t.number - 1 → item None (lefts m.left 0 (length tasks)) t.number ≡ None
  unseen_past t h = get_or_past (lefts m.left 0 (length tasks)) (t.number - 1) None (omega (arith, h, length-lefts m.left 0 (length tasks)))

  pub unseen_none : (t : Task) → t.number - 1 < length tasks → is_some (left_of m (Wait t)) ≡ false → item None (lefts m.left 0 (length tasks)) t.number ≡ None
  unseen_none t h e = left_there t h ∙ none_left (left_of m (Wait t)) e

  -- A record is assigned to another processor.

  noted_same : (t : Task) (r : TaskRecord) → assignments_of timer (with_item tasks t.number r) cyclics alarms m ≡ record (assignments_of timer tasks cyclics alarms m) { tasks = with_item tasks t.number r }
  noted_same t r = made timer (with_item tasks t.number r) cyclics alarms _ _ _ _ _ _ _ _ (ap (lefts m.left 0) (length-set tasks (t.number - 1) r)) refl refl refl

  noted_moved : (t : Task) (r : TaskRecord) → assignments_of timer (with_item tasks t.number r) cyclics alarms (moved_to m (Wait t) r.assigned)
      ≡ record (assignments_of timer tasks cyclics alarms m) { tasks = with_item tasks t.number r }
  noted_moved t r = made timer (with_item tasks t.number r) cyclics alarms _ _ _ _ _ _ _ _
      (ap (lefts (moved_to m (Wait t) r.assigned).left 0) (length-set tasks (t.number - 1) r) ∙ lefts-moved m.left 0 (length tasks) (t.number - 1) r.assigned (wait_in t)) refl
      (lefts-moved m.left 96 (length cyclics) (t.number - 1) r.assigned (wait_in t)) (lefts-moved m.left 64 (length alarms) (t.number - 1) r.assigned (wait_in t))

  noted_step_same : (t : Task) (r : TaskRecord) → r.assigned.number ≡ (item no_task tasks t.number).assigned.number → AreInStep (with_item tasks t.number r) cyclics alarms m.left
  noted_step_same t r e = record {
    no_tasks = λ k f. s.no_tasks k (omega (arith, f, length-set tasks (t.number - 1) r));
    tasks_at = at-write (λ r. r.assigned) no_task tasks m.left 0 s.tasks_at (t.number - 1) r
        (λ low. at_same r.assigned (item no_task tasks t.number).assigned (get_or m.left (0 + (t.number - 1)) None) e (s.tasks_at (t.number - 1) low));
    cyclics_at = s.cyclics_at;
    alarms_at = s.alarms_at;
    no_cyclics = s.no_cyclics;
    no_alarms = s.no_alarms;
    few_tasks = omega (arith, s.few_tasks, length-set tasks (t.number - 1) r);
    few_cyclics = s.few_cyclics;
    few_alarms = s.few_alarms;
    all = s.all;
  }

  noted_step_moved : (t : Task) (r : TaskRecord) → t.number - 1 < length tasks → AreInStep (with_item tasks t.number r) cyclics alarms (moved_to m (Wait t) r.assigned).left
  noted_step_moved t r here = record {
    no_tasks = unseen-set m.left (length (with_item tasks t.number r)) 64 (t.number - 1) (moved r.assigned (left_of m (Wait t)))
        (λ k f. s.no_tasks k (omega (arith, f, length-set tasks (t.number - 1) r))) (λ f g. absurd (omega (arith, f, here, length-set tasks (t.number - 1) r)));
    tasks_at = at-both (λ r. r.assigned) no_task tasks m.left 0 s.tasks_at (t.number - 1) (t.number - 1) r (moved r.assigned (left_of m (Wait t))) (wait_in t) (omega arith)
        (at_moved r.assigned (left_of m (Wait t)));
    cyclics_at = at-past (λ c. c.assigned) blank_cyclic cyclics m.left 96 s.cyclics_at (t.number - 1) (moved r.assigned (left_of m (Wait t))) (λ i low e. apart-wait t 96 i (omega arith) e);
    alarms_at = at-past (λ a. a.assigned) blank_alarm alarms m.left 64 s.alarms_at (t.number - 1) (moved r.assigned (left_of m (Wait t))) (λ i low e. apart-wait t 64 i (omega arith) e);
    no_cyclics = none-wait t (moved r.assigned (left_of m (Wait t))) (96 + length cyclics) 128 (omega arith) s.no_cyclics;
    no_alarms = none-wait t (moved r.assigned (left_of m (Wait t))) (64 + length alarms) 96 (omega arith) s.no_alarms;
    few_tasks = omega (arith, s.few_tasks, length-set tasks (t.number - 1) r);
    few_cyclics = s.few_cyclics;
    few_alarms = s.few_alarms;
    all = length-set m.left (t.number - 1) (moved r.assigned (left_of m (Wait t))) ∙ s.all;
  }

  pub noted : (t : Task) (r : TaskRecord) → assignments_of timer (with_item tasks t.number r) cyclics alarms (followed m (Wait t) (item no_task tasks t.number).assigned r.assigned)
      ≡ record (assignments_of timer tasks cyclics alarms m) { tasks = with_item tasks t.number r }
  noted t r = elim (r.assigned.number == (item no_task tasks t.number).assigned.number)
      as (λ (b : Bool). assignments_of timer (with_item tasks t.number r) cyclics alarms (cond b m (moved_to m (Wait t) r.assigned)) ≡ record (assignments_of timer tasks cyclics alarms m) { tasks = with_item tasks t.number r })
      [ true ↦ noted_same t r | false ↦ noted_moved t r ]

  pub noted_step : (t : Task) (r : TaskRecord) → t.number - 1 < length tasks → AreInStep (with_item tasks t.number r) cyclics alarms (followed m (Wait t) (item no_task tasks t.number).assigned r.assigned).left
  noted_step t r here = ⊎_elim
      (λ (e : r.assigned.number ≡ (item no_task tasks t.number).assigned.number).
      subst (λ (b : Bool). AreInStep (with_item tasks t.number r) cyclics alarms (cond b m (moved_to m (Wait t) r.assigned)).left) (sym (eq-eqb _ _ e)) (noted_step_same t r e))
      (λ (e : r.assigned.number ≡ (item no_task tasks t.number).assigned.number → ⊥).
      subst (λ (b : Bool). AreInStep (with_item tasks t.number r) cyclics alarms (cond b m (moved_to m (Wait t) r.assigned)).left) (sym (ne_eqb _ _ e)) (noted_step_moved t r here))
      (cases_eq r.assigned.number (item no_task tasks t.number).assigned.number)

  -- where there is no such task
  pub noted_past : (t : Task) (r : TaskRecord) → length tasks ≤ t.number - 1 → with_item tasks t.number r ≡ tasks
  noted_past t r past = set_past tasks (t.number - 1) r past

  pub cyclic_moved : (o : Object) (p : Proc) (c : Cyclic) → assignments_of timer tasks (with_item cyclics o.number c) alarms (moved_to m (CyclicItem o) p)
      ≡ record (assignments_of timer tasks cyclics alarms m) { cyclics = with_item cyclics o.number c }
  cyclic_moved o p c = made timer tasks (with_item cyclics o.number c) alarms _ _ _ _ _ _ _ _
      (lefts-moved m.left 0 (length tasks) (96 + (o.number - 1)) p (cyclic_in_left o)) refl
      (ap (lefts (moved_to m (CyclicItem o) p).left 96) (length-set cyclics (o.number - 1) c) ∙ lefts-moved m.left 96 (length cyclics) (96 + (o.number - 1)) p (cyclic_in_left o))
      (lefts-moved m.left 64 (length alarms) (96 + (o.number - 1)) p (cyclic_in_left o))

  pub cyclic_moved_step : (o : Object) (p : Proc) (c : Cyclic) → c.assigned ≡ p → AreInStep tasks (with_item cyclics o.number c) alarms (moved_to m (CyclicItem o) p).left
  cyclic_moved_step o p c e = record {
    tasks_at = at-past (λ r. r.assigned) no_task tasks m.left 0 s.tasks_at (96 + (o.number - 1)) (moved p (left_of m (CyclicItem o))) (λ i low e. apart-cyclic o 0 i (length tasks) low (omega (arith, s.few_tasks)) e);
    cyclics_at = at-both (λ c. c.assigned) blank_cyclic cyclics m.left 96 s.cyclics_at (96 + (o.number - 1)) (o.number - 1) c (moved p (left_of m (CyclicItem o))) (cyclic_in_left o) refl
        (subst (λ (q : Proc). IsAt q (moved p (left_of m (CyclicItem o)))) (sym e) (at_moved p (left_of m (CyclicItem o))));
    alarms_at = at-past (λ a. a.assigned) blank_alarm alarms m.left 64 s.alarms_at (96 + (o.number - 1)) (moved p (left_of m (CyclicItem o))) (λ i low e. apart-cyclic o 64 i (length alarms) low (omega (arith, s.few_alarms)) e);
    no_tasks = unseen-set m.left (length tasks) 64 (96 + (o.number - 1)) (moved p (left_of m (CyclicItem o))) s.no_tasks (λ f g. absurd (omega (arith, g)));
    no_cyclics = none-set m.left (96 + length (with_item cyclics o.number c)) 128 (96 + (o.number - 1)) (moved p (left_of m (CyclicItem o)))
        (λ k f g. s.no_cyclics k (omega (arith, f, length-set cyclics (o.number - 1) c)) g)
        (λ f g. ap (moved p) (s.no_cyclics (96 + (o.number - 1)) (omega (arith, f, length-set cyclics (o.number - 1) c)) g));
    no_alarms = none-set m.left (64 + length alarms) 96 (96 + (o.number - 1)) (moved p (left_of m (CyclicItem o))) s.no_alarms (λ f g. absurd (omega (arith, g)));
    few_tasks = s.few_tasks;
    few_cyclics = omega (arith, s.few_cyclics, length-set cyclics (o.number - 1) c);
    few_alarms = s.few_alarms;
    all = length-set m.left (96 + (o.number - 1)) (moved p (left_of m (CyclicItem o))) ∙ s.all;
  }

  pub alarm_moved : (o : Object) (p : Proc) (a : Alarm) → assignments_of timer tasks cyclics (with_item alarms o.number a) (moved_to m (AlarmItem o) p)
      ≡ record (assignments_of timer tasks cyclics alarms m) { alarms = with_item alarms o.number a }
  alarm_moved o p a = made timer tasks cyclics (with_item alarms o.number a) _ _ _ _ _ _ _ _
      (lefts-moved m.left 0 (length tasks) (64 + (o.number - 1)) p (alarm_in_left o)) refl
      (lefts-moved m.left 96 (length cyclics) (64 + (o.number - 1)) p (alarm_in_left o))
      (ap (lefts (moved_to m (AlarmItem o) p).left 64) (length-set alarms (o.number - 1) a) ∙ lefts-moved m.left 64 (length alarms) (64 + (o.number - 1)) p (alarm_in_left o))

  pub alarm_moved_step : (o : Object) (p : Proc) (a : Alarm) → a.assigned ≡ p → AreInStep tasks cyclics (with_item alarms o.number a) (moved_to m (AlarmItem o) p).left
  alarm_moved_step o p a e = record {
    tasks_at = at-past (λ r. r.assigned) no_task tasks m.left 0 s.tasks_at (64 + (o.number - 1)) (moved p (left_of m (AlarmItem o))) (λ i low e. apart-alarm o i (length tasks) low s.few_tasks e);
    cyclics_at = at-past (λ c. c.assigned) blank_cyclic cyclics m.left 96 s.cyclics_at (64 + (o.number - 1)) (moved p (left_of m (AlarmItem o))) (λ i low e. beside-alarm o i e);
    alarms_at = at-both (λ a. a.assigned) blank_alarm alarms m.left 64 s.alarms_at (64 + (o.number - 1)) (o.number - 1) a (moved p (left_of m (AlarmItem o))) (alarm_in_left o) refl
        (subst (λ (q : Proc). IsAt q (moved p (left_of m (AlarmItem o)))) (sym e) (at_moved p (left_of m (AlarmItem o))));
    no_tasks = unseen-set m.left (length tasks) 64 (64 + (o.number - 1)) (moved p (left_of m (AlarmItem o))) s.no_tasks (λ f g. absurd (omega (arith, g)));
    no_cyclics = none-alarm o (moved p (left_of m (AlarmItem o)));
    no_alarms = none-set m.left (64 + length (with_item alarms o.number a)) 96 (64 + (o.number - 1)) (moved p (left_of m (AlarmItem o)))
        (λ k f g. s.no_alarms k (omega (arith, f, length-set alarms (o.number - 1) a)) g)
        (λ f g. ap (moved p) (s.no_alarms (64 + (o.number - 1)) (omega (arith, f, length-set alarms (o.number - 1) a)) g));
    few_tasks = s.few_tasks;
    few_cyclics = s.few_cyclics;
    few_alarms = omega (arith, s.few_alarms, length-set alarms (o.number - 1) a);
    all = length-set m.left (64 + (o.number - 1)) (moved p (left_of m (AlarmItem o))) ∙ s.all;
  }
