-- What a tick leaves of the time of alarms and cyclic handlers, and which of them it makes due.
use Rattle.std.proofs.Common.{◌≡◌, ℕ, zero, suc, ◌+◌, ◌-◌, ◌<◌, ◌≤◌, ◌==◌, Bool, true, false, ◌&&◌, List, [], ◌∷◌, ◌++◌, length, map, refl, sym, ap, ◌∙◌, arith, Option, Some, None, ⊎_elim}
use Rattle.std.specs.Prelude.{if◌then◌else◌, filter}
use Rattle.std.specs.List.{range_with_len, list_any}
use Rattle.std.proofs.lemmas.Bool.{cases_eq, eq-eqb, eqb-true, ne_eqb, or_left, or_right}
use Rattle.std.proofs.lemmas.List.{append_assoc, append-nil, length-set}
use Rattle.std.proofs.lemmas.Map.Views.{any-filter_same}
use Rattle.std.proofs.Math.Bool.{and-true}
use Rattle.fmp_codes.specs.Numbers.{as_proc, as_object, within}
use Rattle.fmp_codes.specs.declared.numbers.Proc.{Proc}
use Rattle.fmp_codes.specs.declared.numbers.Task.{Task}
use Rattle.fmp_codes.specs.declared.numbers.Object.{Object}
use Rattle.fmp_codes.specs.declared.records.Event.TheVariants as event
use Rattle.fmp_codes.specs.declared.records.Runner.{Runner}
use Rattle.fmp_codes.specs.declared.records.Runner.TheVariants as runner
use Rattle.fmp_codes.proofs.Same.{objects_same}
use Rattle.fmp_setup.specs.Setup.{counts_for}
use Rattle.fmp_rules.specs.declared.machine.Cyclic.{Cyclic}
use Rattle.fmp_rules.specs.declared.machine.Alarm.{Alarm}
use Rattle.fmp_rules.specs.World.{World, item, with_item, runner_of}
use Rattle.fmp_rules.specs.Objects.{no_cyclic, no_alarm, cyclic, alarm}
use Rattle.fmp_rules.specs.Ordering.{Ordering}
use Rattle.fmp_rules.specs.TimeCalls.{with_cyclic_left, with_alarm_left}
use Rattle.fmp_rules.specs.Tick.{one_less, is_over, tasks_expired, expired, with_due, alarms_due, cyclics_due, with_handlers_due, counted_down, released, ticked, tick}
use Rattle.fmp_law_safety.specs.Safe.{TicksInRange}
use Rattle.fmp_law_safety.proofs.Items.{item_put, item_same, item_other}
use Rattle.fmp_law_safety.proofs.KeepsDue.{alarms_keep, cyclics_keep, released_keep}
use Rattle.fmp_law_safety.proofs.TellsTick.{lowered_length}
use Rattle.fmp_law_balance.proofs.Objects.{by_object}
use Rattle.fmp_law_balance.proofs.Steps.{report}
use Rattle.fmp_law_balance.proofs.Words.{clock_counts}
use Rattle.fmp_law_records.specs.Counts.Alarms.{without_tick, alarm_left_after, is_last}
use Rattle.fmp_law_records.specs.Counts.Cyclics.{cyclic_left_after}
use Rattle.fmp_law_records.specs.Counts.Due.{by_number}
use Rattle.fmp_law_balance.proofs.waits.Several.{one_by_one}
use Rattle.fmp_law_balance.proofs.waits.Ticks.{lowered_at}
use Rattle.fmp_law_records.proofs.counts.Sparing.{Clock, clock}
use Rattle.fmp_law_records.proofs.counts.HandlersCalls.{Clocks}

-- this object is one of some
abbrev is_one_of : Object → List Object → Bool
is_one_of o os = list_any (λ x. x.number == o.number) os

object_among : (o : Object) (a n : ℕ) → a ≤ o.number → o.number < a + n → is_one_of o (map as_object (range_with_len a n)) ≡ true
object_among o a zero l h = absurd (omega (arith, l, h))
object_among o a (suc n) l h =
    ⊎_elim (λ (e : o.number ≡ a). let here : within 32 a ≡ o.number = omega (arith, e, o.least, o.most) in or_left _ _ (eq-eqb (within 32 a) o.number here))
    (λ (d : o.number ≡ a → ⊥). or_right _ _ (object_among o (a + 1) n (omega (arith, l, d)) (omega (arith, h)))) (cases_eq o.number a)

-- an object is one of those whose time is over just where its own is
expired_is : {X : Type 0} (counts : List (Option ℕ)) (xs : List X) (o : Object) → o.number ≤ length xs → is_one_of o (expired counts xs) ≡ is_over (item None counts o.number)
expired_is counts xs o here =
    let test : Object → Bool = λ x. is_over (item None counts x.number) in
    any-filter_same (λ x. x.number == o.number) test (test o) (λ x e. ap test (objects_same x o (eqb-true x.number o.number e))) (map as_object (range_with_len 1 (length xs)))
    ∙ rw (object_among o 1 (length xs) o.least (omega (arith, here))) (and-true (test o))

-- a count in range that fell for what qualifies is over just where it was the last
fallen_is_last : (b : Bool) (left : Option ℕ) → TicksInRange left → is_over (if b then one_less left else left) ≡ (b && is_last left)
fallen_is_last true None h = refl
fallen_is_last false None h = refl
fallen_is_last true (Some n) h =
    let least = h.0 in
    ⊎_elim (λ (e : n ≡ 1). let none : n - 1 ≡ 0 = omega (arith, e) in eq-eqb (n - 1) 0 none ∙ sym (eq-eqb n 1 e))
    (λ (d : n ≡ 1 → ⊥). let some : n - 1 ≡ 0 → ⊥ = λ e. d (omega (arith, e, least)) in ne_eqb (n - 1) 0 some ∙ sym (ne_eqb n 1 d)) (cases_eq n 1)
fallen_is_last false (Some n) h = let least = h.0 in ne_eqb n 0 (λ (e : n ≡ 0). omega (arith, e, least))

-- of what fell to 0 this is left
fallen_left : (next : Option ℕ) (b : Bool) (left : Option ℕ) → TicksInRange left →
    (if is_over (if b then one_less left else left) then next else (if b then one_less left else left)) ≡ (if b then without_tick next left else left)
fallen_left next true None h = refl
fallen_left next false None h = refl
fallen_left next true (Some n) h = ap (λ (b : Bool). if b then next else Some (n - 1)) (fallen_is_last true (Some n) h)
fallen_left next false (Some n) h = ap (λ (b : Bool). if b then next else Some n) (fallen_is_last false (Some n) h)

-- those that pass either of two tests that agree on these objects
pub same_passed : (test other : Object → Bool) (most a n : ℕ) → 1 ≤ a → a + n ≤ most + 1 → ((o : Object) → o.number ≤ most → test o ≡ other o) →
    filter test (map as_object (range_with_len a n)) ≡ filter other (map as_object (range_with_len a n))
same_passed test other most a zero least h same = refl
same_passed test other most a (suc n) least h same =
    let number : within 32 a ≤ most = omega (arith, least, h) in
    let later : filter test (map as_object (range_with_len (a + 1) n)) ≡ filter other (map as_object (range_with_len (a + 1) n)) = same_passed test other most (a + 1) n (omega arith) (omega (arith, h)) same in
    rw (same (as_object a) number, later) refl

module _ {Q : Type 0} (p : Proc) where
  -- these alarms are stopped, and no other
  alarms_stopped : (w : World Q) (os : List Object) (a : Object) → item None (alarms_due w p os).alarms_left a.number ≡ (if is_one_of a os then None else item None w.alarms_left a.number)
  alarms_stopped w [] a = refl
  alarms_stopped w (o ∷ os) a =
      let v : World Q = with_alarm_left (with_due w p (runner.Alarm o)) o None in
      let put : item None v.alarms_left a.number ≡ (if o.number == a.number then None else item None w.alarms_left a.number) =
      by_object (λ x b. item None (with_item w.alarms_left o.number None) x.number ≡ (if b then None else item None w.alarms_left x.number)) o a
      (item_put None w.alarms_left o.number None (λ (x : Option ℕ). x ≡ None) refl refl)
      (λ d. item_other None w.alarms_left o.number None a.number a.least o.least (λ e. d (sym e))) in
      alarms_stopped v os a ∙ ap (λ (x : Option ℕ). if is_one_of a os then None else x) put ∙ one_by_one (o.number == a.number) (is_one_of a os) None (item None w.alarms_left a.number)

  -- these cyclic handlers begin their periods, and no other
  cyclics_begun : (w : World Q) (os : List Object) (c : Object) → c.number ≤ length w.cyclics_left →
      item None (cyclics_due w p os).cyclics_left c.number ≡ (if is_one_of c os then Some (cyclic w c).setup.period else item None w.cyclics_left c.number)
  cyclics_begun w [] c here = refl
  cyclics_begun w (o ∷ os) c here =
      let period : ℕ = (cyclic w c).setup.period in
      let left : Option ℕ = Some (cyclic w o).setup.period in
      let v : World Q = with_cyclic_left (with_due w p (runner.Cyclic o)) o left in
      let put : item None v.cyclics_left c.number ≡ (if o.number == c.number then Some period else item None w.cyclics_left c.number) =
      by_object (λ x b. x.number ≤ length w.cyclics_left → item None (with_item w.cyclics_left o.number left) x.number ≡ (if b then Some (cyclic w x).setup.period else item None w.cyclics_left x.number)) o c
      (λ most. item_same None w.cyclics_left o.number left o.least most)
      (λ d most. item_other None w.cyclics_left o.number left c.number c.least o.least (λ e. d (sym e))) here in
      cyclics_begun v os c (rw (length-set w.cyclics_left (o.number - 1) left) here)
      ∙ ap (λ (x : Option ℕ). if is_one_of c os then Some period else x) put ∙ one_by_one (o.number == c.number) (is_one_of c os) (Some period) (item None w.cyclics_left c.number)

  -- handlers become due after those that are
  due_after : (w : World Q) (h : Runner) → p.number ≤ length w.due → item [] (with_due w p h).due p.number ≡ item [] w.due p.number ++ h ∷ []
  due_after w h most = item_same [] w.due p.number (item [] w.due p.number ++ h ∷ []) p.least most

  due_alarms : (w : World Q) (os : List Object) → p.number ≤ length w.due → item [] (alarms_due w p os).due p.number ≡ item [] w.due p.number ++ map runner.Alarm os
  due_alarms w [] most = sym (append-nil (item [] w.due p.number))
  due_alarms w (o ∷ os) most =
      let h : Runner = runner.Alarm o in
      due_alarms (with_alarm_left (with_due w p h) o None) os (rw (length-set w.due (p.number - 1) (item [] w.due p.number ++ h ∷ [])) most)
      ∙ ap (λ xs. xs ++ map runner.Alarm os) (due_after w h most) ∙ append_assoc (item [] w.due p.number) (h ∷ []) (map runner.Alarm os)

  due_cyclics : (w : World Q) (os : List Object) → p.number ≤ length w.due → item [] (cyclics_due w p os).due p.number ≡ item [] w.due p.number ++ map runner.Cyclic os
  due_cyclics w [] most = sym (append-nil (item [] w.due p.number))
  due_cyclics w (o ∷ os) most =
      let h : Runner = runner.Cyclic o in
      due_cyclics (with_cyclic_left (with_due w p h) o (Some (cyclic w o).setup.period)) os (rw (length-set w.due (p.number - 1) (item [] w.due p.number ++ h ∷ [])) most)
      ∙ ap (λ xs. xs ++ map runner.Cyclic os) (due_after w h most) ∙ append_assoc (item [] w.due p.number) (h ∷ []) (map runner.Cyclic os)

  count_due : (w : World Q) (os : List Object) → length (alarms_due w p os).due ≡ length w.due
  count_due w os = alarms_keep p (λ (v : World Q). length v.due ≡ length w.due) (λ v a e. length-set v.due _ _ ∙ e) w os refl

  handlers_due : (w : World Q) → p.number ≤ length w.due →
      item [] (with_handlers_due w p).due p.number ≡ item [] w.due p.number ++ map runner.Alarm (expired w.alarms_left w.alarms) ++ map runner.Cyclic (expired w.cyclics_left w.cyclics)
  unfolding with_handlers_due
  handlers_due w most =
      let os : List Object = expired w.alarms_left w.alarms in
      due_cyclics (alarms_due w p os) (expired w.cyclics_left w.cyclics) (rw (count_due w os) most) ∙ ap (λ xs. xs ++ map runner.Cyclic (expired w.cyclics_left w.cyclics)) (due_alarms w os most)

  alarms_after : (w : World Q) (a : Object) → a.number ≤ length w.alarms →
      item None (with_handlers_due w p).alarms_left a.number ≡ (if is_over (item None w.alarms_left a.number) then None else item None w.alarms_left a.number)
  unfolding with_handlers_due
  alarms_after w a here =
      let os : List Object = expired w.alarms_left w.alarms in
      let u : World Q = alarms_due w p os in
      cyclics_keep p (λ (v : World Q). item None v.alarms_left a.number ≡ item None u.alarms_left a.number) (λ v c e. e) u (expired w.cyclics_left w.cyclics) refl
      ∙ alarms_stopped w os a ∙ ap (λ (b : Bool). if b then None else item None w.alarms_left a.number) (expired_is w.alarms_left w.alarms a here)

  cyclics_after : (w : World Q) (c : Object) → c.number ≤ length w.cyclics → length w.cyclics_left ≡ length w.cyclics →
      item None (with_handlers_due w p).cyclics_left c.number ≡ (if is_over (item None w.cyclics_left c.number) then Some (cyclic w c).setup.period else item None w.cyclics_left c.number)
  unfolding with_handlers_due
  cyclics_after w c here same =
      let os : List Object = expired w.alarms_left w.alarms in
      let cs : List Object = expired w.cyclics_left w.cyclics in
      let u : World Q = alarms_due w p os in
      let left : u.cyclics_left ≡ w.cyclics_left = alarms_keep p (λ (v : World Q). v.cyclics_left ≡ w.cyclics_left) (λ v a e. e) w os refl in
      let there : u.cyclics ≡ w.cyclics = alarms_keep p (λ (v : World Q). v.cyclics ≡ w.cyclics) (λ v a e. e) w os refl in
      cyclics_begun u cs c (rw (left, same) here)
      ∙ ap (λ (xs : List Cyclic). if is_one_of c cs then Some (cyclic (record u { cyclics = xs }) c).setup.period else item None u.cyclics_left c.number) there
      ∙ ap (λ (ns : List (Option ℕ)). if is_one_of c cs then Some (cyclic w c).setup.period else item None ns c.number) left
      ∙ ap (λ (b : Bool). if b then Some (cyclic w c).setup.period else item None w.cyclics_left c.number) (expired_is w.cyclics_left w.cyclics c here)

module _ {Q : Type 0} (k : Ordering Q) (w : World Q) (p : Proc) where
  abbrev counts : Proc → Bool
  counts q = counts_for w.timer p q

  -- the releases of a tick leave the clock
  clock_released : (v : World Q) (us : List Task) → clock (released k v us).0 ≡ clock v
  clock_released v us = released_keep p (λ (x : World Q). clock x ≡ clock v) k (λ x t e. e) v us refl

  dues_released : (v : World Q) (us : List Task) → (released k v us).0.due ≡ v.due
  dues_released v us = released_keep p (λ (x : World Q). x.due ≡ v.due) k (λ x t e. e) v us refl

  alarm_counted : (a : Object) → length w.alarms_left ≡ length w.alarms →
      item None (counted_down w p).alarms_left a.number ≡ (if counts (alarm w a).assigned then one_less (item None w.alarms_left a.number) else item None w.alarms_left a.number)
  unfolding counted_down
  alarm_counted a same =
      lowered_at (λ (x : Alarm). counts_for w.timer p x.assigned) (record { setup = no_alarm; assigned = as_proc 1 }) w.alarms w.alarms_left (a.number - 1) same

  cyclic_counted : (c : Object) → length w.cyclics_left ≡ length w.cyclics →
      item None (counted_down w p).cyclics_left c.number ≡ (if counts (cyclic w c).assigned then one_less (item None w.cyclics_left c.number) else item None w.cyclics_left c.number)
  unfolding counted_down
  cyclic_counted c same =
      lowered_at (λ (x : Cyclic). counts_for w.timer p x.assigned) (record { setup = no_cyclic; assigned = as_proc 1 }) w.cyclics w.cyclics_left (c.number - 1) same

  -- what is left of an alarm after a tick
  pub left_at_tick : (a : Object) → a.number ≤ length w.alarms → length w.alarms_left ≡ length w.alarms → TicksInRange (item None w.alarms_left a.number) →
      item None (tick k w p).0.alarms_left a.number ≡ alarm_left_after w a (report (event.Tick p) (runner_of w p) (tick k w p).1) (item None w.alarms_left a.number)
  unfolding counted_down ticked
  left_at_tick a here length_same range =
      let v : World Q = counted_down w p in
      let us : List Task = tasks_expired v.waits_left (k.timed v.order v.waits_left) in
      let u : World Q = (released k v us).0 in
      let same = clock_released v us in
      let b : Bool = counts (alarm w a).assigned in
      let count : length u.alarms ≡ length w.alarms = ap (λ (c : Clock). length c.alarms) same in
      let fell : item None u.alarms_left a.number ≡ (if b then one_less (item None w.alarms_left a.number) else item None w.alarms_left a.number) =
      ap (λ (c : Clock). item None c.alarms_left a.number) same ∙ alarm_counted a length_same in
      alarms_after p u a (rw count here) ∙ ap (λ (o : Option ℕ). if is_over o then None else o) fell ∙ fallen_left None b (item None w.alarms_left a.number) range
      ∙ ap (λ x. if x then without_tick None (item None w.alarms_left a.number) else item None w.alarms_left a.number) (sym (clock_counts w.timer p (alarm w a).assigned))

  -- what is left of a cyclic handler after a tick
  pub cyclic_left_at_tick : (c : Object) → c.number ≤ length w.cyclics → length w.cyclics_left ≡ length w.cyclics → TicksInRange (item None w.cyclics_left c.number) →
      item None (tick k w p).0.cyclics_left c.number ≡ cyclic_left_after w c (report (event.Tick p) (runner_of w p) (tick k w p).1) (item None w.cyclics_left c.number)
  unfolding counted_down ticked
  cyclic_left_at_tick c here length_same range =
      let v : World Q = counted_down w p in
      let us : List Task = tasks_expired v.waits_left (k.timed v.order v.waits_left) in
      let u : World Q = (released k v us).0 in
      let same = clock_released v us in
      let b : Bool = counts (cyclic w c).assigned in
      let period : ℕ = (cyclic w c).setup.period in
      let there : u.cyclics ≡ w.cyclics = ap (λ (x : Clock). x.cyclics) same in
      let as_many : length u.cyclics_left ≡ length w.cyclics_left =
      ap (λ (x : Clock). length x.cyclics_left) same ∙ lowered_length (λ (x : Cyclic). counts_for w.timer p x.assigned) w.cyclics w.cyclics_left in
      let fell : item None u.cyclics_left c.number ≡ (if b then one_less (item None w.cyclics_left c.number) else item None w.cyclics_left c.number) =
      ap (λ (x : Clock). item None x.cyclics_left c.number) same ∙ cyclic_counted c length_same in
      cyclics_after p u c (rw there here) (as_many ∙ length_same ∙ ap length (sym there))
      ∙ ap (λ (xs : List Cyclic). if is_over (item None u.cyclics_left c.number) then Some (cyclic (record u { cyclics = xs }) c).setup.period else item None u.cyclics_left c.number) there
      ∙ ap (λ (o : Option ℕ). if is_over o then Some period else o) fell ∙ fallen_left (Some period) b (item None w.cyclics_left c.number) range
      ∙ ap (λ x. if x then without_tick (Some period) (item None w.cyclics_left c.number) else item None w.cyclics_left c.number) (sym (clock_counts w.timer p (cyclic w c).assigned))

  abbrev last_alarm : Object → Bool
  last_alarm a = counts (alarm w a).assigned && is_last (item None w.alarms_left a.number)

  abbrev last_cyclic : Object → Bool
  last_cyclic c = counts (cyclic w c).assigned && is_last (item None w.cyclics_left c.number)

  -- which handlers a tick makes due
  pub due_at_tick : p.number ≤ length w.due → length w.alarms_left ≡ length w.alarms → length w.cyclics_left ≡ length w.cyclics → ((a : Object) → TicksInRange (item None w.alarms_left a.number)) → ((c : Object) → TicksInRange (item None w.cyclics_left c.number)) →
      item [] (tick k w p).0.due p.number ≡ item [] w.due p.number ++ map runner.Alarm (by_number w.alarms last_alarm) ++ map runner.Cyclic (by_number w.cyclics last_cyclic)
  unfolding counted_down ticked
  due_at_tick most same_alarms same_cyclics alarms cyclics =
      let v : World Q = counted_down w p in
      let us : List Task = tasks_expired v.waits_left (k.timed v.order v.waits_left) in
      let u : World Q = (released k v us).0 in
      let same = clock_released v us in
      let dues : u.due ≡ w.due = dues_released v us in
      let over_alarm : Object → Bool = λ a. is_over (item None v.alarms_left a.number) in
      let over_cyclic : Object → Bool = λ c. is_over (item None v.cyclics_left c.number) in
      let due_alarms : expired v.alarms_left w.alarms ≡ by_number w.alarms last_alarm =
      same_passed over_alarm last_alarm (length w.alarms) 1 (length w.alarms) (omega arith) (omega arith)
      (λ a here. ap is_over (alarm_counted a same_alarms) ∙ fallen_is_last (counts (alarm w a).assigned) (item None w.alarms_left a.number) (alarms a)) in
      let due_cyclics : expired v.cyclics_left w.cyclics ≡ by_number w.cyclics last_cyclic =
      same_passed over_cyclic last_cyclic (length w.cyclics) 1 (length w.cyclics) (omega arith) (omega arith)
      (λ c here. ap is_over (cyclic_counted c same_cyclics) ∙ fallen_is_last (counts (cyclic w c).assigned) (item None w.cyclics_left c.number) (cyclics c)) in
      handlers_due p u (rw dues most)
      ∙ ap (λ (c : Clock). item [] u.due p.number ++ map runner.Alarm (expired c.alarms_left c.alarms) ++ map runner.Cyclic (expired c.cyclics_left c.cyclics)) same
      ∙ rw (dues, due_alarms, due_cyclics) refl

  -- there are as many handlers, counts and lists of due handlers after a tick
  pub clocks_tick : Clocks w (tick k w p).0
  unfolding counted_down ticked with_handlers_due
  clocks_tick =
      let v : World Q = counted_down w p in
      let us : List Task = tasks_expired v.waits_left (k.timed v.order v.waits_left) in
      let u : World Q = (released k v us).0 in
      let same = clock_released v us in
      let first : Clocks w u = record {
        alarms = ap (λ (c : Clock). length c.alarms) same;
        alarms_left = ap (λ (c : Clock). length c.alarms_left) same ∙ lowered_length (λ (x : Alarm). counts_for w.timer p x.assigned) w.alarms w.alarms_left;
        cyclics = ap (λ (c : Clock). length c.cyclics) same;
        cyclics_left = ap (λ (c : Clock). length c.cyclics_left) same ∙ lowered_length (λ (x : Cyclic). counts_for w.timer p x.assigned) w.cyclics w.cyclics_left;
        due = ap (λ (c : Clock). c.due) same;
      } in
      cyclics_keep p (λ (x : World Q). Clocks w x)
      (λ x c h. record { alarms = h.alarms; alarms_left = h.alarms_left; cyclics = h.cyclics; cyclics_left = length-set x.cyclics_left _ _ ∙ h.cyclics_left; due = length-set x.due _ _ ∙ h.due })
      (alarms_due u p (expired u.alarms_left u.alarms)) (expired u.cyclics_left u.cyclics)
      (alarms_keep p (λ (x : World Q). Clocks w x)
      (λ x a h. record { alarms = h.alarms; alarms_left = length-set x.alarms_left _ _ ∙ h.alarms_left; cyclics = h.cyclics; cyclics_left = h.cyclics_left; due = length-set x.due _ _ ∙ h.due })
      u (expired u.alarms_left u.alarms) first)
