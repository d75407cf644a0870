-- A tick ends the waits of which it takes the last tick.
use Rattle.std.proofs.Common.{inr, ◌≡◌, ℕ, zero, suc, ◌≤◌, ◌-◌, Bool, true, false, List, [], ◌∷◌, length, filter, refl, sym, ap, ◌∙◌, subst, arith, Option, Some, None}
use Rattle.std.specs.Prelude.{option_map, All, if◌then◌else◌, is_some, slice_index_or}
use Rattle.std.proofs.lemmas.Bool.{cond_both}
use Rattle.std.proofs.lemmas.List.Elements.{All-nil, All-cons, All-head, All-tail, All-filter, filter_passes}
use Rattle.fmp_codes.specs.Numbers.{as_task, within}
use Rattle.fmp_codes.specs.declared.numbers.Proc.{Proc}
use Rattle.fmp_codes.specs.declared.numbers.Task.{Task}
use Rattle.fmp_codes.specs.declared.records.Event.TheVariants as event
use Rattle.fmp_codes.specs.declared.records.Record.{Record}
use Rattle.fmp_codes.specs.declared.records.Release.{Release}
use Rattle.fmp_setup.specs.Setup.{counts_for}
use Rattle.fmp_law_balance.specs.Words.{is_clocked_by}
use Rattle.fmp_law_balance.proofs.Words.{clock_counts}
use Rattle.fmp_law_balance.proofs.waits.Named.{tick_same}
use Rattle.fmp_rules.specs.World.{World, item, runner_of}
use Rattle.fmp_rules.specs.Ordering.{Ordering}
use Rattle.fmp_rules.specs.Arrivals.{numbered, inserted, inserted_if, in_order, comes_before}
use Rattle.fmp_rules.specs.Tick.{code_of, one_less, lowered, counted_down, is_over, tasks_expired, expired, alarms_due, with_handlers_due, released, ticked, tick}
use Rattle.fmp_law_safety.proofs.KeepsDue.{alarms_keep, cyclics_keep}
use Rattle.fmp_law_balance.proofs.Steps.{report as record_of}
use Rattle.std.proofs.lemmas.Option.{none-some, same_Some}
use Rattle.std.proofs.Math.Bool.{or-false}
use Rattle.fmp_codes.specs.declared.records.Answer.TheVariants as answer
use Rattle.fmp_setup.specs.Setup.{Setup}
use Rattle.fmp_rules.specs.declared.machine.TaskRecord.{TaskRecord}
use Rattle.fmp_rules.specs.declared.machine.Wait.{Wait}
use Rattle.fmp_rules.specs.declared.machine.Wait.TheVariants as wait
use Rattle.fmp_rules.specs.World.{no_task, task}
use Rattle.fmp_rules.specs.Rows.{plain}
use Rattle.fmp_law_safety.specs.Safe.{TicksInRange, Safe}
use Rattle.fmp_law_safety.proofs.TellsTick.{lowered_length}
use Rattle.fmp_law_balance.specs.Waits.Asked.{OpenWait}
use Rattle.fmp_law_balance.specs.Waits.Waits.{OpenWaits, is_released, is_tick_for, lasts}
use Rattle.fmp_law_balance.specs.Waits.Releases.{over_code, EndsOpenWait}
use Rattle.fmp_law_balance.specs.Waits.Laws.{Waits, left_of}
use Rattle.fmp_law_balance.proofs.waits.Words.{SameCounts, IsKept, same_counts_then}
use Rattle.fmp_law_balance.proofs.waits.Follows.{Sound, Follows, follows_beside}
use Rattle.fmp_law_balance.proofs.waits.Several.{Distinct, Ends, IsDue, released_reported, released_counts, released_once, released_fit}

-- Each task stands once among those with ticks left.

module _ (before : Task → Task → Bool) where
  all_inserted : (P : Task → Type 0) (u : Task) (ts : List Task) → P u → All P ts → All P (inserted before u ts)
  all_inserted P u [] this all = All-cons P u [] this all
  all_inserted P u (t ∷ ts) this all =
      cond_both (before u t) (u ∷ t ∷ ts) (t ∷ inserted before u ts) (All P) (λ _. All-cons P u (t ∷ ts) this all)
      (λ _. All-cons P t (inserted before u ts) (All-head P t ts all) (all_inserted P u ts this (All-tail P t ts all)))

  distinct_inserted : (u : Task) (ts : List Task) → All (λ t. t.number ≡ u.number → ⊥) ts → Distinct ts → Distinct (inserted before u ts)
  distinct_inserted u [] other distinct = (All-nil (λ t. t.number ≡ u.number → ⊥), tt)
  distinct_inserted u (t ∷ ts) other distinct =
      let P : Task → Type 0 = λ v. v.number ≡ u.number → ⊥ in
      cond_both (before u t) (u ∷ t ∷ ts) (t ∷ inserted before u ts) Distinct (λ _. (other, distinct))
      (λ _. (all_inserted (λ v. v.number ≡ t.number → ⊥) u ts (λ e. All-head P t ts other (sym e)) distinct.0, distinct_inserted u ts (All-tail P t ts other) distinct.1))

  module _ (qualifies : Task → Bool) where
    -- with one task more
    up_to : (b : Bool) (u : Task) (n : ℕ) (ts : List Task) → u.number ≡ suc n → All (λ t. t.number ≤ n) ts → All (λ t. t.number ≤ suc n) (inserted_if b before u ts)
    up_to true u n ts e all = all_inserted (λ t. t.number ≤ suc n) u ts (omega (arith, e)) (λ i d h. let most = all i d h in omega (arith, most))
    up_to false u n ts e all = λ i d h. let most = all i d h in omega (arith, most)

    distinct_up_to : (b : Bool) (u : Task) (n : ℕ) (ts : List Task) → u.number ≡ suc n → All (λ t. t.number ≤ n) ts → Distinct ts → Distinct (inserted_if b before u ts)
    distinct_up_to true u n ts e all distinct = distinct_inserted u ts (λ i d h same. let most = all i d h in absurd (omega (arith, most, same, e))) distinct
    distinct_up_to false u n ts e all distinct = distinct

    at_most : (n : ℕ) → n ≤ 64 → All (λ t. t.number ≤ n) (in_order qualifies before n)
    at_most zero few = All-nil (λ t. t.number ≤ 0)
    at_most (suc n) few =
        let number : within 64 (suc n) ≡ suc n = omega (arith, few) in
        up_to (qualifies (as_task (suc n))) (as_task (suc n)) n (in_order qualifies before n) number (at_most n (omega (arith, few)))

    in_order_distinct : (n : ℕ) → n ≤ 64 → Distinct (in_order qualifies before n)
    in_order_distinct zero few = tt
    in_order_distinct (suc n) few =
        let number : within 64 (suc n) ≡ suc n = omega (arith, few) in
        distinct_up_to (qualifies (as_task (suc n))) (as_task (suc n)) n (in_order qualifies before n) number (at_most n (omega (arith, few))) (in_order_distinct n (omega (arith, few)))

-- in each order of these a task is timed once
abbrev pub TimedOnce : {Q : Type 0} → Ordering Q → Type 0
TimedOnce {Q} k = (w : World Q) → length w.waits_left ≤ 64 → Distinct (k.timed w.order w.waits_left)

pub numbered_once : TimedOnce numbered
unfolding numbered
numbered_once w few = in_order_distinct (comes_before (λ t. 0) w.order.begun) (λ t. is_some (item None w.waits_left t.number)) (length w.waits_left) few

distinct_filter : (test : Task → Bool) (ts : List Task) → Distinct ts → Distinct (filter test ts)
distinct_filter test [] d = tt
distinct_filter test (t ∷ ts) d =
    cond_both (test t) (t ∷ filter test ts) (filter test ts) Distinct (λ _. (All-filter test (λ u. u.number ≡ t.number → ⊥) ts d.0, distinct_filter test ts d.1)) (λ _. distinct_filter test ts d.1)

-- The counts fall.

-- the count of an item, which falls where the item qualifies
pub lowered_at : {X : Type 0} (qualifies : X → Bool) (blank : X) (xs : List X) (counts : List (Option ℕ)) (i : ℕ) → length counts ≡ length xs →
    slice_index_or (lowered qualifies xs counts) i None ≡ (if qualifies (slice_index_or xs i blank) then one_less (slice_index_or counts i None) else slice_index_or counts i None)
lowered_at qualifies blank [] [] i e = cond_both (qualifies blank) (one_less None) None (λ (o : Option ℕ). None ≡ o) (λ _. refl) (λ _. refl)
lowered_at qualifies blank [] (n ∷ ns) i e = absurd (omega (arith, e))
lowered_at qualifies blank (x ∷ xs) [] i e = absurd (omega (arith, e))
lowered_at qualifies blank (x ∷ xs) (n ∷ ns) zero e = refl
lowered_at qualifies blank (x ∷ xs) (n ∷ ns) (suc i) e = lowered_at qualifies blank xs ns i (omega (arith, e))

-- where no ticks are left none are taken
none_falls : (b : Bool) → (if b then one_less None else None) ≡ None
none_falls true = refl
none_falls false = refl

-- a count in range that is 0 now was 1 before, and fell
last_tick : (b : Bool) (o : Option ℕ) → TicksInRange o → (if b then one_less o else o) ≡ Some 0 → (b ≡ true) × (o ≡ Some 1)
last_tick true None h e = absurd (none-some 0 e)
last_tick false None h e = absurd (none-some 0 e)
last_tick true (Some n) h e = let least = h.0 in let was = same_Some (n - 1) 0 e in let one : n ≡ 1 = omega (arith, least, was) in (refl, ap Some one)
last_tick false (Some n) h e = let least = h.0 in let is = same_Some n 0 e in absurd (omega (arith, least, is))

-- the machine answers what is said of a wait that is over
over_same : (x : Wait) → code_of (Some x) ≡ over_code x
over_same wait.Delay = refl
over_same x = refl

-- handlers become due, and no task changes
pub handlers_beside : {Q : Type 0} (p : Proc) (v : World Q) →
    ((with_handlers_due v p).tasks ≡ v.tasks) × ((with_handlers_due v p).waits_left ≡ v.waits_left) × ((with_handlers_due v p).eventflags ≡ v.eventflags) × ((with_handlers_due v p).timer ≡ v.timer)
unfolding with_handlers_due
handlers_beside p v =
    let H : World _ → Type 0 = λ u. (u.tasks ≡ v.tasks) × (u.waits_left ≡ v.waits_left) × (u.eventflags ≡ v.eventflags) × (u.timer ≡ v.timer) in
    cyclics_keep p H (λ u c h. h) (alarms_due v p (expired v.alarms_left v.alarms)) (expired v.cyclics_left v.cyclics) (alarms_keep p H (λ u a h. h) v (expired v.alarms_left v.alarms) (refl, refl, refl, refl))

module _ {Q : Type 0} (config : Setup) (k : Ordering Q) (once : TimedOnce k) (w : World Q) (s : Safe k w) (sound : Sound config w) (pending : OpenWaits) (report : (t : Task) → IsKept config w t (pending t)) (p : Proc) where
  -- a tick on p, of which it is not said yet whom it releases
  abbrev took : Record
  took = record_of (event.Tick p) (runner_of w p) (plain answer.Taken)

  -- the waits when the tick is taken
  abbrev fallen : OpenWaits
  fallen t = option_map (lasts config t took) (pending t)

  module _ (t : Task) where
    abbrev counts : Bool
    counts = counts_for w.timer p (task w t).assigned

    abbrev ticks : Option ℕ
    ticks = item None w.waits_left t.number

    abbrev ticks_now : Option ℕ
    ticks_now = item None (lowered (λ r. counts_for w.timer p r.assigned) w.tasks w.waits_left) t.number

    ticks_fall : ticks_now ≡ (if counts then one_less ticks else ticks)
    ticks_fall = lowered_at (λ (r : TaskRecord). counts_for w.timer p r.assigned) no_task w.tasks w.waits_left (t.number - 1) sound.waits_left

    waits_fallen : (x : Option OpenWait) → Waits x (task w t).wait ticks (task w t).assigned → Waits (option_map (lasts config t took) x) (task w t).wait ticks_now (task w t).assigned
    waits_fallen None h = record { wait = h.wait; left = ticks_fall ∙ ap (λ l. if counts then one_less l else l) h.left ∙ none_falls counts; assigned = tt }
    waits_fallen (Some o) h = record {
      wait = h.wait;
      left = ticks_fall ∙ ap (λ l. if counts then one_less l else l) h.left ∙ ap (λ q. if counts_for w.timer p q then one_less o.left else o.left) h.assigned
          ∙ ap (λ timer. if counts_for timer p o.assigned then one_less o.left else o.left) sound.timer
          ∙ ap (λ b. if b then one_less o.left else o.left) (sym (clock_counts config.timer p o.assigned))
          ∙ ap (λ l. if is_clocked_by config.timer p o.assigned then l else o.left) (sym (tick_same o.left));
      assigned = h.assigned;
    }

  report_down : (t : Task) → IsKept config (counted_down w p) t (fallen t)
  unfolding counted_down
  report_down t = (waits_fallen t (pending t) (report t).0, (report t).1)

  counts_down : SameCounts w (counted_down w p)
  unfolding counted_down
  counts_down = (refl, lowered_length (λ r. counts_for w.timer p r.assigned) w.tasks w.waits_left, refl, refl)

  -- what is due once the tick is taken had one tick left before
  due_fits : (r : Record) → r.event ≡ event.Tick p → r.answer ≡ answer.Taken → (x : Release) → Ends IsDue fallen x → EndsOpenWait config pending r x
  due_fits r e a x due = go (pending x.task) refl due.1
    where
      in_range : TicksInRange (item None w.waits_left x.task.number)
      in_range = s.counts.waits x.task

      go : (y : Option OpenWait) → pending x.task ≡ y → option_map (lasts config x.task took) y ≡ Some due.0 → EndsOpenWait config pending r x
      go None is ends = absurd (none-some due.0 ends)
      go (Some o) is ends =
          let same : lasts config x.task took o ≡ due.0 = same_Some (lasts config x.task took o) due.0 ends in
          let was : item None w.waits_left x.task.number ≡ o.left = subst (λ y. item None w.waits_left x.task.number ≡ left_of y) is (report x.task).0.left in
          let last = last_tick (is_clocked_by config.timer p o.assigned) o.left (subst TicksInRange was in_range) (ap (λ l. if is_clocked_by config.timer p o.assigned then l else o.left) (sym (tick_same o.left)) ∙ ap (λ (y : OpenWait). y.left) same ∙ due.2.0) in (
            o,
            is,
            inr (inr (record {
              counts = ap (is_tick_for config.timer o.assigned r.answer) e ∙ ap (λ y. is_tick_for config.timer o.assigned y (event.Tick p)) a ∙ last.0;
              last = last.1;
              code = due.2.1 ∙ ap (λ (y : Wait). code_of (Some y)) (sym (ap (λ (y : OpenWait). y.wait) same)) ∙ over_same o.wait;
              value = due.2.2;
            })),
          )

  abbrev TickFollows : World Q → Type 0
  TickFollows v = Follows config w pending (ticked k v p).0 (record_of (event.Tick p) (runner_of w p) (ticked k v p).1)

  follows_ticked : (v : World Q) → ((t : Task) → IsKept config v t (fallen t)) → SameCounts w v → TickFollows v
  unfolding ticked
  follows_ticked v report_v counts =
      let timed : List Task = k.timed v.order v.waits_left in
      let ts : List Task = tasks_expired v.waits_left timed in
      let over : Task → Bool = λ t. is_over (item None v.waits_left t.number) in
      let did : World Q × List Release = released k v ts in
      let r : Record = record_of (event.Tick p) (runner_of w p) (ticked k v p).1 in
      let few : length v.waits_left ≤ 64 = rw (counts.1, sound.waits_left) sound.few_tasks in
      let distinct : Distinct ts = distinct_filter over timed (once v few) in
      let beside = handlers_beside p did.0 in
      let due = released_fit config k v fallen report_v ts distinct (filter_passes over timed) in
      follows_beside config w pending did.0 (with_handlers_due did.0 p) r
      (record {
        report = λ t. subst (λ b. IsKept config did.0 t (if b then None else fallen t)) (sym (or-false (is_released t did.1))) (released_reported config k v fallen report_v ts t);
        fits = λ i d h. due_fits r refl refl (slice_index_or did.1 i d) (due i d h);
        once = released_once config k v ts distinct;
        counts = same_counts_then w v did.0 counts (released_counts config k v ts);
      })
      beside.0 beside.1 beside.2 beside.3

  pub follows_tick : Follows config w pending (tick k w p).0 (record_of (event.Tick p) (runner_of w p) (tick k w p).1)
  follows_tick = follows_ticked (counted_down w p) report_down counts_down
