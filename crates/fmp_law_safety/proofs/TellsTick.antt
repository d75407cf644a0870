-- What a tick tells.
use Rattle.std.proofs.Common.{◌≡◌, ℕ, zero, suc, ◌+◌, ◌≤◌, inl, inr, ⊎_elim, Bool, List, [], ◌∷◌, ◌++◌, length, map, filter, refl, ap, arith, Option, Some, None}
use Rattle.std.specs.Prelude.{All}
use Rattle.std.specs.List.{range_with_len}
use Rattle.std.proofs.lemmas.Bool.{cond_both}
use Rattle.std.proofs.lemmas.List.Elements.{All-nil, All-cons, All-head, All-tail, All-append}
use Rattle.fmp_codes.specs.Numbers.{as_object, within}
use Rattle.fmp_codes.specs.declared.numbers.Proc.{Proc}
use Rattle.fmp_codes.specs.declared.numbers.Task.{Task}
use Rattle.fmp_codes.specs.declared.numbers.Object.{Object}
use Rattle.fmp_codes.specs.declared.records.Runner.{Runner}
use Rattle.fmp_codes.specs.declared.records.Runner.TheVariants as runner
use Rattle.fmp_setup.specs.Setup.{counts_for}
use Rattle.fmp_rules.specs.World.{World, item}
use Rattle.fmp_rules.specs.Objects.{cyclic}
use Rattle.fmp_rules.specs.Ordering.{Ordering}
use Rattle.fmp_rules.specs.Tasks.{make_ready}
use Rattle.fmp_rules.specs.TimeCalls.{with_cyclic_left, with_alarm_left}
use Rattle.fmp_rules.specs.Tick.{lowered, counted_down, released, with_due, alarms_due, cyclics_due, is_over, tasks_expired, expired, with_handlers_due, ticked, tick}
use Rattle.fmp_law_safety.specs.Counts.{Counts, IsRunnerOf, IsReleaseOf, HasCounts}
use Rattle.fmp_law_safety.proofs.Items.{all_after}
use Rattle.fmp_law_safety.proofs.Queues.{IsAmong, Lists}
use Rattle.fmp_law_safety.proofs.Counted.{counts_objects}
use Rattle.fmp_law_safety.proofs.Tells.{Tells, counts_ready}
use Rattle.fmp_law_safety.proofs.SyncCalls.{Serves, serves_more}

pub lowered_length : {X : Type 0} (qualifies : X → Bool) (xs : List X) (counts : List (Option ℕ)) → length (lowered qualifies xs counts) ≡ length counts
lowered_length qualifies [] counts = refl
lowered_length qualifies (x ∷ xs) [] = refl
lowered_length qualifies (x ∷ xs) (n ∷ ns) = ap suc (lowered_length qualifies xs ns)

-- those that pass a test are among all, and are no more
passed_among : {X : Type 0} (test : X → Bool) (x : X) (xs : List X) → IsAmong x (filter test xs) → IsAmong x xs
passed_among test x [] i = i
passed_among test x (y ∷ ys) i =
    cond_both (test y) (y ∷ filter test ys) (filter test ys) (λ (zs : List _). IsAmong x zs → IsAmong x (y ∷ ys)) (λ _. ⊎_elim (λ e. inl e) (λ j. inr (passed_among test x ys j)))
    (λ _ j. inr (passed_among test x ys j)) i

passed_few : {X : Type 0} (test : X → Bool) (xs : List X) → length (filter test xs) ≤ length xs
passed_few test [] = omega arith
passed_few test (y ∷ ys) =
    let fewer : length (filter test ys) ≤ length ys = passed_few test ys in
    cond_both (test y) (y ∷ filter test ys) (filter test ys) (λ (zs : List _). length zs ≤ length (y ∷ ys)) (λ _. omega (arith, fewer)) (λ _. omega (arith, fewer))

-- objects whose numbers are up to most
objects_up_to : (test : Object → Bool) (most a m : ℕ) → 1 ≤ a → a + m ≤ most + 1 → All (λ o. o.number ≤ most) (filter test (map as_object (range_with_len a m)))
objects_up_to test most a zero least h = All-nil (λ (o : Object). o.number ≤ most)
objects_up_to test most a (suc m) least h =
    let below : within 32 a ≤ most = omega (arith, least, h) in
    let later = objects_up_to test most (a + 1) m (omega arith) (omega (arith, h)) in
    cond_both (test (as_object a)) (as_object a ∷ filter test (map as_object (range_with_len (a + 1) m))) (filter test (map as_object (range_with_len (a + 1) m))) (All (λ (o : Object). o.number ≤ most))
    (λ _. All-cons (λ (o : Object). o.number ≤ most) (as_object a) _ below later) (λ _. later)

module _ {Q : Type 0} (n : Counts) (p : Proc) where
  -- a handler becomes due, and the ticks left of cyclic handlers and alarms change
  counts_due : (w : World Q) (h : HasCounts n w) (q : Proc) (r : Runner) (cyclics_left alarms_left : List (Option ℕ)) → IsRunnerOf n r →
      HasCounts n (record (with_due w q r) { cyclics_left = cyclics_left; alarms_left = alarms_left })
  counts_due w h q r cyclics_left alarms_left is =
      counts_objects n w h w.waits_left w.semaphores w.eventflags w.contents w.pools w.cyclics cyclics_left w.alarms alarms_left (with_due w q r).due refl h.in_bits.patterns h.in_bits.contents h.in_bits.blocks refl refl
      (all_after [] w.due q.number (item [] w.due q.number ++ r ∷ []) (All (IsRunnerOf n))
      (λ old. All-append (IsRunnerOf n) (item [] w.due q.number) (r ∷ []) old (All-cons (IsRunnerOf n) r [] is (All-nil (IsRunnerOf n)))) h.due)

  counts_alarms_due : (w : World Q) → HasCounts n w → (os : List Object) → All (λ o. o.number ≤ n.alarms) os → HasCounts n (alarms_due w p os)
  counts_alarms_due w h [] all = h
  counts_alarms_due w h (a ∷ os) all =
      counts_alarms_due (with_alarm_left (with_due w p (runner.Alarm a)) a None)
      (counts_due w h p (runner.Alarm a) w.cyclics_left (with_alarm_left w a None).alarms_left (All-head (λ (o : Object). o.number ≤ n.alarms) a os all)) os
      (All-tail (λ (o : Object). o.number ≤ n.alarms) a os all)

  counts_cyclics_due : (w : World Q) → HasCounts n w → (os : List Object) → All (λ o. o.number ≤ n.cyclics) os → HasCounts n (cyclics_due w p os)
  counts_cyclics_due w h [] all = h
  counts_cyclics_due w h (c ∷ os) all =
      counts_cyclics_due (with_cyclic_left (with_due w p (runner.Cyclic c)) c (Some (cyclic w c).setup.period))
      (counts_due w h p (runner.Cyclic c) (with_cyclic_left w c (Some (cyclic w c).setup.period)).cyclics_left w.alarms_left (All-head (λ (o : Object). o.number ≤ n.cyclics) c os all)) os
      (All-tail (λ (o : Object). o.number ≤ n.cyclics) c os all)

  counts_handlers_due : (w : World Q) → HasCounts n w → HasCounts n (with_handlers_due w p)
  unfolding with_handlers_due
  counts_handlers_due w h =
      let few_alarms : 1 + length w.alarms ≤ n.alarms + 1 = let same = h.alarms in omega (arith, same) in
      let few_cyclics : 1 + length w.cyclics ≤ n.cyclics + 1 = let same = h.cyclics in omega (arith, same) in
      counts_cyclics_due (alarms_due w p (expired w.alarms_left w.alarms))
      (counts_alarms_due w h (expired w.alarms_left w.alarms) (objects_up_to _ n.alarms 1 (length w.alarms) (omega arith) few_alarms)) (expired w.cyclics_left w.cyclics)
      (objects_up_to _ n.cyclics 1 (length w.cyclics) (omega arith) few_cyclics)

  released_tells : (k : Ordering Q) (w : World Q) → HasCounts n w → (ts : List Task) → ((t : Task) → IsAmong t ts → t.number ≤ n.tasks) → Serves n (length ts) (released k w ts)
  released_tells k w h [] numbers = record { counts = h; releases = All-nil (IsReleaseOf n); few = omega arith }
  released_tells k w h (t ∷ ts) numbers =
      serves_more n (length ts) _ (released k (make_ready k w t) ts) (numbers t (inl refl), tt) (released_tells k (make_ready k w t) (counts_ready n w h k t) ts (λ u i. numbers u (inr i)))

module _ {Q : Type 0} (k : Ordering Q) (lists : (v : World Q) → Lists k v) (n : Counts) (p : Proc) where
  tells_ticked : (w : World Q) → HasCounts n w → Tells n (ticked k w p)
  unfolding ticked
  tells_ticked w h =
      let timed : List Task = k.timed w.order w.waits_left in
      let ts : List Task = tasks_expired w.waits_left timed in
      let did = released_tells n p k w h ts (λ t i. rw (← h.waits_left) ((lists w).only_timed t (passed_among _ t timed i))) in
      let few = did.few in let passed = passed_few (λ (t : Task). is_over (item None w.waits_left t.number)) timed in
      let most = (lists w).few_timed in let same = h.waits_left in let tasks = h.few_tasks in
      record {
        counts = counts_handlers_due n p (released k w ts).0 did.counts;
        answer = tt;
        releases = did.releases;
        few = omega (arith, few, passed, most, same, tasks);
        lost = tt;
      }

  module _ (w : World Q) (h : HasCounts n w) where
    counts_down : HasCounts n (counted_down w p)
    unfolding counted_down
    counts_down =
        counts_objects n w h _ w.semaphores w.eventflags w.contents w.pools w.cyclics _ w.alarms _ w.due (lowered_length (λ r. counts_for w.timer p r.assigned) w.tasks w.waits_left) h.in_bits.patterns h.in_bits.contents
        h.in_bits.blocks refl refl h.due

    pub tells_tick : Tells n (tick k w p)
    tells_tick = tells_ticked (counted_down w p) counts_down
