-- A tick changes at most the cells that cover it.
use Rattle.std.proofs.Common.{◌≡◌, ℕ, zero, suc, Bool, true, List, [], ◌∷◌, length, filter, refl, sym, ap, ◌∙◌, Option, None, Some}
use Rattle.std.specs.Prelude.{slice_index_or}
use Rattle.std.proofs.lemmas.Bool.{cond_both}
use Rattle.fmp_codes.specs.declared.numbers.Object.{Object}
use Rattle.fmp_codes.specs.declared.numbers.Proc.{Proc}
use Rattle.fmp_codes.specs.declared.numbers.Task.{Task}
use Rattle.fmp_codes.specs.declared.records.Runner.TheVariants as runner
use Rattle.fmp_setup.specs.Setup.{counts_for}
use Rattle.fmp_rules.specs.declared.machine.TaskRecord.{TaskRecord}
use Rattle.fmp_rules.specs.declared.machine.Cyclic.{Cyclic}
use Rattle.fmp_rules.specs.declared.machine.Alarm.{Alarm}
use Rattle.fmp_rules.specs.World.{World, no_task}
use Rattle.fmp_rules.specs.Objects.{cyclic}
use Rattle.fmp_rules.specs.Ordering.{Ordering}
use Rattle.fmp_rules.specs.Tasks.{make_ready}
use Rattle.fmp_rules.specs.TimeCalls.{with_alarm_left, with_cyclic_left}
use Rattle.fmp_rules.specs.Tick.{one_less, lowered, is_over, tasks_expired, expired, counted_down, with_due, alarms_due, cyclics_due, with_handlers_due, released, ticked, tick}
use Rattle.fmp_law_footprint.specs.Cells.{Cell, LeftOf, DueOn, OfCyclic, OfAlarm, Shape, there, on, blank_cyclic, blank_alarm}
use Rattle.fmp_law_footprint.specs.Shapes.{frame}
use Rattle.fmp_law_footprint.specs.Footprints.{InTimed, Leaves, IsLocal, Moves}
use Rattle.fmp_law_footprint.specs.Words.{Each, Wakes}
use Rattle.fmp_law_footprint.specs.Covers.{CoversTick}
use Rattle.fmp_law_footprint.proofs.Moves.{moves_all, moves_then, moves_beside, leaves_then}
use Rattle.fmp_law_footprint.proofs.Others.{leaves_due, leaves_cyclic_left, leaves_alarm_left}
use Rattle.fmp_law_footprint.proofs.Words.{moves_ready}

-- Counts that fall.

module _ {X : Type 0} (qualifies : X → Bool) (blank : X) where
  pub lowered_length : (xs : List X) (ns : List (Option ℕ)) → length (lowered qualifies xs ns) ≡ length ns
  lowered_length [] ns = refl
  lowered_length (x ∷ xs) [] = refl
  lowered_length (x ∷ xs) (n ∷ ns) = ap suc (lowered_length xs ns)

  -- what does not qualify keeps its count
  lowered_spares : (xs : List X) (ns : List (Option ℕ)) (i : ℕ) → (qualifies (slice_index_or xs i blank) ≡ true → ⊥)
      → slice_index_or (lowered qualifies xs ns) i None ≡ slice_index_or ns i None
  lowered_spares [] ns i off = refl
  lowered_spares (x ∷ xs) [] i off = refl
  lowered_spares (x ∷ xs) (n ∷ ns) zero off = cond_both (qualifies x) (one_less n) n (λ (m : Option ℕ). m ≡ n) (λ e. absurd (off e)) (λ _. refl)
  lowered_spares (x ∷ xs) (n ∷ ns) (suc i) off = lowered_spares xs ns i off

  -- where a count was, one is left
  lowered_has : (S : Cell → Type 0) (xs : List X) (ns : List (Option ℕ)) (i : ℕ) → InTimed S (slice_index_or ns i None)
      → InTimed S (slice_index_or (lowered qualifies xs ns) i None)
  lowered_has S [] ns i h = h
  lowered_has S (x ∷ xs) [] i h = h
  lowered_has S (x ∷ xs) (n ∷ ns) zero h = cond_both (qualifies x) (one_less n) n (InTimed S) (λ _. less n h) (λ _. h)
    where
      less : (n : Option ℕ) → InTimed S n → InTimed S (one_less n)
      less None h = h
      less (Some m) h = h
  lowered_has S (x ∷ xs) (n ∷ ns) (suc i) h = lowered_has S xs ns i h

each_filtered : {X : Type 0} (f : X → Bool) (P : X → Type 0) (xs : List X) → ((x : X) → f x ≡ true → P x) → Each P (filter f xs)
each_filtered f P [] h = tt
each_filtered f P (x ∷ xs) h = cond_both (f x) _ _ (Each P) (λ e. (h x e, each_filtered f P xs h)) (λ _. each_filtered f P xs h)

module _ {Q : Type 0} (k : Ordering Q) where
  -- releases leave the counts of handlers
  pub released_rests : (w : World Q) (ts : List Task) → ((released k w ts).0.cyclics_left ≡ w.cyclics_left) × ((released k w ts).0.alarms_left ≡ w.alarms_left)
  released_rests w [] = (refl, refl)
  released_rests w (t ∷ ts) = released_rests (make_ready k w t) ts

module _ {Q : Type 0} (Part : Cell → Type 0) (part : Q → (c : Cell) → Part c) (S : Cell → Type 0) (Inside : Q → Type 0) (k : Ordering Q)
    (laws : IsLocal Part part S Inside k) where
  abbrev MovesTo : World Q → World Q → Type 0
  MovesTo = Moves Part part S Inside

  leaves_counts : (w : World Q) (p : Proc) → CoversTick k S w p → Leaves S w (counted_down w p)
  unfolding counted_down
  leaves_counts w p h (LeftOf n) off = lowered_spares (λ (r : TaskRecord). counts_for w.timer p r.assigned) no_task w.tasks w.waits_left n (λ e. off (h.left n e))
  leaves_counts w p h (OfCyclic n) off =
      λ i. (
        slice_index_or w.cyclics n blank_cyclic,
        lowered_spares (λ (c : Cyclic). counts_for w.timer p c.assigned) blank_cyclic w.cyclics w.cyclics_left n
            (λ e. off (h.cyclics n e)) i,
      )
  leaves_counts w p h (OfAlarm n) off =
      λ i. (
        slice_index_or w.alarms n blank_alarm,
        lowered_spares (λ (a : Alarm). counts_for w.timer p a.assigned) blank_alarm w.alarms w.alarms_left n
            (λ e. off (h.alarms n e)) i,
      )
  leaves_counts w p h Shape off = λ i. record (frame w) {
    waits_left = lowered_length (λ (r : TaskRecord). counts_for w.timer p r.assigned) no_task w.tasks w.waits_left i;
    cyclics_left = lowered_length (λ (c : Cyclic). counts_for w.timer p c.assigned) blank_cyclic w.cyclics w.cyclics_left i;
    alarms_left = lowered_length (λ (a : Alarm). counts_for w.timer p a.assigned) blank_alarm w.alarms w.alarms_left i;
  }
  leaves_counts w p h _ off = refl

  moves_counts : (w : World Q) (p : Proc) → CoversTick k S w p → MovesTo w (counted_down w p)
  unfolding counted_down
  moves_counts w p h g = record {
    closed = record {
      ready = g.closed.ready;
      queue = g.closed.queue;
      timed = λ n s. lowered_has (λ (r : TaskRecord). counts_for w.timer p r.assigned) no_task S w.tasks w.waits_left n (g.closed.timed n s);
    };
    inside = g.inside;
    leaves = leaves_counts w p h;
    spares = λ c off. refl;
  }

  moves_released : (w : World Q) (ts : List Task) → Each (Wakes S) ts → MovesTo w (released k w ts).0
  moves_released w [] h = moves_all Part part S Inside w
  moves_released w (t ∷ ts) h =
      moves_then Part part S Inside w (make_ready k w t) _ (moves_ready Part part S Inside k laws w t h.0) (moves_released (make_ready k w t) ts h.1)

  moves_alarms : (w : World Q) (p : Proc) (xs : List Object) → S (DueOn (on p)) → Each (λ a. S (OfAlarm (there a))) xs → MovesTo w (alarms_due w p xs)
  moves_alarms w p [] due h = moves_all Part part S Inside w
  moves_alarms w p (a ∷ xs) due h =
      let v : World Q = with_due w p (runner.Alarm a) in
      moves_then Part part S Inside w (with_alarm_left v a None) _
      (moves_beside Part part S Inside w (with_alarm_left v a None) refl refl refl
      (leaves_then S w v (with_alarm_left v a None) (leaves_due S w p _ due) (leaves_alarm_left S v a None h.0)))
      (moves_alarms (with_alarm_left v a None) p xs due h.1)

  moves_cyclics : (w : World Q) (p : Proc) (xs : List Object) → S (DueOn (on p)) → Each (λ c. S (OfCyclic (there c))) xs → MovesTo w (cyclics_due w p xs)
  moves_cyclics w p [] due h = moves_all Part part S Inside w
  moves_cyclics w p (c ∷ xs) due h =
      let v : World Q = with_due w p (runner.Cyclic c) in
      let left : Option ℕ = Some (cyclic w c).setup.period in
      moves_then Part part S Inside w (with_cyclic_left v c left) _
      (moves_beside Part part S Inside w (with_cyclic_left v c left) refl refl refl
      (leaves_then S w v (with_cyclic_left v c left) (leaves_due S w p _ due) (leaves_cyclic_left S v c left h.0)))
      (moves_cyclics (with_cyclic_left v c left) p xs due h.1)

  moves_handlers : (w : World Q) (p : Proc) → S (DueOn (on p)) → ((n : ℕ) → is_over (slice_index_or w.cyclics_left n None) ≡ true → S (OfCyclic n))
      → ((n : ℕ) → is_over (slice_index_or w.alarms_left n None) ≡ true → S (OfAlarm n)) → MovesTo w (with_handlers_due w p)
  unfolding with_handlers_due
  moves_handlers w p due cyclics alarms =
      let v : World Q = alarms_due w p (expired w.alarms_left w.alarms) in
      moves_then Part part S Inside w v _
      (moves_alarms w p (expired w.alarms_left w.alarms) due (each_filtered _ (λ a. S (OfAlarm (there a))) _ (λ a e. alarms (there a) e)))
      (moves_cyclics v p (expired w.cyclics_left w.cyclics) due (each_filtered _ (λ c. S (OfCyclic (there c))) _ (λ c e. cyclics (there c) e)))

  pub moves_tick : (w : World Q) (p : Proc) → CoversTick k S w p → MovesTo w (tick k w p).0
  unfolding ticked
  moves_tick w p h =
      let u : World Q = counted_down w p in
      let ts : List Task = tasks_expired u.waits_left (k.timed u.order u.waits_left) in
      let v : World Q = (released k u ts).0 in
      let rests = released_rests k u ts in
      moves_then Part part S Inside w u _ (moves_counts w p h)
      (moves_then Part part S Inside u v _ (moves_released u ts h.released)
      (moves_handlers v p h.due (λ n e. h.cyclics_due n (sym (ap (λ (ns : List (Option ℕ)). is_over (slice_index_or ns n None)) rests.0) ∙ e))
      (λ n e. h.alarms_due n (sym (ap (λ (ns : List (Option ℕ)). is_over (slice_index_or ns n None)) rests.1) ∙ e))))
