-- Ticks in states that agree.
use Rattle.std.proofs.Common.{◌≡◌, ℕ, zero, suc, Bool, true, false, ◌||◌, List, [], ◌∷◌, ◌++◌, length, map, filter, refl, sym, ap, ◌∙◌, subst, Option, None, Some}
use Rattle.std.specs.Prelude.{slice_index_or, is_some, if◌then◌else◌}
use Rattle.std.specs.List.{range_with_len}
use Rattle.std.proofs.lemmas.Bool.{cond_both, false≢true, false_from_ne_true}
use Rattle.fmp_codes.specs.Numbers.{as_object}
use Rattle.fmp_codes.specs.Records.{answer_record}
use Rattle.fmp_codes.specs.declared.numbers.Object.{Object}
use Rattle.fmp_codes.specs.declared.numbers.Proc.{Proc}
use Rattle.fmp_codes.specs.declared.numbers.Task.{Task}
use Rattle.fmp_codes.specs.declared.records.Answer.TheVariants as answer
use Rattle.fmp_codes.specs.declared.records.Event.TheVariants as event
use Rattle.fmp_codes.specs.declared.records.Record.{Record}
use Rattle.fmp_codes.specs.declared.records.Release.{Release}
use Rattle.fmp_codes.specs.declared.records.Runner.{Runner}
use Rattle.fmp_codes.specs.declared.records.Runner.TheVariants as runner
use Rattle.fmp_setup.specs.Setup.{has_time, counts_for}
use Rattle.fmp_rules.specs.declared.machine.Alarm.{Alarm}
use Rattle.fmp_rules.specs.declared.machine.Cyclic.{Cyclic}
use Rattle.fmp_rules.specs.declared.machine.TaskRecord.{TaskRecord}
use Rattle.fmp_rules.specs.World.{World, no_task, item, processor, handler, first}
use Rattle.fmp_rules.specs.Objects.{cyclic}
use Rattle.fmp_rules.specs.Ordering.{Ordering}
use Rattle.fmp_rules.specs.Rows.{plain}
use Rattle.fmp_rules.specs.Tasks.{make_ready}
use Rattle.fmp_rules.specs.TimeCalls.{with_alarm_left, with_cyclic_left}
use Rattle.fmp_rules.specs.Tick.{one_less, lowered, is_over, code_of, tasks_expired, expired, counted_down, with_due, alarms_due, cyclics_due, with_handlers_due, released, ticked, tick}
use Rattle.fmp_rules.specs.Step.{step, unchanged}
use Rattle.fmp_law_footprint.specs.Cells.{Cell, OfTask, WaitOf, LeftOf, OfProcessor, DueOn, OfCyclic, OfAlarm, Shape, at, there, on, blank_cyclic, blank_alarm, value}
use Rattle.fmp_law_footprint.specs.Shapes.{Frame, frame}
use Rattle.fmp_law_footprint.specs.Footprints.{Within, IsLocal, Good, TellsTops}
use Rattle.fmp_law_footprint.specs.Words.{Each, Wakes}
use Rattle.fmp_law_footprint.specs.Covers.{CoversTick}
use Rattle.fmp_law_lists.specs.Reads.{Agree, ReadsCells, Own}
use Rattle.fmp_law_lists.specs.ReadsObjects.{Knows}
use Rattle.fmp_law_lists.specs.ReadsCalls.{ReadsTick}
use Rattle.fmp_law_lists.proofs.Agreeing.{if_alike, ready_alike, agree_due, agree_alarm_left, agree_cyclic_left}
use Rattle.fmp_law_footprint.proofs.Ticks.{lowered_length, released_rests, moves_tick}
use Rattle.fmp_law_lists.proofs.AlikeSteps.{runner_same, ends_alike}

-- counts that were the same fall alike
lowered_alike : {X : Type 0} (f g : X → Bool) (blank : X) (xs ys : List X) (ns ms : List (Option ℕ)) (n : ℕ) → length xs ≡ length ys → length ns ≡ length ms
    → f (slice_index_or xs n blank) ≡ g (slice_index_or ys n blank) → slice_index_or ns n None ≡ slice_index_or ms n None
    → slice_index_or (lowered f xs ns) n None ≡ slice_index_or (lowered g ys ms) n None
lowered_alike f g blank [] [] ns ms n few many same counts = counts
lowered_alike f g blank [] (y ∷ ys) ns ms n few many same counts = absurd (cc)
lowered_alike f g blank (x ∷ xs) [] ns ms n few many same counts = absurd (cc)
lowered_alike f g blank (x ∷ xs) (y ∷ ys) [] [] n few many same counts = counts
lowered_alike f g blank (x ∷ xs) (y ∷ ys) [] (m ∷ ms) n few many same counts = absurd (cc)
lowered_alike f g blank (x ∷ xs) (y ∷ ys) (n ∷ ns) [] i few many same counts = absurd (cc)
lowered_alike f g blank (x ∷ xs) (y ∷ ys) (n ∷ ns) (m ∷ ms) zero few many same counts = λ i. if same i then one_less (counts i) else counts i
lowered_alike f g blank (x ∷ xs) (y ∷ ys) (n ∷ ns) (m ∷ ms) (suc i) few many same counts = lowered_alike f g blank xs ys ns ms i (cc) (cc) same counts

filter_alike : {X : Type 0} (f g : X → Bool) (xs : List X) → Each (λ x. f x ≡ g x) xs → filter f xs ≡ filter g xs
filter_alike f g [] h = refl
filter_alike f g (x ∷ xs) h = λ i. if h.0 i then x ∷ filter_alike f g xs h.1 i else filter_alike f g xs h.1 i

each_all : {X : Type 0} (P : X → Type 0) (xs : List X) → ((x : X) → P x) → Each P xs
each_all P [] h = tt
each_all P (x ∷ xs) h = (h x, each_all P xs h)

-- what holds of those that pass a test
each_passing : {X : Type 0} (f : X → Bool) (P : X → Type 0) (xs : List X) → Each P (filter f xs) → Each (λ x. f x ≡ true → P x) xs
each_passing f P [] h = tt
each_passing f P (x ∷ xs) h = (λ e. first_passes (f x) e h, each_passing f P xs (rest_passes (f x) h))
  where
    first_passes : (b : Bool) → b ≡ true → Each P (if b then x ∷ filter f xs else filter f xs) → P x
    first_passes true e h = h.0
    first_passes false e h = absurd (false≢true e)

    rest_passes : (b : Bool) → Each P (if b then x ∷ filter f xs else filter f xs) → Each P (filter f xs)
    rest_passes true h = h.1
    rest_passes false h = h

each_both : {X : Type 0} (P R T : X → Type 0) (xs : List X) → ((x : X) → P x → R x → T x) → Each P xs → Each R xs → Each T xs
each_both P R T [] f a b = tt
each_both P R T (x ∷ xs) f a b = (f x a.0 b.0, each_both P R T xs f a.1 b.1)

-- two tests agree where S has what decides them, and it is the same, and where S does not and neither passes
decided : (known a b : Bool) → (known ≡ true → a ≡ b) → (a ≡ true → known ≡ true) → (b ≡ true → known ≡ true) → a ≡ b
decided true a b same f g = same refl
decided false a b same f g = false_from_ne_true a (λ e. false≢true (f e)) ∙ sym (false_from_ne_true b (λ e. false≢true (g e)))

module _ {Q : Type 0} (Part : Cell → Type 0) (part : Q → (c : Cell) → Part c) (f : Cell → Bool) (k : Ordering Q) (reads : ReadsCells Part part (Within f) k) where
  abbrev S : Cell → Type 0
  S = Within f

  abbrev Agrees : World Q → World Q → Type 0
  Agrees = Agree Part part S

  counts_alike : (v w : World Q) (p : Proc) → ((n : ℕ) → S (LeftOf n) → S (OfTask n)) → Agrees v w → Agrees (counted_down v p) (counted_down w p)
  unfolding counted_down
  counts_alike v w p tasks g = record { shape = shape; values = values; parts = g.parts }
    where
      in_tasks : World Q → TaskRecord → Bool
      in_tasks x r = counts_for x.timer p r.assigned

      in_cyclics : World Q → Cyclic → Bool
      in_cyclics x c = counts_for x.timer p c.assigned

      in_alarms : World Q → Alarm → Bool
      in_alarms x a = counts_for x.timer p a.assigned

      shape : frame (counted_down v p) ≡ frame (counted_down w p)
      shape = λ i. record (g.shape i) {
        waits_left =
            (lowered_length (in_tasks v) no_task v.tasks v.waits_left ∙ ap (λ (x : Frame). x.waits_left) g.shape ∙ sym
            (lowered_length (in_tasks w) no_task w.tasks w.waits_left)) i;
        cyclics_left =
            (lowered_length (in_cyclics v) blank_cyclic v.cyclics v.cyclics_left ∙ ap (λ (x : Frame). x.cyclics_left) g.shape ∙ sym
            (lowered_length (in_cyclics w) blank_cyclic w.cyclics w.cyclics_left)) i;
        alarms_left =
            (lowered_length (in_alarms v) blank_alarm v.alarms v.alarms_left ∙ ap (λ (x : Frame). x.alarms_left) g.shape ∙ sym
            (lowered_length (in_alarms w) blank_alarm w.alarms w.alarms_left)) i;
      }

      values : (c : Cell) → S c → value (counted_down v p) c ≡ value (counted_down w p) c
      values (LeftOf n) h =
          lowered_alike (in_tasks v) (in_tasks w) no_task v.tasks w.tasks v.waits_left w.waits_left n (ap (λ (x : Frame). x.tasks) g.shape)
          (ap (λ (x : Frame). x.waits_left) g.shape)
          (λ i. counts_for (g.shape i).timer p (g.values (OfTask n) (tasks n h) i).assigned) (g.values (LeftOf n) h)
      values (OfCyclic n) h =
          λ i. (
            (g.values (OfCyclic n) h i).0,
            lowered_alike (in_cyclics v) (in_cyclics w) blank_cyclic v.cyclics w.cyclics v.cyclics_left w.cyclics_left n (ap (λ (x : Frame). x.cyclics) g.shape)
                (ap (λ (x : Frame). x.cyclics_left) g.shape)
                (λ i. counts_for (g.shape i).timer p (g.values (OfCyclic n) h i).0.assigned) (ap (λ x. x.1) (g.values (OfCyclic n) h)) i,
          )
      values (OfAlarm n) h =
          λ i. (
            (g.values (OfAlarm n) h i).0,
            lowered_alike (in_alarms v) (in_alarms w) blank_alarm v.alarms w.alarms v.alarms_left w.alarms_left n (ap (λ (x : Frame). x.alarms) g.shape)
                (ap (λ (x : Frame). x.alarms_left) g.shape)
                (λ i. counts_for (g.shape i).timer p (g.values (OfAlarm n) h i).0.assigned) (ap (λ x. x.1) (g.values (OfAlarm n) h)) i,
          )
      values Shape h = shape
      values c h = g.values c h

  abbrev Releases : World Q × List Release → World Q × List Release → Type 0
  Releases d e = Agrees d.0 e.0 × (d.1 ≡ e.1)

  released_alike : (v w : World Q) (ts : List Task) → Each (Knows S) ts → Agrees v w → Releases (released k v ts) (released k w ts)
  released_alike v w [] n g = (g, refl)
  released_alike v w (t ∷ ts) n g =
      let others = released_alike (make_ready k v t) (make_ready k w t) ts n.1 (ready_alike Part part S k reads v w t n.0 g) in
      (others.0, λ i. record { task = t; code = code_of (g.values (WaitOf (at t)) n.0.1 i); value = None } ∷ others.1 i)

  due_alike : (v w : World Q) (p : Proc) (x : Runner) → S (DueOn (on p)) → Agrees v w → Agrees (with_due v p x) (with_due w p x)
  due_alike v w p x h g = agree_due Part part S v w p _ _ (ap (λ (hs : List Runner). hs ++ x ∷ []) (g.values (DueOn (on p)) h)) g

  alarms_alike : (v w : World Q) (p : Proc) (xs : List Object) → S (DueOn (on p)) → Agrees v w → Agrees (alarms_due v p xs) (alarms_due w p xs)
  alarms_alike v w p [] h g = g
  alarms_alike v w p (a ∷ xs) h g =
      alarms_alike (with_alarm_left (with_due v p (runner.Alarm a)) a None) (with_alarm_left (with_due w p (runner.Alarm a)) a None) p xs h
      (agree_alarm_left Part part S (with_due v p (runner.Alarm a)) (with_due w p (runner.Alarm a)) a None None refl (due_alike v w p (runner.Alarm a) h g))

  cyclics_alike : (v w : World Q) (p : Proc) (xs : List Object) → S (DueOn (on p)) → Each (λ c. S (OfCyclic (there c))) xs → Agrees v w
      → Agrees (cyclics_due v p xs) (cyclics_due w p xs)
  cyclics_alike v w p [] h n g = g
  cyclics_alike v w p (c ∷ xs) h n g =
      let left : Option ℕ = Some (cyclic v c).setup.period in
      let also : Option ℕ = Some (cyclic w c).setup.period in
      cyclics_alike (with_cyclic_left (with_due v p (runner.Cyclic c)) c left) (with_cyclic_left (with_due w p (runner.Cyclic c)) c also) p xs h n.1
      (agree_cyclic_left Part part S (with_due v p (runner.Cyclic c)) (with_due w p (runner.Cyclic c)) c left also
      (ap (λ x. Some x.0.setup.period) (g.values (OfCyclic (there c)) n.0))
      (due_alike v w p (runner.Cyclic c) h g))

  abbrev OverAlarms : World Q → Type 0
  OverAlarms w = (n : ℕ) → is_over (slice_index_or w.alarms_left n None) ≡ true → S (OfAlarm n)

  abbrev OverCyclics : World Q → Type 0
  OverCyclics w = (n : ℕ) → is_over (slice_index_or w.cyclics_left n None) ≡ true → S (OfCyclic n)

  alarms_same : (v w : World Q) → OverAlarms v → OverAlarms w → Agrees v w → expired v.alarms_left v.alarms ≡ expired w.alarms_left w.alarms
  alarms_same v w a b g =
      filter_alike (λ o. is_over (item None v.alarms_left o.number)) (λ o. is_over (item None w.alarms_left o.number))
      (map as_object (range_with_len 1 (length v.alarms)))
      (each_all _ _ (λ o. decided (f (OfAlarm (there o))) _ _ (λ h. ap (λ x. is_over x.1) (g.values (OfAlarm (there o)) h)) (a (there o)) (b (there o))))
      ∙ ap (λ (x : Frame). filter (λ o. is_over (item None w.alarms_left o.number)) (map as_object (range_with_len 1 x.alarms))) g.shape

  cyclics_same : (v w : World Q) → OverCyclics v → OverCyclics w → Agrees v w → expired v.cyclics_left v.cyclics ≡ expired w.cyclics_left w.cyclics
  cyclics_same v w a b g =
      filter_alike (λ o. is_over (item None v.cyclics_left o.number)) (λ o. is_over (item None w.cyclics_left o.number))
      (map as_object (range_with_len 1 (length v.cyclics)))
      (each_all _ _ (λ o. decided (f (OfCyclic (there o))) _ _ (λ h. ap (λ x. is_over x.1) (g.values (OfCyclic (there o)) h)) (a (there o)) (b (there o))))
      ∙ ap (λ (x : Frame). filter (λ o. is_over (item None w.cyclics_left o.number)) (map as_object (range_with_len 1 x.cyclics))) g.shape

  each_over : (w : World Q) (xs : List Object) → OverCyclics w → Each (λ c. S (OfCyclic (there c))) (filter (λ o. is_over (item None w.cyclics_left o.number)) xs)
  each_over w [] h = tt
  each_over w (x ∷ xs) h =
      cond_both (is_over (item None w.cyclics_left x.number)) _ _ (Each (λ c. S (OfCyclic (there c)))) (λ e. (h (there x) e, each_over w xs h)) (λ _. each_over w xs h)

  handlers_alike : (v w : World Q) (p : Proc) → S (DueOn (on p)) → OverAlarms v → OverAlarms w → OverCyclics v → OverCyclics w → Agrees v w
      → Agrees (with_handlers_due v p) (with_handlers_due w p)
  unfolding with_handlers_due
  handlers_alike v w p h a b c d g =
      let xs : List Object = expired w.alarms_left w.alarms in
      let ys : List Object = expired w.cyclics_left w.cyclics in
      subst (λ zs. Agrees (cyclics_due (alarms_due v p zs) p (expired v.cyclics_left v.cyclics)) (cyclics_due (alarms_due w p xs) p ys)) (sym (alarms_same v w a b g))
      (subst (λ zs. Agrees (cyclics_due (alarms_due v p xs) p zs) (cyclics_due (alarms_due w p xs) p ys)) (sym (cyclics_same v w c d g))
      (cyclics_alike (alarms_due v p xs) (alarms_due w p xs) p ys h (each_over w _ d) (alarms_alike v w p xs h g)))

  abbrev over_in : World Q → Task → Bool
  over_in u t = is_over (item None u.waits_left t.number)

  module _ (v w : World Q) (p : Proc) (own : Own S p) (g : Agrees v w) (h : ReadsTick k S w p) (of_v : CoversTick k S v p) (of_w : CoversTick k S w p) where
    counted_alike : Agrees (counted_down v p) (counted_down w p)
    counted_alike = counts_alike v w p h.tasks g

    timed_same : k.timed (counted_down v p).order (counted_down v p).waits_left ≡ k.timed (counted_down w p).order (counted_down w p).waits_left
    timed_same = reads.timed (counted_down v p).order (counted_down w p).order (counted_down v p).waits_left (counted_down w p).waits_left h.timed counted_alike.parts

    -- the tasks whose time is over
    over_same : tasks_expired (counted_down v p).waits_left (k.timed (counted_down v p).order (counted_down v p).waits_left)
        ≡ tasks_expired (counted_down w p).waits_left (k.timed (counted_down w p).order (counted_down w p).waits_left)
    over_same =
        let ts : List Task = k.timed (counted_down v p).order (counted_down v p).waits_left in
        let us : List Task = k.timed (counted_down w p).order (counted_down w p).waits_left in
        let passes_v = each_passing (over_in (counted_down v p)) (Wakes S) ts of_v.released in
        let passes_w =
        subst (λ zs. Each (λ t. over_in (counted_down w p) t ≡ true → Wakes S t) zs) (sym timed_same)
        (each_passing (over_in (counted_down w p)) (Wakes S) us of_w.released) in
        filter_alike (over_in (counted_down v p)) (over_in (counted_down w p)) ts
        (each_both (λ t. over_in (counted_down v p) t ≡ true → Wakes S t) (λ t. over_in (counted_down w p) t ≡ true → Wakes S t)
        (λ t. over_in (counted_down v p) t ≡ over_in (counted_down w p) t) ts
        (λ t a b. decided (f (LeftOf (at t))) _ _ (λ e. ap is_over (counted_alike.values (LeftOf (at t)) e)) (λ e. (a e).1) (λ e. (b e).1)) passes_v passes_w)
        ∙ ap (tasks_expired (counted_down w p).waits_left) timed_same

    pub tick_alike : Agrees (tick k v p).0 (tick k w p).0 × ((tick k v p).1 ≡ (tick k w p).1)
    unfolding ticked
    tick_alike =
        let ts : List Task = tasks_expired (counted_down v p).waits_left (k.timed (counted_down v p).order (counted_down v p).waits_left) in
        let us : List Task = tasks_expired (counted_down w p).waits_left (k.timed (counted_down w p).order (counted_down w p).waits_left) in
        let did : Releases (released k (counted_down v p) ts) (released k (counted_down w p) us) =
        subst (λ zs. Releases (released k (counted_down v p) zs) (released k (counted_down w p) us)) (sym over_same)
        (released_alike (counted_down v p) (counted_down w p) us h.over counted_alike) in
        let rests = released_rests k (counted_down v p) ts in
        let also = released_rests k (counted_down w p) us in (
          handlers_alike (released k (counted_down v p) ts).0 (released k (counted_down w p) us).0 p own.due
              (λ n e. of_v.alarms_due n (sym (ap (λ (ns : List (Option ℕ)). is_over (slice_index_or ns n None)) rests.1) ∙ e))
              (λ n e. of_w.alarms_due n (sym (ap (λ (ns : List (Option ℕ)). is_over (slice_index_or ns n None)) also.1) ∙ e))
              (λ n e. of_v.cyclics_due n (sym (ap (λ (ns : List (Option ℕ)). is_over (slice_index_or ns n None)) rests.0) ∙ e))
              (λ n e. of_w.cyclics_due n (sym (ap (λ (ns : List (Option ℕ)). is_over (slice_index_or ns n None)) also.0) ∙ e)) did.0,
          ap (λ rs. record (plain answer.Taken) { releases = rs }) did.1,
        )

module _ {Q : Type 0} (Part : Cell → Type 0) (part : Q → (c : Cell) → Part c) (f : Cell → Bool) (Inside : Q → Type 0) (k : Ordering Q)
    (laws : IsLocal Part part (Within f) Inside k)
    (tells : TellsTops Part part (Within f) Inside k) (shape : Within f Shape → ⊥) (reads : ReadsCells Part part (Within f) k) (v w : World Q) (p : Proc)
    (own : Own (Within f) p)
    (good : Good Part part (Within f) Inside v) (well : Good Part part (Within f) Inside w) (g : Agree Part part (Within f) v w) where
  abbrev Alike : World Q × Record → World Q × Record → Type 0
  Alike d e = Agree Part part (Within f) d.0 e.0 × (d.1 ≡ e.1)

  pub tick_step_alike : ReadsTick k (Within f) w p → CoversTick k (Within f) v p → CoversTick k (Within f) w p → Alike (step k v (event.Tick p)) (step k w (event.Tick p))
  unfolding unchanged
  tick_step_alike h of_v of_w =
      let e = event.Tick p in
      let runners = runner_same Part part f Inside k tells shape reads p own v w g in
      let here = g.values (OfProcessor (on p)) own.processor in
      let due = g.values (DueOn (on p)) own.due in
      let did = tick_alike Part part f k reads v w p own g h of_v of_w in
      if_alike Alike (has_time v.timer p) (has_time w.timer p) (ap (λ (x : Frame). has_time x.timer p) g.shape)
      (if_alike Alike ((processor v p).locked || is_some (handler v p)) ((processor w p).locked || is_some (handler w p))
      (λ i. (here i).locked || is_some (first (due i)))
      (g, ap (λ o. answer_record e o answer.Held) runners)
      (ends_alike Part part f Inside k tells shape reads p own v (tick k v p).0 w (tick k w p).0 g did.0 good
      (moves_tick Part part (Within f) Inside k laws v p of_v good) well
      (moves_tick Part part (Within f) Inside k laws w p of_w well) e (tick k v p).1 (tick k w p).1 did.1))
      (g, ap (λ o. answer_record e o answer.Nothing) runners)
