-- A tick lowers counts and serves those at 0, on lists as on numbers.
use Rattle.std.proofs.Common.{◌≡◌, ℕ, zero, suc, ◌-◌, Bool, true, false, if◌then◌else◌, List, [], ◌∷◌, length, refl, sym, ap, ◌∙◌, subst, arith, Option, Some, None}
use Rattle.std.specs.Prelude.{is_some, slice_index_or}
use Rattle.fmp_law_safety.proofs.TellsTick.{lowered_length}
use Rattle.fmp_codes.specs.declared.numbers.Proc.{Proc}
use Rattle.fmp_codes.specs.declared.numbers.Task.{Task}
use Rattle.fmp_codes.specs.declared.numbers.Object.{Object}
use Rattle.fmp_codes.specs.declared.records.Release.{Release}
use Rattle.fmp_codes.specs.declared.records.Runner.TheVariants as runner
use Rattle.fmp_codes.specs.declared.records.Answer.TheVariants as answer
use Rattle.fmp_rules.specs.Effects.{Effect}
use Rattle.fmp_setup.specs.Setup.{counts_for}
use Rattle.fmp_rules.specs.World.{World, task, item}
use Rattle.fmp_rules.specs.Objects.{cyclic}
use Rattle.fmp_rules.specs.Ordering.{order_in}
use Rattle.fmp_rules.specs.Arrivals.{State, numbered}
use Rattle.fmp_rules.specs.Tasks.{make_ready}
use Rattle.fmp_rules.specs.Rows.{plain}
use Rattle.fmp_rules.specs.TimeCalls.{with_alarm_left, with_cyclic_left}
use Rattle.fmp_rules.specs.Tick.{one_less, lowered, counted_down, code_of, released, with_due, alarms_due, cyclics_due, is_over, tasks_expired, expired, with_handlers_due, ticked, tick}
use Rattle.fmp_kernel_order.specs.Queues.{Queues, listed}
use Rattle.fmp_law_lists.specs.Stands.{count_in, with_order, AreListsOf, Matches}
use Rattle.fmp_law_lists.proofs.Waits.{waits_ticked}
use Rattle.fmp_law_lists.proofs.Tops.{same_timed, waits_within}
use Rattle.fmp_law_lists.proofs.Matching.{matches}
use Rattle.fmp_law_lists.proofs.Releases.{Frees, frees_none, frees_and, AllWithin, all_within, filtered_within, freed, still_within}

-- The counts fall, and none is gone.

some_less : (b : Bool) (n : Option ℕ) → is_some n ≡ is_some (if b then one_less n else n)
some_less true None = refl
some_less true (Some n) = refl
some_less false n = refl

lowered_at : {X : Type 0} (f : X → Bool) (xs : List X) (ns : List (Option ℕ)) (i : ℕ) → length ns ≡ length xs → is_some (slice_index_or ns i None) ≡ is_some (slice_index_or (lowered f xs ns) i None)
lowered_at f [] ns i h = refl
lowered_at f (x ∷ xs) [] i h = refl
lowered_at f (x ∷ xs) (n ∷ ns) zero h = some_less (f x) n
lowered_at f (x ∷ xs) (n ∷ ns) (suc i) h = lowered_at f xs ns i (omega (arith, h))

keeps_lower : (m : State) (q : Queues) → AreListsOf q m → (p : Proc) → AreListsOf q (counted_down m p)
unfolding counted_down
keeps_lower m q s p = record {
  ready = s.ready;
  waits = waits_ticked m.tasks (order_in m) m.waits_left (counted_down m p).waits_left q.waits q.timed m.order.begun m.order.next
      (λ t. lowered_at (λ r. counts_for m.timer p r.assigned) m.tasks m.waits_left (t.number - 1) s.waits.left_counted) (lowered_length (λ r. counts_for m.timer p r.assigned) m.tasks m.waits_left) s.waits;
  sized = s.sized;
}

-- Waits end, one after another.

ends : (ts : List Task) (m : State) (q : Queues) → AreListsOf q m → AllWithin (length m.tasks) ts → Frees (released listed (with_order m q) ts) (released numbered m ts)
ends [] m q s a = frees_none m q s
ends (t ∷ ts) m q s a =
    frees_and (record { task = t; code = code_of (task m t).wait; value = None }) _ _
    (ends ts (make_ready numbered m t) (make_ready listed (with_order m q) t).order (freed m q s t a.0) (still_within m t ts a.1))

-- Handlers become due, and no order changes.

module _ (q : Queues) (p : Proc) where
  due_alarms : (m : State) → AreListsOf q m → (os : List Object) → (alarms_due (with_order m q) p os ≡ with_order (alarms_due m p os) q) × AreListsOf q (alarms_due m p os)
  due_alarms m s [] = (refl, s)
  due_alarms m s (a ∷ os) = due_alarms (with_alarm_left (with_due m p (runner.Alarm a)) a None) s os

  due_cyclics : (m : State) → AreListsOf q m → (os : List Object) → (cyclics_due (with_order m q) p os ≡ with_order (cyclics_due m p os) q) × AreListsOf q (cyclics_due m p os)
  due_cyclics m s [] = (refl, s)
  due_cyclics m s (c ∷ os) = due_cyclics (with_cyclic_left (with_due m p (runner.Cyclic c)) c (Some (cyclic m c).setup.period)) s os

  due_handlers : (m : State) → AreListsOf q m → (with_handlers_due (with_order m q) p ≡ with_order (with_handlers_due m p) q) × AreListsOf q (with_handlers_due m p)
  unfolding with_handlers_due
  due_handlers m s =
      let alarms : List Object = expired m.alarms_left m.alarms in
      let cyclics : List Object = expired m.cyclics_left m.cyclics in
      let one = due_alarms m s alarms in
      let two = due_cyclics (alarms_due m p alarms) one.1 cyclics in
      (ap (λ (x : World Queues). cyclics_due x p cyclics) one.0 ∙ two.0, two.1)

-- The tick.

-- what a tick does after these releases
abbrev taken : {Q : Type 0} → Proc → (World Q × List Release) → World Q × Effect
taken p waits = (with_handlers_due waits.0 p, record (plain answer.Taken) { releases = waits.1 })

takes : (p : Proc) (a : World Queues × List Release) (b : State × List Release) → Frees a b → Matches (taken p a) (taken p b)
takes p a b f =
    let due = due_handlers a.0.order p b.0 f.stands.order in
    let is : a ≡ (with_order b.0 a.0.order, b.1) = λ i. (f.stands.same i, f.releases i) in
    subst (λ (x : World Queues × List Release). Matches (taken p x) (taken p b)) (sym is)
    (subst (λ (x : World Queues). Matches (x, record (plain answer.Taken) { releases = b.1 }) (taken p b)) (sym due.0) (matches (with_handlers_due b.0 p) a.0.order due.1 _))

module _ (m : State) (q : Queues) (s : AreListsOf q m) (p : Proc) where
  -- the tasks whose time is over are there
  over_within : (v : State) → AreListsOf q v → AllWithin (length v.tasks) (tasks_expired v.waits_left q.timed)
  over_within v k =
      filtered_within (length v.tasks) (λ u. is_over (item None v.waits_left u.number)) q.timed
      (all_within (length v.tasks) q.timed (λ t i. waits_within v.tasks t (k.waits.timed_wait t (sym (k.waits.timed.members t) ∙ i))))

  pub tick_matches : Matches (tick listed (with_order m q) p) (tick numbered m p)
  unfolding ticked counted_down listed
  tick_matches =
      let v : State = counted_down m p in
      let k : AreListsOf q v = keeps_lower m q s p in
      let ts : List Task = tasks_expired v.waits_left q.timed in
      let same : q.timed ≡ numbered.timed v.order v.waits_left = same_timed v.tasks (order_in v) (count_in v) v.waits_left q v.order k in
      subst (λ us. Matches (taken p (released listed (with_order v q) ts)) (taken p (released numbered v (tasks_expired v.waits_left us)))) same
      (takes p (released listed (with_order v q) ts) (released numbered v ts) (ends ts v q k (over_within v k)))
