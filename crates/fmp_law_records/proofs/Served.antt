-- A task that is released is the next in its queue, and several are released in their order.
use Rattle.std.proofs.Common.{◌≡◌, ℕ, ◌≤◌, inl, inr, ◌==◌, ℤ, Bool, true, false, ◌&&◌, ◌||◌, List, [], length, refl, sym, ap, ◌∙◌, subst, Option, Some, None, ⊎_elim}
use Rattle.std.specs.Prelude.{All, is_some, unwrap_or, nat_lt, option_map, bit_or, slice_index_or}
use Rattle.std.proofs.lemmas.Bool.{false≢true, both_ways, eqb-true}
use Rattle.std.proofs.lemmas.List.Elements.{All-nil}
use Rattle.fmp_codes.specs.Numbers.{as_object}
use Rattle.fmp_codes.specs.declared.numbers.Proc.{Proc}
use Rattle.fmp_codes.specs.declared.numbers.Task.{Task}
use Rattle.fmp_codes.specs.declared.numbers.Pri.{Pri}
use Rattle.fmp_codes.specs.declared.numbers.Object.{Object}
use Rattle.fmp_codes.specs.declared.calls.Mode.{Mode}
use Rattle.fmp_codes.specs.declared.calls.Call.{Call}
use Rattle.fmp_codes.specs.declared.calls.Call.TheVariants as call
use Rattle.fmp_codes.specs.declared.calls.TaskCall.TheVariants as tasks
use Rattle.fmp_codes.specs.declared.calls.SyncCall.TheVariants as sync
use Rattle.fmp_codes.specs.declared.records.Event.{Event}
use Rattle.fmp_codes.specs.declared.records.Event.TheVariants as event
use Rattle.fmp_codes.specs.declared.records.Record.{Record}
use Rattle.fmp_codes.specs.declared.records.Release.{Release}
use Rattle.fmp_codes.specs.Records.{is_tick}
use Rattle.fmp_codes.proofs.Same.{objects_same}
use Rattle.fmp_setup.specs.declared.setup.Order.{Order}
use Rattle.fmp_setup.specs.declared.setup.Order.TheVariants as order
use Rattle.fmp_setup.specs.Setup.{Setup}
use Rattle.fmp_rules.specs.declared.machine.TaskRecord.{TaskRecord}
use Rattle.fmp_rules.specs.declared.machine.Wait.{Wait}
use Rattle.fmp_rules.specs.declared.machine.Wait.TheVariants as wait
use Rattle.fmp_rules.specs.declared.machine.QueueKind.{QueueKind}
use Rattle.fmp_rules.specs.declared.machine.QueueKind.TheVariants as kind
use Rattle.fmp_rules.specs.World.{no_task, item, task}
use Rattle.fmp_rules.specs.Objects.{eventflag}
use Rattle.fmp_rules.specs.Ordering.{is_in, waits_in, order_in, queue}
use Rattle.fmp_rules.specs.Arrivals.{State, numbered, comes_before, rank_in}
use Rattle.fmp_rules.specs.Arguments.{object_named, task_or_caller}
use Rattle.fmp_rules.specs.Rows.{called, in_handler}
use Rattle.fmp_rules.specs.TaskCalls.{is_sleep, chg_pri}
use Rattle.fmp_rules.specs.SyncCalls.{set_flg, served}
use Rattle.fmp_rules.specs.Tick.{tick, ticked, counted_down, tasks_expired, is_over}
use Rattle.fmp_rules.specs.Step.{row_of, step}
use Rattle.fmp_law_safety.specs.First.{IsFirst, waits_at}
use Rattle.fmp_law_safety.specs.Safe.{Safe}
use Rattle.fmp_law_safety.proofs.First.{comes_before_is_strict, queue_is_first}
use Rattle.fmp_law_safety.proofs.Listed.{numbered_lists, not_past}
use Rattle.fmp_law_balance.specs.Accepted.{is_accepted, names}
use Rattle.fmp_law_balance.proofs.Called.{by_called, either_way}
use Rattle.fmp_law_balance.proofs.Objects.{object_known}
use Rattle.fmp_law_balance.specs.Waits.Asked.{OpenWait}
use Rattle.fmp_law_balance.specs.Waits.Releases.{breaks_off, sets}
use Rattle.fmp_law_balance.proofs.waits.Events.{by_event}
use Rattle.fmp_law_balance.proofs.waits.Follows.{Sound}
use Rattle.fmp_law_balance.proofs.waits.Ticks.{numbered_once, follows_tick}
use Rattle.fmp_law_balance.proofs.waits.Words.{IsKept}
use Rattle.fmp_law_records.specs.Served.{is_priority, is_by_priority, is_beside, Places, began_before, is_served_before, IsNext, AreInOrder, is_flag_wait, is_for_bits, is_flag_by_priority, ServesInOrder}
use Rattle.fmp_law_records.proofs.Joins.{IsFirstSomewhere, MayRelease, Stands, Joins, is_of_priority, call_did, served_all, all_among}
use Rattle.fmp_law_records.proofs.Sorted.{in_order_sorted, sorted_filter, released_sorted, served_sorted, same_order}
use Rattle.fmp_law_records.proofs.Places.{ordered_as, ArePlaced}

-- Waits in one queue.

flag_is_in : (k : QueueKind) (o f : Object) (x y : ℕ) (a b : Mode) → is_in k o (wait.Eventflag f x a) ≡ is_in k o (wait.Eventflag f y b)
flag_is_in kind.Eventflag o f x y a b = refl
flag_is_in k o f x y a b = refl

send_is_in : (k : QueueKind) (o d : Object) (x y : ℤ) → is_in k o (wait.Send d x) ≡ is_in k o (wait.Send d y)
send_is_in kind.Send o d x y = refl
send_is_in k o d x y = refl

beside_is_in : (y z : Wait) → is_beside y z ≡ true → (k : QueueKind) (o : Object) → is_in k o y ≡ is_in k o z
beside_is_in (wait.Semaphore s) (wait.Semaphore t) e k o = ap (λ (a : Object). is_in k o (wait.Semaphore a)) (objects_same s t (eqb-true s.number t.number e))
beside_is_in (wait.Eventflag f x a) (wait.Eventflag g y b) e k o = ap (λ (h : Object). is_in k o (wait.Eventflag h x a)) (objects_same f g (eqb-true f.number g.number e)) ∙ flag_is_in k o g x y a b
beside_is_in (wait.Send d x) (wait.Send f y) e k o = ap (λ (a : Object). is_in k o (wait.Send a x)) (objects_same d f (eqb-true d.number f.number e)) ∙ send_is_in k o f x y
beside_is_in (wait.Receive d) (wait.Receive f) e k o = ap (λ (a : Object). is_in k o (wait.Receive a)) (objects_same d f (eqb-true d.number f.number e))
beside_is_in (wait.Pool d) (wait.Pool f) e k o = ap (λ (a : Object). is_in k o (wait.Pool a)) (objects_same d f (eqb-true d.number f.number e))
beside_is_in y z e k o = absurd (false≢true e)

beside_none : (y z : Wait) → is_sleep (Some z) ≡ true → is_beside y z ≡ false
beside_none wait.Sleep wait.Sleep e = refl
beside_none y wait.Sleep e = refl
beside_none y z e = absurd (false≢true e)

flag_has_bits : (f : Object) (z : Wait) → is_in kind.Eventflag f z ≡ true → is_flag_wait z ≡ true
flag_has_bits f (wait.Eventflag g x a) e = refl
flag_has_bits f z e = absurd (false≢true e)

-- a queue is as the waits in it say
queue_order : (c : Setup) (k : QueueKind) (o : Object) (z : Wait) → is_in k o z ≡ true → is_priority (ordered_as c k o) ≡ is_by_priority c z
queue_order c kind.Semaphore o (wait.Semaphore s) e = ap (λ (a : Object). is_by_priority c (wait.Semaphore a)) (sym (objects_same s o (eqb-true s.number o.number e)))
queue_order c kind.Eventflag o (wait.Eventflag f x a) e = ap (λ (h : Object). is_by_priority c (wait.Eventflag h x a)) (sym (objects_same f o (eqb-true f.number o.number e)))
queue_order c kind.Send o (wait.Send d x) e = ap (λ (a : Object). is_by_priority c (wait.Send a x)) (sym (objects_same d o (eqb-true d.number o.number e)))
queue_order c kind.Receive o (wait.Receive d) e = refl
queue_order c kind.Pool o (wait.Pool d) e = ap (λ (a : Object). is_by_priority c (wait.Pool a)) (sym (objects_same d o (eqb-true d.number o.number e)))
queue_order c k o z e = absurd (false≢true e)

waits_some : (k : QueueKind) (o : Object) (w : Option Wait) (q : Option OpenWait) → w ≡ option_map (λ y. y.wait) q → waits_in k o w ≡ true → is_some q ≡ true
waits_some k o w (Some y) is e = refl
waits_some k o w None is e = absurd (false≢true (sym (ap (waits_in k o) is) ∙ e))

module _ (c : Setup) (m : State) (x : Places) (placed : ArePlaced c x m) (s : Safe numbered m) (sound : Sound c m) (waits : (t : Task) → IsKept c m t (x.waits t))
    (priorities : (t : Task) → is_some (x.waits t) ≡ true → (task m t).priority ≡ x.priority t) where
  abbrev IsOpen : Task → Type 0
  IsOpen t = is_some (x.waits t) ≡ true

  -- who waits for this has this wait
  waits_for : (t : Task) (o : OpenWait) → x.waits t ≡ Some o → (task m t).wait ≡ Some o.wait
  waits_for t o is = (waits t).0.wait ∙ ap (λ (q : Option OpenWait). option_map (λ y. y.wait) q) is

  within : (t : Task) (o : OpenWait) → x.waits t ≡ Some o → t.number ≤ length m.tasks
  within t o is = not_past (λ (r : TaskRecord). is_some r.wait) no_task m.tasks t.number t.least refl (ap is_some (waits_for t o is))

  abbrev is_urgent : Pri → Pri → Bool → Bool
  is_urgent p q earlier = nat_lt p.number q.number || (p.number == q.number && earlier)

  -- the machine and the records agree who comes first
  same_first : (o : Order) (t u : Task) → IsOpen t → IsOpen u → comes_before (rank_in o m.tasks) m.order.begun t u ≡ is_served_before x (is_priority o) t u
  same_first order.First t u a b = sym (placed.same t u a b)
  same_first order.Priority t u a b =
      let earlier : Bool = nat_lt (item 0 m.order.begun t.number) (item 0 m.order.begun u.number) in
      ap (λ p. is_urgent p (task m u).priority earlier) (priorities t a) ∙ ap (λ p. is_urgent (x.priority t) p earlier) (priorities u b) ∙ ap (is_urgent (x.priority t) (x.priority u)) (sym (placed.same t u a b))

  -- The next.

  abbrev NextFits : Event → Release → Type 0
  NextFits e y = breaks_off y.task e ≡ false → is_for_bits (x.waits y.task) ≡ false → IsNext c x y.task

  first_next : (t : Task) → IsFirstSomewhere m t → IsNext c x t
  first_next t h o y u mine his beside =
      let k : QueueKind = h.kind in
      let a : Object = h.object in
      let before : Task → Task → Bool = comes_before (rank_in (order_in m k a) m.tasks) m.order.begun in
      let f : IsFirst (waits_at m k a) before (length m.tasks) (Some t) = subst (IsFirst (waits_at m k a) before (length m.tasks)) h.is (queue_is_first m k a) in
      let mine_in : is_in k a o.wait ≡ true = ap (waits_in k a) (sym (waits_for t o mine)) ∙ f.1 in
      let his_in : waits_at m k a u ≡ true = ap (waits_in k a) (waits_for u y his) ∙ beside_is_in y.wait o.wait beside k a ∙ mine_in in
      let order_is : is_priority (order_in m k a) ≡ is_by_priority c o.wait = ap is_priority (placed.orders k a) ∙ queue_order c k a o.wait mine_in in
      ap (λ b. is_served_before x b u t) (sym order_is) ∙ sym (same_first (order_in m k a) u t (ap is_some his) (ap is_some mine)) ∙ f.2 u (within u y his) his_in

  may_next : (e : Event) (y : Release) → MayRelease m e y → NextFits e y
  may_next e y (inl h) kept no_bits = first_next y.task h
  may_next e y (inr (inl breaks)) kept no_bits = absurd (both_ways _ kept breaks)
  may_next e y (inr (inr (inl asleep))) kept no_bits = λ o z u mine his beside. absurd (both_ways _ (beside_none z.wait o.wait (ap is_sleep (sym (waits_for y.task o mine)) ∙ asleep)) beside)
  may_next e y (inr (inr (inr h))) kept no_bits =
      λ o z u mine his beside. absurd (both_ways _ (sym (ap is_for_bits mine) ∙ no_bits) (flag_has_bits h.0 o.wait (ap (waits_in kind.Eventflag h.0) (sym (waits_for y.task o mine)) ∙ h.1)))

  abbrev NextIn : Record → Type 0
  NextIn r = is_accepted r.answer ≡ true → All (NextFits r.event) r.releases

  nobody : (e : Event) (rs : List Release) → rs ≡ [] → All (NextFits e) rs
  nobody e rs none = subst (All (NextFits e)) (sym none) (All-nil (NextFits e))

  next_by_kind : (p : Proc) (a : Call) → is_of_priority a ≡ false → All (NextFits (event.Call p a)) (called m p (row_of numbered m p a)).1.releases
  next_by_kind p a other =
      ⊎_elim (λ (h : Stands m (event.Call p a) (called m p (row_of numbered m p a))). λ i d l. may_next (event.Call p a) (slice_index_or (called m p (row_of numbered m p a)).1.releases i d) (h.released i d l))
      (λ (h : Joins m p (called m p (row_of numbered m p a))). nobody (event.Call p a) _ h.releases) (call_did m p sound.few_tasks a other)

  priority_releases : (p : Proc) (id n : ℤ) → (called m p (chg_pri numbered m (task_or_caller m p id) n)).1.releases ≡ []
  unfolding chg_pri
  priority_releases p id n = either_way m p (λ did. did.1.releases ≡ []) (chg_pri numbered m (task_or_caller m p id) n) (λ y. refl) refl

  next_call : (p : Proc) (a : Call) → All (NextFits (event.Call p a)) (called m p (row_of numbered m p a)).1.releases
  next_call p (call.Task (tasks.ChgPri id n)) = nobody (event.Call p (call.Task (tasks.ChgPri id n))) _ (priority_releases p id n)
  next_call p (call.Task a) = next_by_kind p (call.Task a) refl
  next_call p a = next_by_kind p a refl

  next_step : (e : Event) → NextIn (step numbered m e).1
  unfolding ticked
  next_step e =
      by_event numbered m (λ v r. NextIn r) (λ v cs r y ps h. h) (λ p a _. next_call p a) (λ p a no_answer. absurd (false≢true no_answer)) (λ p no_answer. absurd (false≢true no_answer)) (λ p no_answer. absurd (false≢true no_answer))
      (λ p no_answer. absurd (false≢true no_answer)) (λ p a none no_answer. absurd (both_ways _ none no_answer)) e

  -- Several.

  abbrev ThroughIn : Event → List Release → Type 0
  ThroughIn e rs = (f : Object) → sets f e ≡ true → AreInOrder (is_served_before x (is_flag_by_priority c f)) rs

  served_in : (o f : Object) (y : ℕ) → o.number ≡ f.number → AreInOrder (is_served_before x (is_flag_by_priority c f)) (served numbered m o y (queue numbered m kind.Eventflag o)).1
  unfolding numbered
  served_in o f y is =
      let ts : List Task = queue numbered m kind.Eventflag o in
      let rank : Task → ℕ = rank_in (order_in m kind.Eventflag o) m.tasks in
      let before : Task → Task → Bool = comes_before rank m.order.begun in
      let open_ : All IsOpen ts = all_among IsOpen ts (λ t i. waits_some kind.Eventflag o (task m t).wait (x.waits t) (waits t).0.wait ((numbered_lists m).only_waiting kind.Eventflag o t i)) in
      let order_is : is_priority (order_in m kind.Eventflag o) ≡ is_flag_by_priority c f = ap is_priority (placed.orders kind.Eventflag o) ∙ ap (is_flag_by_priority c) (objects_same o f is) in
      same_order before (is_served_before x (is_flag_by_priority c f)) IsOpen (λ t u a b. same_first (order_in m kind.Eventflag o) t u a b ∙ ap (λ k. is_served_before x k t u) order_is) (served numbered m o y ts).1
      (served_all IsOpen m o y ts open_)
      (served_sorted before m o y ts (in_order_sorted before (comes_before_is_strict rank m.order.begun) (λ t. waits_in kind.Eventflag o (item no_task m.tasks t.number).wait) (length m.tasks)))

  set_through : (p : Proc) (id : ℤ) (y : ℕ) (f : Object) → names f id ≡ true → AreInOrder (is_served_before x (is_flag_by_priority c f)) (called m p (set_flg numbered m id y)).1.releases
  unfolding set_flg
  set_through p id y f named =
      let o : Object = unwrap_or (object_named m.eventflags id) (as_object 1) in
      by_called m p (λ did. AreInOrder (is_served_before x (is_flag_by_priority c f)) did.1.releases) (set_flg numbered m id y) tt (λ z e. tt)
      (λ a. served_in o f (bit_or (eventflag m o).pattern y) (eqb-true o.number f.number (sym ((object_known m.eventflags id sound.few_eventflags a.known).names f) ∙ named)))

  set_in_handler : (p : Proc) (id : ℤ) (y : ℕ) (f : Object) → names f id ≡ true → AreInOrder (is_served_before x (is_flag_by_priority c f)) (called m p (in_handler (set_flg numbered m id y))).1.releases
  unfolding set_flg
  set_in_handler p id y f named =
      let o : Object = unwrap_or (object_named m.eventflags id) (as_object 1) in
      by_called m p (λ did. AreInOrder (is_served_before x (is_flag_by_priority c f)) did.1.releases) (in_handler (set_flg numbered m id y)) tt (λ z e. tt)
      (λ a. served_in o f (bit_or (eventflag m o).pattern y) (eqb-true o.number f.number (sym ((object_known m.eventflags id sound.few_eventflags a.known).names f) ∙ named)))

  through_call : (p : Proc) (a : Call) → ThroughIn (event.Call p a) (called m p (row_of numbered m p a)).1.releases
  through_call p (call.Sync (sync.SetFlg id y)) = λ f named. set_through p id y f named
  through_call p (call.Sync (sync.IsetFlg id y)) = λ f named. set_in_handler p id y f named
  through_call p (call.Sync a) = λ f named. absurd (false≢true named)
  through_call p a = λ f named. absurd (false≢true named)

  through_step : (e : Event) → ThroughIn (step numbered m e).1.event (step numbered m e).1.releases
  through_step e =
      by_event numbered m (λ v r. ThroughIn r.event r.releases) (λ v cs r y ps h. h) through_call (λ p a f named. tt) (λ p f named. absurd (false≢true named)) (λ p f named. tt) (λ p f named. tt) (λ p a none f named. tt) e

  -- those whose time is over
  over_tick : (p : Proc) → AreInOrder (began_before x) (tick numbered m p).1.releases
  unfolding counted_down ticked numbered
  over_tick p =
      let v : State = counted_down m p in
      let timed : List Task = numbered.timed v.order v.waits_left in
      let before : Task → Task → Bool = comes_before (λ t. 0) m.order.begun in
      let fits = (follows_tick c numbered numbered_once m s sound x.waits waits p).fits in
      same_order before (began_before x) IsOpen (λ t u a b. sym (placed.same t u a b)) (tick numbered m p).1.releases (λ i d l. let h = fits i d l in ap is_some h.1)
      (released_sorted before v (tasks_expired v.waits_left timed)
      (sorted_filter before (λ t. is_over (item None v.waits_left t.number)) timed (in_order_sorted before (comes_before_is_strict (λ t. 0) m.order.begun) (λ t. is_some (item None v.waits_left t.number)) (length v.waits_left))))

  over_step : (e : Event) → is_tick (step numbered m e).1.event ≡ true → AreInOrder (began_before x) (step numbered m e).1.releases
  over_step e =
      by_event numbered m (λ v r. is_tick r.event ≡ true → AreInOrder (began_before x) r.releases) (λ v cs r y ps h. h) (λ p a none. absurd (false≢true none)) (λ p a none. tt) (λ p _. over_tick p) (λ p _. tt) (λ p _. tt) (λ p a none _. tt) e

  pub serves_step : (e : Event) → ServesInOrder c x (step numbered m e).1
  serves_step e = record { next = next_step e; through = through_step e; over = over_step e }
