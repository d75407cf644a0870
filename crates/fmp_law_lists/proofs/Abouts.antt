-- The cells of what an event is about are enough.
use Rattle.std.proofs.Common.{◌≡◌, ℕ, ℤ, ◌==◌, ◌||◌, ◌&&◌, Bool, true, false, List, [], ◌∷◌, refl, ap, ◌∙◌, subst, Option, None, Some}
use Rattle.std.specs.Prelude.{is_some, slice_index_or, unwrap_or, IfSome}
use Rattle.std.specs.List.{list_any}
use Rattle.std.proofs.lemmas.Bool.{eq-eqb, eqb-true, or_left, or_right, false≢true}
use Rattle.fmp_codes.specs.declared.numbers.Proc.{Proc}
use Rattle.fmp_codes.specs.declared.numbers.Task.{Task}
use Rattle.fmp_codes.specs.declared.calls.Mode.{Mode}
use Rattle.fmp_codes.specs.declared.numbers.Object.{Object}
use Rattle.fmp_codes.specs.declared.calls.Call.{Call}
use Rattle.fmp_codes.specs.declared.calls.Call.TheVariants as calls
use Rattle.fmp_codes.specs.declared.calls.TaskCall.TheVariants as task_call
use Rattle.fmp_codes.specs.declared.calls.BufferCall.TheVariants as buffer
use Rattle.fmp_codes.specs.declared.calls.TimeCall.TheVariants as time
use Rattle.fmp_codes.specs.declared.calls.SystemCall.TheVariants as system
use Rattle.fmp_codes.specs.declared.calls.SpinCall.TheVariants as spin
use Rattle.fmp_codes.specs.declared.calls.SyncCall.TheVariants as sync
use Rattle.fmp_rules.specs.declared.machine.QueueKind.TheVariants as kind
use Rattle.fmp_rules.specs.declared.machine.Wait.{Wait}
use Rattle.fmp_rules.specs.declared.machine.Wait.TheVariants as wait
use Rattle.fmp_rules.specs.World.{World, no_task, task, item, first}
use Rattle.fmp_rules.specs.Arguments.{caller, forever, processor_named, task_named, task_or_caller, ticks_of}
use Rattle.fmp_rules.specs.BufferCalls.{receiver, sender}
use Rattle.fmp_rules.specs.Processors.{is_at}
use Rattle.fmp_rules.specs.Tasks.{ended}
use Rattle.fmp_rules.specs.Tick.{counted_down, is_over}
use Rattle.fmp_setup.specs.Setup.{counts_for}
use Rattle.fmp_rules.specs.Ordering.{Ordering, queue}
use Rattle.fmp_law_footprint.specs.Cells.{Cell, CountsOf, SpotOf, ReadyOn, WaitersOf, TimedWaits, OfProcessor, OfSemaphore, OfEventflag, OfDataQueue, OfPool, OfCyclic, OfAlarm, OfLock, at, there, on, blank_cyclic, blank_alarm}
use Rattle.fmp_law_footprint.specs.Footprints.{Within, InQueue, InTimed, Closed}
use Rattle.fmp_law_footprint.specs.Words.{Each, Wakes, Sleeps, Changes, WakesOr, Takes, Activates, Ends, Migrates, Unlocks, DoneOrWait}
use Rattle.fmp_law_footprint.specs.Named.{named_or_caller, named_task, destination, semaphore_named, eventflag_named, data_queue_named, pool_named, cyclic_named, alarm_named, lock_named, rotated}
use Rattle.fmp_law_footprint.specs.CoversObjects.{Signals, Sets, Sends, Receives, TakesUnit, TakesPattern, SendsOrWaits, Forces, ReceivesOrWaits, TakesBlock}
use Rattle.fmp_law_footprint.specs.CoversCalls.{CoversCall, Rotates, TakesWakeup, WakesUp}
use Rattle.fmp_law_footprint.specs.Covers.{CoversTick, Settles}
use Rattle.fmp_law_lists.specs.Reads.{Own}
use Rattle.fmp_law_lists.specs.ReadsObjects.{Knows, KnowsSemaphore, KnowsFlag, KnowsQueue, KnowsPool, KnowsReceiver, KnowsSender, KnowsFirst}
use Rattle.fmp_law_lists.specs.ReadsCalls.{KnowsAll, KnowsObject, ReadsReady, ReadsCall, ReadsTick, KnowsRank}
use Rattle.fmp_law_lists.specs.About.{About, nothing, has, stands_at, is_named, counts_task, is_about}
use Rattle.fmp_law_lists.specs.AboutObjects.{these, about_semaphore, about_flag, about_queue, about_pool, about_signal, about_unit, about_set, about_pattern, about_sending, about_receiving, about_block, about_return, about_sent, about_received}
use Rattle.fmp_law_lists.specs.AboutCalls.{about_task, about_moving, about_sleeping, about_cyclic, about_alarm, about_rotation, about_call, about_tick, about_lock, about_freeing, about_locks, about_returning, about_exit}

-- if whatever passes a test passes another, then a list where one passes the first has one that passes the other
any_more : {X : Type 0} (f g : X → Bool) (xs : List X) → ((x : X) → f x ≡ true → g x ≡ true) → list_any f xs ≡ true → list_any g xs ≡ true
any_more f g [] h e = e
any_more f g (x ∷ xs) h e = both (f x) (g x) (list_any f xs) (list_any g xs) (h x) (any_more f g xs h) e
  where
    both : (a b c d : Bool) → (a ≡ true → b ≡ true) → (c ≡ true → d ≡ true) → (a || c) ≡ true → (b || d) ≡ true
    both true b c d here there e = or_left b d (here refl)
    both false b c d here there e = or_right b d (there e)

named_here : (t : Task) (ts : List Task) → list_any (λ u. at u == at t) (t ∷ ts) ≡ true
named_here t ts = or_left _ _ (eq-eqb (at t) (at t) refl)

has_here : (n : ℕ) (ns : List ℕ) → has (n ∷ ns) n ≡ true
has_here n ns = or_left _ _ (eq-eqb n n refl)

-- each of a list is named in it
each_named : (ts us : List Task) → ((t : Task) → list_any (λ u. at u == at t) ts ≡ true → list_any (λ u. at u == at t) us ≡ true)
    → Each (λ t. list_any (λ u. at u == at t) us ≡ true) ts
each_named [] us h = tt
each_named (t ∷ ts) us h = (h t (named_here t ts), each_named ts us (λ u e. h u (or_right _ _ e)))

module _ {Q : Type 0} (w : World Q) (p : Proc) (a : About) where
  abbrev S : Cell → Type 0
  S = Within (is_about w p a)

  -- the cells are closed, whatever is named
  pub about_closed : Closed S w.tasks w.waits_left
  about_closed = record {
    ready = λ n e. or_left _ _ (any_more (λ t. at t == n) (λ t. on (task w t).assigned == on (slice_index_or w.tasks n no_task).assigned) a.tasks
        (λ t f. let same = eqb-true (at t) n f in eq-eqb _ _ (ap (λ i. on (slice_index_or w.tasks i no_task).assigned) same)) e);
    queue = λ n e. queued (slice_index_or w.tasks n no_task).wait
        (λ x f. any_more (λ t. at t == n) (λ t. x (task w t).wait) a.tasks (λ t g. ap (λ i. x (slice_index_or w.tasks i no_task).wait) (eqb-true (at t) n g) ∙ f) e);
    timed = λ n e. timed (slice_index_or w.waits_left n None) (λ f. or_left _ _ (any_more (λ t. at t == n) (λ t. is_some (item None w.waits_left t.number)) a.tasks
        (λ t g. ap (λ i. is_some (slice_index_or w.waits_left i None)) (eqb-true (at t) n g) ∙ f) e));
  }
    where
      queued : (o : Option Wait) → ((x : Option Wait → Bool) → x o ≡ true → list_any (λ t. x (task w t).wait) a.tasks ≡ true) → InQueue S o
      queued None h = tt
      queued (Some wait.Sleep) h = tt
      queued (Some wait.Delay) h = tt
      queued (Some (wait.Semaphore s)) h = or_left _ _ (h (stands_at kind.Semaphore (there s)) (eq-eqb (there s) (there s) refl))
      queued (Some (wait.Eventflag f x m)) h = or_left _ _ (h (stands_at kind.Eventflag (there f)) (eq-eqb (there f) (there f) refl))
      queued (Some (wait.Send d v)) h = or_left _ _ (h (stands_at kind.Send (there d)) (eq-eqb (there d) (there d) refl))
      queued (Some (wait.Receive d)) h = or_left _ _ (h (stands_at kind.Receive (there d)) (eq-eqb (there d) (there d) refl))
      queued (Some (wait.Pool m)) h = or_left _ _ (h (stands_at kind.Pool (there m)) (eq-eqb (there m) (there m) refl))

      timed : (o : Option ℕ) → (is_some o ≡ true → is_about w p a TimedWaits ≡ true) → InTimed S o
      timed None h = tt
      timed (Some n) h = h refl

  pub about_own : Own S p
  about_own = record {
    processor = eq-eqb (on p) (on p) refl;
    latch = or_right _ _ (has_here (on p) a.processors);
    due = eq-eqb (on p) (on p) refl;
    ready = or_right _ _ (has_here (on p) a.processors);
  }

  pub about_settles : Settles S p
  about_settles = record { processor = eq-eqb (on p) (on p) refl; latch = or_right _ _ (has_here (on p) a.processors); latches = λ n h. h }

  -- the cells of a task that is named
  knows : (t : Task) → is_named w p a (at t) ≡ true → Knows S t
  knows t h = (or_left _ (counts_task w p a (at t)) h, h)

  wakes : (t : Task) → is_named w p a (at t) ≡ true → Wakes S t
  wakes t h = (h, or_left _ (counts_task w p a (at t)) h, h)

each_then : {X : Type 0} (P R : X → Type 0) (xs : List X) → ((x : X) → P x → R x) → Each P xs → Each R xs
each_then P R [] f h = tt
each_then P R (x ∷ xs) f h = (f x h.0, each_then P R xs f h.1)

module _ {Q : Type 0} (w : World Q) (p : Proc) (a : About) where
  abbrev Named : Cell → Type 0
  Named = Within (is_about w p a)

  named_in : (t : Task) (us : List Task) → a.tasks ≡ us → list_any (λ u. at u == at t) us ≡ true → is_named w p a (at t) ≡ true
  named_in t us e h = ap (λ ts. list_any (λ u. at u == at t) ts) e ∙ h

  named : (t : Task) (us : List Task) → a.tasks ≡ t ∷ us → is_named w p a (at t) ≡ true
  named t us e = named_in t (t ∷ us) e (named_here t us)

  all_named : Each (λ t. is_named w p a (at t) ≡ true) a.tasks
  all_named = each_named a.tasks a.tasks (λ t h. h)

  all_known : Each (Knows Named) a.tasks
  all_known = each_then _ (Knows Named) a.tasks (λ t h. knows w p a t h) all_named

  all_wake : Each (Wakes Named) a.tasks
  all_wake = each_then _ (Wakes Named) a.tasks (λ t h. wakes w p a t h) all_named

  first_known : (t : Option Task) → a.tasks ≡ these t → IfSome t (Knows Named)
  first_known None e = tt
  first_known (Some t) e = knows w p a t (named t [] e)

  next_known : (u : Task) (t : Option Task) → a.tasks ≡ u ∷ these t → IfSome t (Knows Named)
  next_known u None e = tt
  next_known u (Some t) e = knows w p a t (named_in t (u ∷ t ∷ []) e (or_right _ _ (named_here t [])))

  first_wakes : (t : Option Task) → a.tasks ≡ these t → IfSome t (Wakes Named)
  first_wakes None e = tt
  first_wakes (Some t) e = wakes w p a t (named t [] e)

  next_wakes : (u : Task) (t : Option Task) → a.tasks ≡ u ∷ these t → IfSome t (Wakes Named)
  next_wakes u None e = tt
  next_wakes u (Some t) e = wakes w p a t (named_in t (u ∷ t ∷ []) e (or_right _ _ (named_here t [])))

  next_spot : (u : Task) (t : Option Task) → a.tasks ≡ u ∷ these t → IfSome t (λ u. Named (SpotOf (at u)))
  next_spot u None e = tt
  next_spot u (Some t) e = named_in t (u ∷ t ∷ []) e (or_right _ _ (named_here t []))

  wakes_or : (x : Cell) (t : Option Task) → a.tasks ≡ these t → Named x → WakesOr Named x t
  wakes_or x None e h = h
  wakes_or x (Some t) e h = wakes w p a t (named t [] e)

  next_wakes_or : (x : Cell) (u : Task) (t : Option Task) → a.tasks ≡ u ∷ these t → Named x → WakesOr Named x t
  next_wakes_or x u None e h = h
  next_wakes_or x u (Some t) e h = wakes w p a t (named_in t (u ∷ t ∷ []) e (or_right _ _ (named_here t [])))

  in_timed : (o : Option ℕ) → a.timed ≡ is_some o → InTimed Named o
  in_timed None e = tt
  in_timed (Some n) e = or_right (list_any (λ t. is_some (item None w.waits_left t.number)) a.tasks) a.timed e

  waits : (us : List Task) (can : Bool) (X : Type 0) (y : Wait) (timeout : ℤ) → a.tasks ≡ caller w p ∷ us → a.timed ≡ is_some (ticks_of timeout) → X
      → InQueue Named (Some y) → DoneOrWait Named w p can X y timeout
  waits us can X y timeout e timed here stands =
      (λ _. here, λ _. (λ _. tt, λ _. (wakes w p a (caller w p) (named (caller w p) us e), stands, in_timed (ticks_of timeout) timed)))

  there_in : (ns : List ℕ) (n : ℕ) → ns ≡ n ∷ [] → has ns n ≡ true
  there_in ns n e = ap (λ ms. has ms n) e ∙ has_here n []

  semaphore_there : (n : ℕ) → a.semaphores ≡ n ∷ [] → Named (OfSemaphore n)
  semaphore_there n e = or_right (list_any (λ t. stands_at kind.Semaphore n (task w t).wait) a.tasks) (has a.semaphores n) (there_in a.semaphores n e)

  flag_there : (n : ℕ) → a.eventflags ≡ n ∷ [] → Named (OfEventflag n)
  flag_there n e = or_right (list_any (λ t. stands_at kind.Eventflag n (task w t).wait) a.tasks) (has a.eventflags n) (there_in a.eventflags n e)

  pool_there : (n : ℕ) → a.pools ≡ n ∷ [] → Named (OfPool n)
  pool_there n e = or_right (list_any (λ t. stands_at kind.Pool n (task w t).wait) a.tasks) (has a.pools n) (there_in a.pools n e)

  senders_there : (n : ℕ) → a.data_queues ≡ n ∷ [] → Named (WaitersOf kind.Send n)
  senders_there n e = or_right (list_any (λ t. stands_at kind.Send n (task w t).wait) a.tasks) (has a.data_queues n) (there_in a.data_queues n e)

  receivers_there : (n : ℕ) → a.data_queues ≡ n ∷ [] → Named (WaitersOf kind.Receive n)
  receivers_there n e = or_right (list_any (λ t. stands_at kind.Receive n (task w t).wait) a.tasks) (has a.data_queues n) (there_in a.data_queues n e)

  lock_there : (n : ℕ) → a.locks ≡ n ∷ [] → Named (OfLock n)
  lock_there n e = or_left (has a.locks n) _ (there_in a.locks n e)

  frees : a.frees ≡ true → Unlocks Named w p
  frees e = (
    eq-eqb (on p) (on p) refl,
    λ n h.
        or_right (has a.locks n) _ (or_left _ a.all_locks (both a.frees (is_at p (slice_index_or w.holders n None)) e h)),
  )
    where
      both : (b c : Bool) → b ≡ true → c ≡ true → (b && c) ≡ true
      both true c e h = h
      both false c e h = absurd (false≢true e)

  all_locks : a.all_locks ≡ true → (n : ℕ) → Named (OfLock n)
  all_locks e n = or_right (has a.locks n) _ (or_right _ a.all_locks e)

  -- the processor to which a task may go
  goes : (n : ℕ) (us : List ℕ) → a.processors ≡ n ∷ us → Named (ReadyOn n)
  goes n us e = or_right _ _ (or_right _ _ (ap (λ ms. has ms n) e ∙ has_here n us))

  -- where a named task is assigned
  stays : (t : Task) → is_named w p a (at t) ≡ true → Named (ReadyOn (on (task w t).assigned))
  stays t h = (about_closed w p a).ready (at t) h

  -- what is known of the object for which a named task waits
  object_known : (t : Task) (x : Option Wait) → (task w t).wait ≡ x → is_named w p a (at t) ≡ true → KnowsObject Named x
  object_known t (Some (wait.Semaphore s)) e h = subst (InQueue Named) e ((about_closed w p a).queue (at t) h)
  object_known t (Some (wait.Eventflag f x m)) e h = subst (InQueue Named) e ((about_closed w p a).queue (at t) h)
  object_known t (Some (wait.Pool m)) e h = subst (InQueue Named) e ((about_closed w p a).queue (at t) h)
  object_known t (Some wait.Sleep) e h = tt
  object_known t (Some wait.Delay) e h = tt
  object_known t (Some (wait.Send d v)) e h = tt
  object_known t (Some (wait.Receive d)) e h = tt
  object_known t None e h = tt

  knows_all : (t : Task) (us : List Task) → a.tasks ≡ t ∷ us → KnowsAll Named t
  knows_all t us e = let h = named t us e in (knows w p a t h, h)

  changes : (t : Task) (us : List Task) → a.tasks ≡ t ∷ us → Changes Named t
  changes t us e = let h = named t us e in (or_left _ (counts_task w p a (at t)) h, h)

  activates : (t : Task) (us : List Task) (q : Proc) → a.tasks ≡ t ∷ us → Named (ReadyOn (on q)) → Activates Named w t q
  activates t us q e ready = let h = named t us e in (λ _. h, λ _. (changes t us e, h, h, ready))

  ends : (t : Task) (us : List Task) → a.tasks ≡ t ∷ us → a.processors ≡ on (ended (task w t)).assigned ∷ [] → Ends Named w t
  ends t us e goal = let h = named t us e in (wakes w p a t h, (knows w p a t h).0, h, goes (on (ended (task w t)).assigned) [] goal)

module _ {Q : Type 0} (k : Ordering Q) (w : World Q) (p : Proc) where
  abbrev CellsOf : About → Cell → Type 0
  CellsOf a = Within (is_about w p a)

  abbrev Covered : Call → Type 0
  Covered c = CoversCall k (CellsOf (about_call k w p c)) w p c

  abbrev Known : Call → Type 0
  Known c = ReadsCall k (CellsOf (about_call k w p c)) w p c

  -- The cells of what a call is about are enough for what it may change.

  here : (a : About) → CellsOf a (OfProcessor (on p))
  here a = eq-eqb (on p) (on p) refl

  covers_activation : (t : Task) → Activates (CellsOf (about_task t)) w t (task w t).assigned
  covers_activation t = activates w p (about_task t) t [] (task w t).assigned refl (stays w p (about_task t) t (named w p (about_task t) t [] refl))

  covers_activation_on : (t : Task) (q : Proc) → Activates (CellsOf (about_moving t q)) w t q
  covers_activation_on t q = activates w p (about_moving t q) t [] q refl (goes w p (about_moving t q) (on q) [] refl)

  covers_counts : (t : Task) → CellsOf (about_task t) (CountsOf (at t))
  covers_counts t = named w p (about_task t) t [] refl

  covers_migration : (t : Task) (q : Proc) → Migrates (CellsOf (about_moving t q)) w t q
  covers_migration t q = (λ _. tt, λ _. (changes w p (about_moving t q) t [] refl, goes w p (about_moving t q) (on q) [] refl))

  covers_end : (t : Task) → Ends (CellsOf (about_moving t (ended (task w t)).assigned)) w t
  covers_end t = ends w p (about_moving t (ended (task w t)).assigned) t [] refl refl

  covers_change : (t : Task) → Changes (CellsOf (about_task t)) t
  covers_change t = changes w p (about_task t) t [] refl

  covers_sleep : (timeout : ℤ) → TakesWakeup k (CellsOf (about_sleeping k w p timeout)) w p timeout
  covers_sleep timeout =
      let a = about_sleeping k w p timeout in
      waits w p a [] _ _ wait.Sleep timeout refl refl (named w p a (caller w p) [] refl) tt

  covers_release : (t : Task) → Wakes (CellsOf (about_task t)) t
  covers_release t = wakes w p (about_task t) t (named w p (about_task t) t [] refl)

  covers_wakeup : (t : Task) → WakesUp k (CellsOf (about_task t)) w p t
  covers_wakeup t = (λ _. covers_release t, λ _. covers_counts t)

  covers_delay : (n : ℤ) → Sleeps (CellsOf (about_sleeping k w p n)) (caller w p) wait.Delay (ticks_of n)
  covers_delay n =
      let a = about_sleeping k w p n in
      (wakes w p a (caller w p) (named w p a (caller w p) [] refl), tt, in_timed w p a (ticks_of n) refl)

  covers_signal : (s : Object) → Signals k (CellsOf (about_signal k w p s)) w p s
  covers_signal s =
      let a = about_signal k w p s in
      wakes_or w p a (OfSemaphore (there s)) (first (queue k w kind.Semaphore s)) refl (semaphore_there w p a (there s) refl)

  covers_unit : (s : Object) (timeout : ℤ) → TakesUnit k (CellsOf (about_unit k w p s timeout)) w p s timeout
  covers_unit s timeout =
      let a = about_unit k w p s timeout in
      waits w p a [] _ _ (wait.Semaphore s) timeout refl refl (semaphore_there w p a (there s) refl) (semaphore_there w p a (there s) refl)

  covers_set : (f : Object) → Sets k (CellsOf (about_set k w p f)) w p f
  covers_set f = (flag_there w p (about_set k w p f) (there f) refl, all_wake w p (about_set k w p f))

  covers_pattern : (f : Object) (x : ℕ) (m : Mode) (timeout : ℤ) → TakesPattern k (CellsOf (about_pattern k w p f timeout)) w p f x m timeout
  covers_pattern f x m timeout =
      let a = about_pattern k w p f timeout in
      waits w p a [] _ _ (wait.Eventflag f x m) timeout refl refl (flag_there w p a (there f) refl) (flag_there w p a (there f) refl)

  covers_sent : (d : Object) → Sends k (CellsOf (about_sent k w p d)) w p d
  covers_sent d =
      let a = about_sent k w p d in
      wakes_or w p a (OfDataQueue (there d)) (receiver k w d) refl (there_in w p a _ (there d) refl)

  covers_forced : (d : Object) → Forces k (CellsOf (about_sent k w p d)) w p d
  covers_forced d = (λ _. covers_sent d, λ _. there_in w p (about_sent k w p d) _ (there d) refl)

  covers_sending : (d : Object) (v timeout : ℤ) → SendsOrWaits k (CellsOf (about_sending k w p d timeout)) w p d v timeout
  covers_sending d v timeout =
      let a = about_sending k w p d timeout in
      waits w p a (these (receiver k w d)) _ _ (wait.Send d v) timeout refl refl
      (next_wakes_or w p a (OfDataQueue (there d)) (caller w p) (receiver k w d) refl (there_in w p a _ (there d) refl)) (senders_there w p a (there d) refl)

  covers_received : (d : Object) → Receives k (CellsOf (about_received k w p d)) w p d
  covers_received d = let a = about_received k w p d in (there_in w p a _ (there d) refl, first_wakes w p a (sender k w d) refl)

  covers_receiving : (d : Object) (timeout : ℤ) → ReceivesOrWaits k (CellsOf (about_receiving k w p d timeout)) w p d timeout
  covers_receiving d timeout =
      let a = about_receiving k w p d timeout in
      waits w p a (these (sender k w d)) _ _ (wait.Receive d) timeout refl refl
      (there_in w p a _ (there d) refl, next_wakes w p a (caller w p) (sender k w d) refl) (receivers_there w p a (there d) refl)

  covers_block : (m : Object) (timeout : ℤ) → TakesBlock k (CellsOf (about_block k w p m timeout)) w p m timeout
  covers_block m timeout =
      let a = about_block k w p m timeout in
      waits w p a [] _ _ (wait.Pool m) timeout refl refl (pool_there w p a (there m) refl) (pool_there w p a (there m) refl)

  covers_return : (m : Object) → WakesOr (CellsOf (about_return k w p m)) (OfPool (there m)) (first (queue k w kind.Pool m))
  covers_return m =
      let a = about_return k w p m in
      wakes_or w p a (OfPool (there m)) (first (queue k w kind.Pool m)) refl (pool_there w p a (there m) refl)

  covers_rotation : (q : Proc) (n : ℤ) → Rotates k (CellsOf (about_rotation k w p q n)) w p q n
  covers_rotation q n = next_spot w p (about_rotation k w p q n) (caller w p) (rotated k w p q n) refl

  covers_lock : (l : Object) → Takes (CellsOf (about_lock l)) p l
  covers_lock l = (here (about_lock l), lock_there w p (about_lock l) (there l) refl)

  cyclic_there : (c : Object) → CellsOf (about_cyclic c) (OfCyclic (there c))
  cyclic_there c = or_left _ _ (there_in w p (about_cyclic c) _ (there c) refl)

  alarm_there : (a : Object) → CellsOf (about_alarm a) (OfAlarm (there a))
  alarm_there a = or_left _ _ (there_in w p (about_alarm a) _ (there a) refl)

  -- what a call is about covers it
  pub about_covers : (c : Call) → Covered c
  about_covers (calls.Task (task_call.ActTsk id)) = covers_activation (named_or_caller w p id)
  about_covers (calls.Task (task_call.IactTsk id)) = covers_activation (named_task w id)
  about_covers (calls.Task (task_call.MactTsk id to)) = covers_activation_on (named_or_caller w p id) (destination w (task_or_caller w p id) to)
  about_covers (calls.Task (task_call.ImactTsk id to)) = covers_activation_on (named_task w id) (destination w (task_named w id) to)
  about_covers (calls.Task (task_call.CanAct id)) = covers_counts (named_or_caller w p id)
  about_covers (calls.Task (task_call.MigTsk id to)) = covers_migration (named_or_caller w p id) (destination w (task_or_caller w p id) to)
  about_covers (calls.Task task_call.ExtTsk) = (ends w p (about_exit k w p) (caller w p) [] refl refl, frees w p (about_exit k w p) refl)
  about_covers (calls.Task (task_call.TerTsk id)) = covers_end (named_task w id)
  about_covers (calls.Task (task_call.ChgPri id n)) = covers_change (named_or_caller w p id)
  about_covers (calls.Task (task_call.GetPri id)) = tt
  about_covers (calls.Task task_call.SlpTsk) = covers_sleep forever
  about_covers (calls.Task (task_call.TslpTsk timeout)) = covers_sleep timeout
  about_covers (calls.Task (task_call.WupTsk id)) = covers_wakeup (named_or_caller w p id)
  about_covers (calls.Task (task_call.IwupTsk id)) = covers_wakeup (named_task w id)
  about_covers (calls.Task (task_call.CanWup id)) = covers_counts (named_or_caller w p id)
  about_covers (calls.Task (task_call.RelWai id)) = covers_release (named_task w id)
  about_covers (calls.Task (task_call.IrelWai id)) = covers_release (named_task w id)
  about_covers (calls.Task (task_call.SusTsk id)) = covers_change (named_or_caller w p id)
  about_covers (calls.Task (task_call.RsmTsk id)) = covers_change (named_task w id)
  about_covers (calls.Task (task_call.DlyTsk n)) = covers_delay n
  about_covers (calls.Sync (sync.SigSem id)) = covers_signal (semaphore_named w id)
  about_covers (calls.Sync (sync.IsigSem id)) = covers_signal (semaphore_named w id)
  about_covers (calls.Sync (sync.WaiSem id)) = covers_unit (semaphore_named w id) forever
  about_covers (calls.Sync (sync.TwaiSem id timeout)) = covers_unit (semaphore_named w id) timeout
  about_covers (calls.Sync (sync.PolSem id)) = semaphore_there w p (about_semaphore (semaphore_named w id) [] false) (there (semaphore_named w id)) refl
  about_covers (calls.Sync (sync.SetFlg id x)) = covers_set (eventflag_named w id)
  about_covers (calls.Sync (sync.IsetFlg id x)) = covers_set (eventflag_named w id)
  about_covers (calls.Sync (sync.ClrFlg id x)) = flag_there w p (about_flag (eventflag_named w id) [] false) (there (eventflag_named w id)) refl
  about_covers (calls.Sync (sync.WaiFlg id x m)) = covers_pattern (eventflag_named w id) x m forever
  about_covers (calls.Sync (sync.TwaiFlg id x m timeout)) = covers_pattern (eventflag_named w id) x m timeout
  about_covers (calls.Sync (sync.PolFlg id x m)) = flag_there w p (about_flag (eventflag_named w id) [] false) (there (eventflag_named w id)) refl
  about_covers (calls.Buffer (buffer.SndDtq id v)) = covers_sending (data_queue_named w id) v forever
  about_covers (calls.Buffer (buffer.TsndDtq id v timeout)) = covers_sending (data_queue_named w id) v timeout
  about_covers (calls.Buffer (buffer.PsndDtq id v)) = covers_sent (data_queue_named w id)
  about_covers (calls.Buffer (buffer.IpsndDtq id v)) = covers_sent (data_queue_named w id)
  about_covers (calls.Buffer (buffer.FsndDtq id v)) = covers_forced (data_queue_named w id)
  about_covers (calls.Buffer (buffer.IfsndDtq id v)) = covers_forced (data_queue_named w id)
  about_covers (calls.Buffer (buffer.RcvDtq id)) = covers_receiving (data_queue_named w id) forever
  about_covers (calls.Buffer (buffer.TrcvDtq id timeout)) = covers_receiving (data_queue_named w id) timeout
  about_covers (calls.Buffer (buffer.PrcvDtq id)) = covers_received (data_queue_named w id)
  about_covers (calls.Buffer (buffer.GetMpf id)) = covers_block (pool_named w id) forever
  about_covers (calls.Buffer (buffer.TgetMpf id timeout)) = covers_block (pool_named w id) timeout
  about_covers (calls.Buffer (buffer.PgetMpf id)) = pool_there w p (about_pool (pool_named w id) [] false) (there (pool_named w id)) refl
  about_covers (calls.Buffer (buffer.RelMpf id b)) = covers_return (pool_named w id)
  about_covers (calls.Time (time.StaCyc id)) = cyclic_there (cyclic_named w id)
  about_covers (calls.Time (time.MstaCyc id to)) = cyclic_there (cyclic_named w id)
  about_covers (calls.Time (time.StpCyc id)) = cyclic_there (cyclic_named w id)
  about_covers (calls.Time (time.StaAlm id n)) = alarm_there (alarm_named w id)
  about_covers (calls.Time (time.IstaAlm id n)) = alarm_there (alarm_named w id)
  about_covers (calls.Time (time.MstaAlm id n to)) = alarm_there (alarm_named w id)
  about_covers (calls.Time (time.ImstaAlm id n to)) = alarm_there (alarm_named w id)
  about_covers (calls.Time (time.StpAlm id)) = alarm_there (alarm_named w id)
  about_covers (calls.Time (time.IstpAlm id)) = alarm_there (alarm_named w id)
  about_covers (calls.System (system.RotRdq n)) = covers_rotation p n
  about_covers (calls.System (system.IrotRdq n)) = covers_rotation p n
  about_covers (calls.System (system.MrotRdq n q)) = covers_rotation (unwrap_or (processor_named w q) p) n
  about_covers (calls.System (system.ImrotRdq n q)) = covers_rotation (unwrap_or (processor_named w q) p) n
  about_covers (calls.System system.LocCpu) = here nothing
  about_covers (calls.System system.IlocCpu) = here nothing
  about_covers (calls.System system.DisDsp) = here nothing
  about_covers (calls.System system.EnaDsp) = here nothing
  about_covers (calls.System system.UnlCpu) = here about_locks
  about_covers (calls.System system.IunlCpu) = here about_locks
  about_covers (calls.System system.GetTid) = tt
  about_covers (calls.System system.IgetTid) = tt
  about_covers (calls.System system.GetPid) = tt
  about_covers (calls.System system.IgetPid) = tt
  about_covers (calls.System system.SnsCtx) = tt
  about_covers (calls.System system.SnsLoc) = tt
  about_covers (calls.System system.SnsDsp) = tt
  about_covers (calls.System system.SnsDpn) = tt
  about_covers (calls.Spin (spin.LocSpn id)) = (λ _. tt, λ _. covers_lock (lock_named w id))
  about_covers (calls.Spin (spin.IlocSpn id)) = (λ _. tt, λ _. covers_lock (lock_named w id))
  about_covers (calls.Spin (spin.TrySpn id)) = covers_lock (lock_named w id)
  about_covers (calls.Spin (spin.ItrySpn id)) = covers_lock (lock_named w id)
  about_covers (calls.Spin (spin.UnlSpn id)) = frees w p (about_freeing (lock_named w id)) refl
  about_covers (calls.Spin (spin.IunlSpn id)) = frees w p (about_freeing (lock_named w id)) refl
  about_covers calls.RetHdr = (frees w p about_returning refl, here about_returning)

  -- They are enough for what it reads.

  all : (t : Task) → KnowsAll (CellsOf (about_task t)) t
  all t = knows_all w p (about_task t) t [] refl

  moved : (t : Task) (q : Proc) → KnowsAll (CellsOf (about_moving t q)) t
  moved t q = knows_all w p (about_moving t q) t [] refl

  sleeper : (timeout : ℤ) → KnowsAll (CellsOf (about_sleeping k w p timeout)) (caller w p)
  sleeper timeout = knows_all w p (about_sleeping k w p timeout) (caller w p) [] refl

  rank : (t : Task) → KnowsRank k (CellsOf (about_task t)) w p t
  rank t =
      let a = about_task t in
      let h = named w p a t [] refl in
      (all t, or_left _ (counts_task w p a (at t)) h, object_known w p a t _ refl h)

  caller_known : (a : About) (us : List Task) → a.tasks ≡ caller w p ∷ us → Knows (CellsOf a) (caller w p)
  caller_known a us e = knows w p a (caller w p) (named w p a (caller w p) us e)

  reads_semaphore : (s : Object) (ts : List Task) (timed : Bool) → KnowsSemaphore (CellsOf (about_semaphore s ts timed)) s
  reads_semaphore s ts timed = let a = about_semaphore s ts timed in (semaphore_there w p a (there s) refl, semaphore_there w p a (there s) refl)

  reads_flag : (f : Object) (ts : List Task) (timed : Bool) → KnowsFlag (CellsOf (about_flag f ts timed)) f
  reads_flag f ts timed = let a = about_flag f ts timed in (flag_there w p a (there f) refl, flag_there w p a (there f) refl)

  reads_queue : (d : Object) (ts : List Task) (timed : Bool) → KnowsQueue (CellsOf (about_queue d ts timed)) d
  reads_queue d ts timed =
      let a = about_queue d ts timed in
      (there_in w p a _ (there d) refl, senders_there w p a (there d) refl, receivers_there w p a (there d) refl)

  reads_pool : (m : Object) (ts : List Task) (timed : Bool) → KnowsPool (CellsOf (about_pool m ts timed)) m
  reads_pool m ts timed = let a = about_pool m ts timed in (pool_there w p a (there m) refl, pool_there w p a (there m) refl)

  reads_signal : (s : Object) → KnowsSemaphore (CellsOf (about_signal k w p s)) s × KnowsFirst k (CellsOf (about_signal k w p s)) w p kind.Semaphore s
  reads_signal s =
      (reads_semaphore s (these (first (queue k w kind.Semaphore s))) false, first_known w p (about_signal k w p s) (first (queue k w kind.Semaphore s)) refl)

  reads_unit : (s : Object) (timeout : ℤ)
      → KnowsSemaphore (CellsOf (about_unit k w p s timeout)) s × Knows (CellsOf (about_unit k w p s timeout)) (caller w p)
  reads_unit s timeout = (reads_semaphore s (caller w p ∷ []) (is_some (ticks_of timeout)), caller_known (about_unit k w p s timeout) [] refl)

  reads_set : (f : Object)
      → KnowsFlag (CellsOf (about_set k w p f)) f × Each (Knows (CellsOf (about_set k w p f))) (queue k w kind.Eventflag f)
  reads_set f = (reads_flag f (queue k w kind.Eventflag f) false, all_known w p (about_set k w p f))

  reads_pattern : (f : Object) (timeout : ℤ)
      → KnowsFlag (CellsOf (about_pattern k w p f timeout)) f × Knows (CellsOf (about_pattern k w p f timeout)) (caller w p)
  reads_pattern f timeout = (reads_flag f (caller w p ∷ []) (is_some (ticks_of timeout)), caller_known (about_pattern k w p f timeout) [] refl)

  reads_sent : (d : Object) → KnowsReceiver k (CellsOf (about_sent k w p d)) w p d
  reads_sent d = (reads_queue d (these (receiver k w d)) false, first_known w p (about_sent k w p d) (receiver k w d) refl)

  reads_sending : (d : Object) (timeout : ℤ)
      → KnowsReceiver k (CellsOf (about_sending k w p d timeout)) w p d × Knows (CellsOf (about_sending k w p d timeout)) (caller w p)
  reads_sending d timeout =
      let a = about_sending k w p d timeout in
      let t = receiver k w d in
      ((reads_queue d (caller w p ∷ these t) (is_some (ticks_of timeout)), next_known w p a (caller w p) t refl), caller_known a (these t) refl)

  reads_received : (d : Object) → KnowsSender k (CellsOf (about_received k w p d)) w p d
  reads_received d = (reads_queue d (these (sender k w d)) false, first_known w p (about_received k w p d) (sender k w d) refl)

  reads_receiving : (d : Object) (timeout : ℤ)
      → KnowsSender k (CellsOf (about_receiving k w p d timeout)) w p d × Knows (CellsOf (about_receiving k w p d timeout)) (caller w p)
  reads_receiving d timeout =
      let a = about_receiving k w p d timeout in
      let t = sender k w d in
      ((reads_queue d (caller w p ∷ these t) (is_some (ticks_of timeout)), next_known w p a (caller w p) t refl), caller_known a (these t) refl)

  reads_block : (m : Object) (timeout : ℤ)
      → KnowsPool (CellsOf (about_block k w p m timeout)) m × Knows (CellsOf (about_block k w p m timeout)) (caller w p)
  reads_block m timeout = (reads_pool m (caller w p ∷ []) (is_some (ticks_of timeout)), caller_known (about_block k w p m timeout) [] refl)

  reads_return : (m : Object) → KnowsPool (CellsOf (about_return k w p m)) m × KnowsFirst k (CellsOf (about_return k w p m)) w p kind.Pool m
  reads_return m = (reads_pool m (these (first (queue k w kind.Pool m))) false, first_known w p (about_return k w p m) (first (queue k w kind.Pool m)) refl)

  reads_rotation : (q : Proc) (n : ℤ) → ReadsReady k (CellsOf (about_rotation k w p q n)) w p q n
  reads_rotation q n =
      let a = about_rotation k w p q n in
      let t = rotated k w p q n in
      (caller_known a (these t) refl, goes w p a (on q) [] refl, next_known w p a (caller w p) t refl)

  -- and is all that it reads
  pub about_reads : (c : Call) → Known c
  about_reads (calls.Task (task_call.ActTsk id)) = all (named_or_caller w p id)
  about_reads (calls.Task (task_call.IactTsk id)) = all (named_task w id)
  about_reads (calls.Task (task_call.MactTsk id to)) = moved (named_or_caller w p id) (destination w (task_or_caller w p id) to)
  about_reads (calls.Task (task_call.ImactTsk id to)) = moved (named_task w id) (destination w (task_named w id) to)
  about_reads (calls.Task (task_call.CanAct id)) = all (named_or_caller w p id)
  about_reads (calls.Task (task_call.MigTsk id to)) = moved (named_or_caller w p id) (destination w (task_or_caller w p id) to)
  about_reads (calls.Task task_call.ExtTsk) = knows_all w p (about_exit k w p) (caller w p) [] refl
  about_reads (calls.Task (task_call.TerTsk id)) = moved (named_task w id) (ended (task w (named_task w id))).assigned
  about_reads (calls.Task (task_call.ChgPri id n)) = rank (named_or_caller w p id)
  about_reads (calls.Task (task_call.GetPri id)) = all (named_or_caller w p id)
  about_reads (calls.Task task_call.SlpTsk) = sleeper forever
  about_reads (calls.Task (task_call.TslpTsk timeout)) = sleeper timeout
  about_reads (calls.Task (task_call.WupTsk id)) = all (named_or_caller w p id)
  about_reads (calls.Task (task_call.IwupTsk id)) = all (named_task w id)
  about_reads (calls.Task (task_call.CanWup id)) = all (named_or_caller w p id)
  about_reads (calls.Task (task_call.RelWai id)) = all (named_task w id)
  about_reads (calls.Task (task_call.IrelWai id)) = all (named_task w id)
  about_reads (calls.Task (task_call.SusTsk id)) = all (named_or_caller w p id)
  about_reads (calls.Task (task_call.RsmTsk id)) = all (named_task w id)
  about_reads (calls.Task (task_call.DlyTsk n)) = sleeper n
  about_reads (calls.Sync (sync.SigSem id)) = reads_signal (semaphore_named w id)
  about_reads (calls.Sync (sync.IsigSem id)) = reads_signal (semaphore_named w id)
  about_reads (calls.Sync (sync.WaiSem id)) = reads_unit (semaphore_named w id) forever
  about_reads (calls.Sync (sync.TwaiSem id timeout)) = reads_unit (semaphore_named w id) timeout
  about_reads (calls.Sync (sync.PolSem id)) = reads_semaphore (semaphore_named w id) [] false
  about_reads (calls.Sync (sync.SetFlg id x)) = reads_set (eventflag_named w id)
  about_reads (calls.Sync (sync.IsetFlg id x)) = reads_set (eventflag_named w id)
  about_reads (calls.Sync (sync.ClrFlg id x)) = reads_flag (eventflag_named w id) [] false
  about_reads (calls.Sync (sync.WaiFlg id x m)) = reads_pattern (eventflag_named w id) forever
  about_reads (calls.Sync (sync.TwaiFlg id x m timeout)) = reads_pattern (eventflag_named w id) timeout
  about_reads (calls.Sync (sync.PolFlg id x m)) = reads_flag (eventflag_named w id) [] false
  about_reads (calls.Buffer (buffer.SndDtq id v)) = reads_sending (data_queue_named w id) forever
  about_reads (calls.Buffer (buffer.TsndDtq id v timeout)) = reads_sending (data_queue_named w id) timeout
  about_reads (calls.Buffer (buffer.PsndDtq id v)) = reads_sent (data_queue_named w id)
  about_reads (calls.Buffer (buffer.IpsndDtq id v)) = reads_sent (data_queue_named w id)
  about_reads (calls.Buffer (buffer.FsndDtq id v)) = reads_sent (data_queue_named w id)
  about_reads (calls.Buffer (buffer.IfsndDtq id v)) = reads_sent (data_queue_named w id)
  about_reads (calls.Buffer (buffer.RcvDtq id)) = reads_receiving (data_queue_named w id) forever
  about_reads (calls.Buffer (buffer.TrcvDtq id timeout)) = reads_receiving (data_queue_named w id) timeout
  about_reads (calls.Buffer (buffer.PrcvDtq id)) = reads_received (data_queue_named w id)
  about_reads (calls.Buffer (buffer.GetMpf id)) = reads_block (pool_named w id) forever
  about_reads (calls.Buffer (buffer.TgetMpf id timeout)) = reads_block (pool_named w id) timeout
  about_reads (calls.Buffer (buffer.PgetMpf id)) = reads_pool (pool_named w id) [] false
  about_reads (calls.Buffer (buffer.RelMpf id b)) = reads_return (pool_named w id)
  about_reads (calls.Time (time.StaCyc id)) = cyclic_there (cyclic_named w id)
  about_reads (calls.Time (time.MstaCyc id to)) = cyclic_there (cyclic_named w id)
  about_reads (calls.Time (time.StpCyc id)) = cyclic_there (cyclic_named w id)
  about_reads (calls.Time (time.StaAlm id n)) = alarm_there (alarm_named w id)
  about_reads (calls.Time (time.IstaAlm id n)) = alarm_there (alarm_named w id)
  about_reads (calls.Time (time.MstaAlm id n to)) = alarm_there (alarm_named w id)
  about_reads (calls.Time (time.ImstaAlm id n to)) = alarm_there (alarm_named w id)
  about_reads (calls.Time (time.StpAlm id)) = alarm_there (alarm_named w id)
  about_reads (calls.Time (time.IstpAlm id)) = alarm_there (alarm_named w id)
  about_reads (calls.System (system.RotRdq n)) = reads_rotation p n
  about_reads (calls.System (system.IrotRdq n)) = reads_rotation p n
  about_reads (calls.System (system.MrotRdq n q)) = reads_rotation (unwrap_or (processor_named w q) p) n
  about_reads (calls.System (system.ImrotRdq n q)) = reads_rotation (unwrap_or (processor_named w q) p) n
  about_reads (calls.System system.LocCpu) = tt
  about_reads (calls.System system.IlocCpu) = tt
  about_reads (calls.System system.DisDsp) = tt
  about_reads (calls.System system.EnaDsp) = tt
  about_reads (calls.System system.UnlCpu) = all_locks w p about_locks refl
  about_reads (calls.System system.IunlCpu) = all_locks w p about_locks refl
  about_reads (calls.System system.GetTid) = tt
  about_reads (calls.System system.IgetTid) = tt
  about_reads (calls.System system.GetPid) = tt
  about_reads (calls.System system.IgetPid) = tt
  about_reads (calls.System system.SnsCtx) = tt
  about_reads (calls.System system.SnsLoc) = tt
  about_reads (calls.System system.SnsDsp) = tt
  about_reads (calls.System system.SnsDpn) = tt
  about_reads (calls.Spin (spin.LocSpn id)) = (covers_lock (lock_named w id)).1
  about_reads (calls.Spin (spin.IlocSpn id)) = (covers_lock (lock_named w id)).1
  about_reads (calls.Spin (spin.TrySpn id)) = (covers_lock (lock_named w id)).1
  about_reads (calls.Spin (spin.ItrySpn id)) = (covers_lock (lock_named w id)).1
  about_reads (calls.Spin (spin.UnlSpn id)) = lock_there w p (about_freeing (lock_named w id)) (there (lock_named w id)) refl
  about_reads (calls.Spin (spin.IunlSpn id)) = lock_there w p (about_freeing (lock_named w id)) (there (lock_named w id)) refl
  about_reads calls.RetHdr = tt

  abbrev Counted : Cell → Type 0
  Counted = Within (is_about w p (about_tick k w p))

  counted : (n : ℕ) → counts_for w.timer p (slice_index_or w.tasks n no_task).assigned ≡ true
      → (is_named w p (about_tick k w p) n || counts_task w p (about_tick k w p) n) ≡ true
  counted n e = or_right (is_named w p (about_tick k w p) n) (counts_task w p (about_tick k w p) n) e

  -- what a tick is about covers it, and is all that it reads
  pub tick_covers : CoversTick k Counted w p
  tick_covers = record {
    left = counted;
    cyclics = λ n e. or_right false _ (or_left _ (is_over (slice_index_or (counted_down w p).cyclics_left n None)) e);
    alarms = λ n e. or_right false _ (or_left _ (is_over (slice_index_or (counted_down w p).alarms_left n None)) e);
    due = eq-eqb (on p) (on p) refl;
    cyclics_due = λ n e. or_right false _ (or_right (counts_for w.timer p (slice_index_or w.cyclics n blank_cyclic).assigned) _ e);
    alarms_due = λ n e. or_right false _ (or_right (counts_for w.timer p (slice_index_or w.alarms n blank_alarm).assigned) _ e);
    released = all_wake w p (about_tick k w p);
  }

  pub tick_reads : ReadsTick k Counted w p
  tick_reads = record {
    tasks = λ n h. h;
    timed = or_right (list_any (λ t. is_some (item None w.waits_left t.number)) (about_tick k w p).tasks) true refl;
    over = all_known w p (about_tick k w p);
  }
