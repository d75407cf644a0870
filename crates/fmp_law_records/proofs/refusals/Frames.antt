-- What no event changes: the limits, how many objects there are of each kind, and how each is configured.
use Rattle.std.proofs.Common.{◌≡◌, ℕ, ◌+◌, ◌-◌, ◌∙◌, ℤ, Bool, true, false, List, [], ◌∷◌, length, map, refl, ap, Option, Some, None}
use Rattle.std.specs.Prelude.{if◌then◌else◌, is_some, nat_lt, replicate, slice_set, unwrap_or}
use Rattle.std.proofs.lemmas.Bool.{cond_both}
use Rattle.std.proofs.lemmas.List.{ext_get_or, length-set, length-replicate}
use Rattle.std.proofs.Math.Seq.{map-set_same}
use Rattle.fmp_codes.specs.Numbers.{as_task, as_proc, as_object}
use Rattle.fmp_codes.specs.declared.numbers.Proc.{Proc}
use Rattle.fmp_codes.specs.declared.numbers.Task.{Task}
use Rattle.fmp_codes.specs.declared.numbers.Object.{Object}
use Rattle.fmp_codes.specs.declared.calls.Call.{Call}
use Rattle.fmp_codes.specs.declared.calls.Call.TheVariants as call
use Rattle.fmp_codes.specs.declared.calls.TaskCall.TheVariants as tasks
use Rattle.fmp_codes.specs.declared.calls.SyncCall.{SyncCall}
use Rattle.fmp_codes.specs.declared.calls.SyncCall.TheVariants as sync
use Rattle.fmp_codes.specs.declared.calls.BufferCall.TheVariants as buffer
use Rattle.fmp_codes.specs.declared.calls.TimeCall.{TimeCall}
use Rattle.fmp_codes.specs.declared.calls.TimeCall.TheVariants as time
use Rattle.fmp_codes.specs.declared.calls.SystemCall.TheVariants as system
use Rattle.fmp_codes.specs.declared.records.Event.{Event}
use Rattle.fmp_codes.specs.declared.records.Release.{Release}
use Rattle.fmp_setup.specs.declared.setup.Limits.{Limits}
use Rattle.fmp_setup.specs.declared.setup.TaskSetup.{TaskSetup}
use Rattle.fmp_setup.specs.declared.setup.SemaphoreSetup.{SemaphoreSetup}
use Rattle.fmp_setup.specs.declared.setup.EventflagSetup.{EventflagSetup}
use Rattle.fmp_setup.specs.declared.setup.DataQueueSetup.{DataQueueSetup}
use Rattle.fmp_setup.specs.declared.setup.PoolSetup.{PoolSetup}
use Rattle.fmp_setup.specs.declared.setup.CyclicSetup.{CyclicSetup}
use Rattle.fmp_setup.specs.declared.setup.AlarmSetup.{AlarmSetup}
use Rattle.fmp_setup.specs.Setup.{Setup, no_cyclic, no_alarm}
use Rattle.fmp_rules.specs.Effects.{Effect}
use Rattle.fmp_rules.specs.declared.machine.Semaphore.{Semaphore}
use Rattle.fmp_rules.specs.declared.machine.Eventflag.{Eventflag}
use Rattle.fmp_rules.specs.declared.machine.Pool.{Pool}
use Rattle.fmp_rules.specs.declared.machine.Cyclic.{Cyclic}
use Rattle.fmp_rules.specs.declared.machine.Alarm.{Alarm}
use Rattle.fmp_rules.specs.declared.machine.Wait.{Wait}
use Rattle.fmp_rules.specs.declared.machine.Wait.TheVariants as wait
use Rattle.fmp_rules.specs.declared.machine.QueueKind.TheVariants as kind
use Rattle.fmp_rules.specs.World.{World, with_item, task, first, processors_to}
use Rattle.fmp_rules.specs.Objects.{blank_semaphore, blank_eventflag, blank_pool, semaphore, eventflag, holds, pool, free_block, cyclic, alarm}
use Rattle.fmp_rules.specs.Ordering.{Ordering, queue}
use Rattle.fmp_rules.specs.Arrivals.{State, numbered}
use Rattle.fmp_rules.specs.Tasks.{start, make_ready}
use Rattle.fmp_rules.specs.Rows.{called, done_or_wait}
use Rattle.fmp_rules.specs.Arguments.{is_zero, forever, object_named}
use Rattle.fmp_rules.specs.SyncCalls.{is_met, cleared, served, signal, counted, answered, sync_row}
use Rattle.fmp_rules.specs.BufferCalls.{given, returned, block_of}
use Rattle.fmp_rules.specs.TimeCalls.{time_row}
use Rattle.fmp_rules.specs.Tick.{tick, ticked, counted_down, released, tasks_expired, with_handlers_due, alarms_due, expired}
use Rattle.fmp_rules.specs.Step.{row_of, step, replay}
use Rattle.fmp_rules.specs.Boot.{blank, all_started, with_top_running, with_tops_running, booted, unnumbered}
use Rattle.fmp_law_safety.proofs.KeepsDue.{alarms_keep, cyclics_keep, released_keep}
use Rattle.fmp_law_footprint.specs.Cells.{OfSemaphore, OfEventflag, OfPool, OfCyclic, OfAlarm, blank_cyclic, blank_alarm}
use Rattle.fmp_law_footprint.specs.Shapes as shapes
use Rattle.fmp_law_footprint.specs.Kinds.{may_change}
use Rattle.fmp_law_footprint.proofs.OtherKinds.{call_leaves}
use Rattle.fmp_law_balance.proofs.Called.{either_way}
use Rattle.fmp_law_balance.proofs.waits.Events.{by_event}
use Rattle.fmp_law_records.proofs.Rows.{sync_rows, buffer_rows, time_rows}
use Rattle.fmp_law_records.proofs.Leaving.{same_shape}

pub record Frame : Type 0 where
  pub limits : Limits
  pub semaphores : List SemaphoreSetup
  pub eventflags : List EventflagSetup
  pub data_queues : List DataQueueSetup
  pub pools : List PoolSetup
  pub marks : List ℕ  -- how many marks of blocks each pool has
  pub cyclics : List CyclicSetup
  pub alarms : List AlarmSetup
  pub spin_locks : ℕ

abbrev pub frame : {Q : Type 0} → World Q → Frame
frame w = record {
  limits = w.limits;
  semaphores = map (λ x. x.setup) w.semaphores;
  eventflags = map (λ x. x.setup) w.eventflags;
  data_queues = w.data_queues;
  pools = map (λ x. x.setup) w.pools;
  marks = map (λ x. length x.handed) w.pools;
  cyclics = map (λ x. x.setup) w.cyclics;
  alarms = map (λ x. x.setup) w.alarms;
  spin_locks = length w.holders;
}

-- what a configuration says of it
abbrev pub frame_of : Setup → Frame
frame_of c = record {
  limits = c.limits;
  semaphores = c.semaphores;
  eventflags = c.eventflags;
  data_queues = c.data_queues;
  pools = c.pools;
  marks = map (λ x. 64) c.pools;
  cyclics = c.cyclics;
  alarms = c.alarms;
  spin_locks = c.spin_locks;
}

abbrev Frames : {Q : Type 0} → World Q → World Q → Type 0
Frames w v = frame v ≡ frame w

-- One object changes, or the holders do.
module _ {Q : Type 0} (w : World Q) where
  put_semaphore : (s : Object) (y : Semaphore) → y.setup ≡ (semaphore w s).setup → Frames w (record w { semaphores = with_item w.semaphores s.number y })
  put_semaphore s y e =
      ap (λ (xs : List SemaphoreSetup). record (frame w) { semaphores = xs })
      (map-set_same (λ (x : Semaphore). x.setup) w.semaphores (s.number - 1) y blank_semaphore e)

  put_eventflag : (f : Object) (y : Eventflag) → y.setup ≡ (eventflag w f).setup → Frames w (record w { eventflags = with_item w.eventflags f.number y })
  put_eventflag f y e =
      ap (λ (xs : List EventflagSetup). record (frame w) { eventflags = xs })
      (map-set_same (λ (x : Eventflag). x.setup) w.eventflags (f.number - 1) y blank_eventflag e)

  put_pool : (m : Object) (y : Pool) → y.setup ≡ (pool w m).setup → length y.handed ≡ length (pool w m).handed →
      Frames w (record w { pools = with_item w.pools m.number y })
  put_pool m y e same =
      ap (λ (xs : List PoolSetup). record (frame w) { pools = xs; marks = map (λ (x : Pool). length x.handed) (with_item w.pools m.number y) })
      (map-set_same (λ (x : Pool). x.setup) w.pools (m.number - 1) y blank_pool e)
      ∙ ap (λ (ns : List ℕ). record (frame w) { marks = ns }) (map-set_same (λ (x : Pool). length x.handed) w.pools (m.number - 1) y blank_pool same)

  put_cyclic : (o : Object) (y : Cyclic) → y.setup ≡ (cyclic w o).setup → Frames w (record w { cyclics = with_item w.cyclics o.number y })
  put_cyclic o y e =
      ap (λ (xs : List CyclicSetup). record (frame w) { cyclics = xs })
      (map-set_same (λ (x : Cyclic). x.setup) w.cyclics (o.number - 1) y (record { setup = no_cyclic; assigned = as_proc 1 }) e)

  put_alarm : (a : Object) (y : Alarm) → y.setup ≡ (alarm w a).setup → Frames w (record w { alarms = with_item w.alarms a.number y })
  put_alarm a y e =
      ap (λ (xs : List AlarmSetup). record (frame w) { alarms = xs })
      (map-set_same (λ (x : Alarm). x.setup) w.alarms (a.number - 1) y (record { setup = no_alarm; assigned = as_proc 1 }) e)

module _ {Q : Type 0} (k : Ordering Q) (w : World Q) (p : Proc) where
  abbrev Framed : World Q × Effect → Type 0
  Framed did = frame did.0 ≡ frame w

  abbrev of_list : {X : Type 0} → List X → ℤ → Object
  of_list xs id = unwrap_or (object_named xs id) (as_object 1)

  framed_wait : (can : Bool) (did : World Q × Effect) (x : Wait) (timeout : ℤ) → Framed did → Framed (done_or_wait k w p can did x timeout)
  framed_wait can did x timeout h = cond_both can _ _ Framed (λ _. h) (λ _. cond_both (is_zero timeout) _ _ Framed (λ _. refl) (λ _. refl))

  framed_signal : (s : Object) (o : Option Task) → Framed (signal k w s o)
  framed_signal s None = put_semaphore w s _ refl
  framed_signal s (Some t) = refl

  framed_served : (v : World Q) (f : Object) (x : ℕ) (ts : List Task) → frame (served k v f x ts).0 ≡ frame v
  framed_served v f x [] = put_eventflag v f _ refl
  framed_served v f x (t ∷ ts) =
      cond_both (is_met x (task v t).wait) _ _ (λ (did : World Q × List Release). frame did.0 ≡ frame v)
      (λ _. framed_served (make_ready k v t) f (cleared v f x) ts) (λ _. framed_served v f x ts)

  framed_sync : (c : SyncCall) → Framed (sync_row k w p c).effect
  unfolding sync_rows
  framed_sync (sync.SigSem id) = framed_signal (of_list w.semaphores id) (first (queue k w kind.Semaphore (of_list w.semaphores id)))
  framed_sync (sync.IsigSem id) = framed_signal (of_list w.semaphores id) (first (queue k w kind.Semaphore (of_list w.semaphores id)))
  framed_sync (sync.WaiSem id) = let s : Object = of_list w.semaphores id in
      framed_wait (nat_lt 0 (semaphore w s).count) (counted w s) (wait.Semaphore s) forever (put_semaphore w s _ refl)
  framed_sync (sync.TwaiSem id timeout) = let s : Object = of_list w.semaphores id in
      framed_wait (nat_lt 0 (semaphore w s).count) (counted w s) (wait.Semaphore s) timeout (put_semaphore w s _ refl)
  framed_sync (sync.PolSem id) = put_semaphore w (of_list w.semaphores id) _ refl
  framed_sync (sync.SetFlg id x) = framed_served w (of_list w.eventflags id) _ (queue k w kind.Eventflag (of_list w.eventflags id))
  framed_sync (sync.IsetFlg id x) = framed_served w (of_list w.eventflags id) _ (queue k w kind.Eventflag (of_list w.eventflags id))
  framed_sync (sync.ClrFlg id x) = put_eventflag w (of_list w.eventflags id) _ refl
  framed_sync (sync.WaiFlg id x m) =
      let f : Object = of_list w.eventflags id in
      framed_wait (holds (eventflag w f).pattern x m) (answered w f) (wait.Eventflag f x m) forever (put_eventflag w f _ refl)
  framed_sync (sync.TwaiFlg id x m timeout) =
      let f : Object = of_list w.eventflags id in
      framed_wait (holds (eventflag w f).pattern x m) (answered w f) (wait.Eventflag f x m) timeout (put_eventflag w f _ refl)
  framed_sync (sync.PolFlg id x m) = put_eventflag w (of_list w.eventflags id) _ refl

  framed_given : (m : Object) (b : ℕ) → Framed (given w m b)
  framed_given m b = put_pool w m (record (pool w m) { handed = slice_set (pool w m).handed b true }) refl (length-set (pool w m).handed b true)

  framed_returned : (m : Object) (b : ℕ) (o : Option Task) → Framed (returned k w m b o)
  framed_returned m b None = put_pool w m (record (pool w m) { handed = slice_set (pool w m).handed b false }) refl (length-set (pool w m).handed b false)
  framed_returned m b (Some t) = refl

  framed_get : (m : Object) (timeout : ℤ) →
      Framed (done_or_wait k w p (is_some (free_block w m)) (given w m (unwrap_or (free_block w m) 0)) (wait.Pool m) timeout)
  framed_get m timeout = framed_wait (is_some (free_block w m)) _ (wait.Pool m) timeout (framed_given m (unwrap_or (free_block w m) 0))

  framed_time : (c : TimeCall) → Framed (time_row w c).effect
  unfolding time_rows
  framed_time (time.MstaCyc id to) = put_cyclic w (of_list w.cyclics id) _ refl
  framed_time (time.MstaAlm id after to) = put_alarm w (of_list w.alarms id) _ refl
  framed_time (time.ImstaAlm id after to) = put_alarm w (of_list w.alarms id) _ refl
  framed_time c = refl

  abbrev after : Call → World Q × Effect
  after c = called w p (row_of k w p c)

  -- a call that changes no such object
  far : (c : Call) → ((n : ℕ) → (may_change c (OfSemaphore n) ≡ false) × (may_change c (OfEventflag n) ≡ false) × (may_change c (OfPool n) ≡ false)
      × (may_change c (OfCyclic n) ≡ false) × (may_change c (OfAlarm n) ≡ false)) → Framed (after c)
  far c off =
      let v : World Q = (after c).0 in
      let shape : shapes.frame v ≡ shapes.frame w = same_shape k w p c in
      let many : (f : shapes.Frame → ℕ) → f (shapes.frame v) ≡ f (shapes.frame w) = λ f. ap f shape in
      let semaphores = ext_get_or blank_semaphore v.semaphores w.semaphores (many (λ f. f.semaphores)) (λ n _. call_leaves k w p c (OfSemaphore n) (off n).0) in
      let eventflags = ext_get_or blank_eventflag v.eventflags w.eventflags (many (λ f. f.eventflags)) (λ n _. call_leaves k w p c (OfEventflag n) (off n).1) in
      let pools = ext_get_or blank_pool v.pools w.pools (many (λ f. f.pools)) (λ n _. call_leaves k w p c (OfPool n) (off n).2) in
      let cyclics = ext_get_or blank_cyclic v.cyclics w.cyclics (many (λ f. f.cyclics))
      (λ n _. ap (λ x. x.0) (call_leaves k w p c (OfCyclic n) (off n).3)) in
      let alarms = ext_get_or blank_alarm v.alarms w.alarms (many (λ f. f.alarms)) (λ n _. ap (λ x. x.0) (call_leaves k w p c (OfAlarm n) (off n).4)) in
      λ i. record {
        limits = (shape i).limits;
        semaphores = map (λ x. x.setup) (semaphores i);
        eventflags = map (λ x. x.setup) (eventflags i);
        data_queues = (shape i).data_queues;
        pools = map (λ x. x.setup) (pools i);
        marks = map (λ x. length x.handed) (pools i);
        cyclics = map (λ x. x.setup) (cyclics i);
        alarms = map (λ x. x.setup) (alarms i);
        spin_locks = (shape i).holders;
      }

  -- a call on such objects, if it is accepted
  near : (c : Call) → Framed (row_of k w p c).effect → Framed (after c)
  near c h = either_way w p Framed (row_of k w p c) (λ x. refl) h

  framed_call : (c : Call) → Framed (after c)
  unfolding buffer_rows
  framed_call (call.Task tasks.ExtTsk) = far (call.Task tasks.ExtTsk) (λ n. (refl, refl, refl, refl, refl))
  framed_call (call.Task c) = far (call.Task c) (λ n. (refl, refl, refl, refl, refl))
  framed_call (call.Sync c) = near (call.Sync c) (framed_sync c)
  framed_call (call.Buffer (buffer.GetMpf id)) = near (call.Buffer (buffer.GetMpf id)) (framed_get (of_list w.pools id) forever)
  framed_call (call.Buffer (buffer.TgetMpf id timeout)) = near (call.Buffer (buffer.TgetMpf id timeout)) (framed_get (of_list w.pools id) timeout)
  framed_call (call.Buffer (buffer.PgetMpf id)) = near (call.Buffer (buffer.PgetMpf id)) (framed_given (of_list w.pools id) _)
  framed_call (call.Buffer (buffer.RelMpf id b)) =
      let m : Object = of_list w.pools id in near (call.Buffer (buffer.RelMpf id b)) (framed_returned m (block_of b) (first (queue k w kind.Pool m)))
  framed_call (call.Buffer c) = far (call.Buffer c) (λ n. (refl, refl, refl, refl, refl))
  framed_call (call.Time c) = near (call.Time c) (framed_time c)
  framed_call (call.System (system.RotRdq n)) = far (call.System (system.RotRdq n)) (λ n. (refl, refl, refl, refl, refl))
  framed_call (call.System c) = far (call.System c) (λ n. (refl, refl, refl, refl, refl))
  framed_call (call.Spin c) = far (call.Spin c) (λ n. (refl, refl, refl, refl, refl))
  framed_call call.RetHdr = far call.RetHdr (λ n. (refl, refl, refl, refl, refl))

  framed_tick : Framed (tick k w p)
  unfolding counted_down ticked with_handlers_due
  framed_tick =
      let v : World Q = counted_down w p in
      let ts : List Task = tasks_expired v.waits_left (k.timed v.order v.waits_left) in
      let S : World Q → Type 0 = λ x. frame x ≡ frame w in
      let u : World Q = (released k v ts).0 in
      cyclics_keep p S (λ x c h. h) (alarms_due u p (expired u.alarms_left u.alarms)) (expired u.cyclics_left u.cyclics)
      (alarms_keep p S (λ x a h. h) u (expired u.alarms_left u.alarms) (released_keep p S k (λ x t h. h) v ts refl))

framed_step : {Q : Type 0} (k : Ordering Q) (w : World Q) (e : Event) → frame (step k w e).0 ≡ frame w
framed_step k w e = by_event k w (λ v r. frame v ≡ frame w) (λ v cs r y ps h. h) (λ p c. framed_call k w p c) (λ p c. refl) (λ p. framed_tick k w p) (λ p. refl)
    (λ p. refl) (λ p a h. refl) e

-- At boot all is as configured, and so it is along a run.

running_framed : (w : State) (ps : List Proc) → frame (with_tops_running numbered w ps) ≡ frame w
running_framed w [] = refl
running_framed w (p ∷ ps) = running_framed (with_top_running numbered w p) ps

started_framed : (w : State) (n : ℕ) (ss : List TaskSetup) → frame (all_started numbered w n ss) ≡ frame w
started_framed w n [] = refl
started_framed w n (s ∷ ss) =
    started_framed (if s.starts then start numbered w (as_task n) s.class.initial else w) (n + 1) ss
    ∙ cond_both s.starts (start numbered w (as_task n) s.class.initial) w (λ (v : State). frame v ≡ frame w) (λ _. refl) (λ _. refl)

marks_made : (ss : List PoolSetup) →
    map (λ (x : Pool). length x.handed) (map (λ (s : PoolSetup). record { setup = s; handed = replicate 64 false }) ss) ≡ map (λ x. 64) ss
marks_made [] = refl
marks_made (s ∷ ss) = ap (λ ns. 64 ∷ ns) (marks_made ss)

-- what an object is made of is what it is made from
made_from : {X S : Type 0} (setup : X → S) (made : S → X) → ((s : S) → setup (made s) ≡ s) → (ss : List S) → map setup (map made ss) ≡ ss
made_from setup made same [] = refl
made_from setup made same (s ∷ ss) = ap (λ y. y ∷ map setup (map made ss)) (same s) ∙ ap (λ ys. s ∷ ys) (made_from setup made same ss)

blank_framed : (c : Setup) → frame (blank (unnumbered c) c) ≡ frame_of c
blank_framed c =
    let semaphores = made_from (λ (x : Semaphore). x.setup) (λ (s : SemaphoreSetup). record { setup = s; count = s.initial }) (λ s. refl) c.semaphores in
    let eventflags = made_from (λ (x : Eventflag). x.setup) (λ (s : EventflagSetup). record { setup = s; pattern = s.initial }) (λ s. refl) c.eventflags in
    let pools = made_from (λ (x : Pool). x.setup) (λ (s : PoolSetup). record { setup = s; handed = replicate 64 false }) (λ s. refl) c.pools in
    let cyclics = made_from (λ (x : Cyclic). x.setup) (λ (s : CyclicSetup). record { setup = s; assigned = s.class.initial }) (λ s. refl) c.cyclics in
    let alarms = made_from (λ (x : Alarm). x.setup) (λ (s : AlarmSetup). record { setup = s; assigned = s.class.initial }) (λ s. refl) c.alarms in
    rw (semaphores, eventflags, pools, marks_made c.pools, cyclics, alarms, length-replicate {A = Option Proc} c.spin_locks None) refl

pub framed_run : (m : State) (es : List Event) → frame (replay numbered m es) ≡ frame m
framed_run m [] = refl
framed_run m (e ∷ es) = framed_run (step numbered m e).0 es ∙ framed_step numbered m e

pub framed_from_boot : (c : Setup) (es : List Event) → frame (replay numbered (booted c) es) ≡ frame_of c
framed_from_boot c es =
    let first : State = blank (unnumbered c) c in
    framed_run (booted c) es ∙ running_framed (all_started numbered first 1 c.tasks) (processors_to c.processors) ∙ started_framed first 1 c.tasks ∙ blank_framed c
