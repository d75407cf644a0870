-- What calls and ticks do to tasks, by what they answer.
use Rattle.std.proofs.Common.{◌≡◌, ℕ, ◌-◌, Bool, true, false, ◌||◌, not, ◌&&◌, List, [], ◌∷◌, Option, None, Some, ◌⊎◌, inl, inr, map, refl, ap, sym, ⊎_elim, ℤ}
use Rattle.std.specs.Prelude.{if◌then◌else◌, is_some, nat_lt, unwrap_or}
use Rattle.std.proofs.Math.Seq.{map-set_same}
use Rattle.std.proofs.lemmas.Bool.{and_parts, both_ways, cond_both, not-true, or_parts, true≢false}
use Rattle.std.proofs.lemmas.List.{set-get_or}
use Rattle.fmp_codes.specs.Numbers.{as_object, as_task}
use Rattle.fmp_codes.specs.declared.numbers.Object.{Object}
use Rattle.fmp_codes.specs.declared.numbers.Proc.{Proc}
use Rattle.fmp_codes.specs.declared.numbers.Task.{Task}
use Rattle.fmp_codes.specs.declared.calls.BufferCall.{BufferCall}
use Rattle.fmp_codes.specs.declared.calls.BufferCall.TheVariants as buffer
use Rattle.fmp_codes.specs.declared.calls.Call.{Call}
use Rattle.fmp_codes.specs.declared.calls.Call.TheVariants as call
use Rattle.fmp_codes.specs.declared.calls.Mode.{Mode}
use Rattle.fmp_codes.specs.declared.calls.SpinCall.TheVariants as spin
use Rattle.fmp_codes.specs.declared.calls.SyncCall.{SyncCall}
use Rattle.fmp_codes.specs.declared.calls.SyncCall.TheVariants as sync
use Rattle.fmp_codes.specs.declared.calls.SystemCall.TheVariants as system
use Rattle.fmp_codes.specs.declared.calls.TaskCall.{TaskCall}
use Rattle.fmp_codes.specs.declared.calls.TaskCall.TheVariants as task_call
use Rattle.fmp_codes.specs.declared.calls.TimeCall.TheVariants as time
use Rattle.fmp_codes.specs.declared.codes.Code.{Code}
use Rattle.fmp_codes.specs.declared.records.Answer.TheVariants as answer
use Rattle.fmp_codes.specs.declared.records.Event.{Event}
use Rattle.fmp_codes.specs.declared.records.Event.TheVariants as event
use Rattle.fmp_codes.specs.declared.records.Release.{Release}
use Rattle.fmp_codes.specs.declared.records.Runner.{Runner}
use Rattle.fmp_rules.specs.Effects.{Effect}
use Rattle.fmp_rules.specs.declared.machine.Processor.{Processor}
use Rattle.fmp_rules.specs.declared.machine.QueueKind.TheVariants as kind
use Rattle.fmp_rules.specs.declared.machine.Wait.{Wait}
use Rattle.fmp_rules.specs.declared.machine.Wait.TheVariants as wait
use Rattle.fmp_rules.specs.World.{World, first, no_processor, no_task, processor, task, with_item}
use Rattle.fmp_rules.specs.Objects.{eventflag, free_block, holder, holds, semaphore}
use Rattle.fmp_rules.specs.Ordering.{Ordering, queue}
use Rattle.fmp_rules.specs.Tasks.{rotate}
use Rattle.fmp_rules.specs.Arguments.{caller, forever, is_zero, object_named}
use Rattle.fmp_rules.specs.Rows.{called, called_by, check, done, done_or_wait, plain}
use Rattle.fmp_rules.specs.Step.{row_of}
use Rattle.fmp_rules.specs.Tick.{alarms_due, counted_down, expired, released, tasks_expired, tick, ticked, with_handlers_due}
use Rattle.fmp_rules.specs.TaskCalls.{act, can_act, can_wup, chg_pri, dly_tsk, ext_tsk, is_sleep, mact, mig_tsk, rel_wai, rsm_tsk, sus_tsk, ter_tsk, tslp_tsk, wup}
use Rattle.fmp_rules.specs.SyncCalls.{accepted_with, answered, clr_flg, counted, is_met, pol_flg, pol_sem, served, set_flg, sig_sem, signal, twai_flg, twai_sem}
use Rattle.fmp_rules.specs.BufferCalls.{block_of, can_receive, can_send, forced, fsnd_dtq, given, pget_mpf, prcv_dtq, psnd_dtq, received, receiver, rel_mpf, returned, sender, sent, tget_mpf, trcv_dtq, tsnd_dtq}
use Rattle.fmp_rules.specs.TimeCalls.{msta_alm, msta_cyc, sta_alm, sta_cyc, stp_alm, stp_cyc}
use Rattle.fmp_rules.specs.SystemCalls.{rotation, rotation_in_handler}
use Rattle.fmp_rules.specs.SpinCalls.{loc_spn, ret_hdr, taken, try_spn, unl_spn}
use Rattle.fmp_law_footprint.specs.Cells.{Cell, DueOn, OfSemaphore, OfEventflag, OfDataQueue, OfPool, OfCyclic, OfAlarm, OfLock, Shape, value}
use Rattle.fmp_law_footprint.specs.Kinds.{group, may_change, of_group, Group, OnTasks}
use Rattle.fmp_law_footprint.proofs.OtherKinds.{call_leaves, tick_leaves}
use Rattle.fmp_law_safety.proofs.KeepsDue.{alarms_keep, cyclics_keep}
use Rattle.fmp_law_footprint.specs.Frames.{any, is_idle, is_rotation, moves_tasks, running_of}
use Rattle.fmp_law_footprint.proofs.Framed.{DidFrom, did_nothing, framed, report, touches}

-- tasks, what is left of their waits, their order and what runs stay
abbrev Rests : {Q : Type 0} → World Q → World Q → Type 0
Rests w v = (v.tasks ≡ w.tasks) × (v.waits_left ≡ w.waits_left) × (running_of v ≡ running_of w) × (v.order ≡ w.order)

module _ {Q : Type 0} (k : Ordering Q) (w : World Q) (p : Proc) (r : Option Runner) where
  abbrev on : Call → Event
  on c = event.Call p c

  -- A call does nothing where its answer says so; else its record says that tasks may change, or they stay, but for what a rotation does to their order.
  data Does (c : Call) : World Q × Effect → Type 0 where
    nothing : {x : Effect} → Does c (w, x)
    moves : {did : World Q × Effect} → moves_tasks (report (on c) r did.1) ≡ true → Does c did
    rests : {did : World Q × Effect} → is_idle did.1.answer ≡ false → did.0.tasks ≡ w.tasks → did.0.waits_left ≡ w.waits_left →
        running_of did.0 ≡ running_of w → (is_rotation (on c) ≡ false → did.0.order ≡ w.order) → Does c did

  -- what can be done at once is done; else the caller waits
  does_wait : (c : Call) → moves_tasks (report (on c) r (plain answer.Wait)) ≡ true → (can : Bool) (did : World Q × Effect) (x : Wait) (timeout : ℤ) →
      Does c did → Does c (done_or_wait k w p can did x timeout)
  does_wait c moved can did x timeout h =
      cond_both can _ _ (Does c) (λ _. h) (λ _. cond_both (is_zero timeout) _ _ (Does c) (λ _. nothing) (λ _. moves moved))

  -- Tasks.

  does_sleep : (c : TaskCall) (timeout : ℤ) → Does (call.Task c) (tslp_tsk k w p timeout).effect
  unfolding tslp_tsk
  does_sleep c timeout = does_wait (call.Task c) refl (nat_lt 0 (task w (caller w p)).wakeups) _ wait.Sleep timeout (moves refl)

  does_wup : (c : TaskCall) (o : Option Task) → Does (call.Task c) (wup k w o).effect
  unfolding wup
  does_wup c o = cond_both (is_sleep (task w (unwrap_or o (as_task 1))).wait) _ _ (Does (call.Task c)) (λ _. moves refl) (λ _. moves refl)

  -- Objects.

  abbrev of_list : {X : Type 0} → List X → ℤ → Object
  of_list xs id = unwrap_or (object_named xs id) (as_object 1)

  does_signal : (c : SyncCall) (s : Object) (o : Option Task) → Does (call.Sync c) (signal k w s o)
  does_signal c s None = rests refl refl refl refl (λ _. refl)
  does_signal c s (Some t) = moves refl

  -- of those who wait for a flag somebody is released, or nothing changes but the flag
  serves : (f : Object) (x : ℕ) (v : World Q) (ts : List Task) → (any (served k v f x ts).1 ≡ true) ⊎ Rests v (served k v f x ts).0
  serves f x v [] = inr (refl, refl, refl, refl)
  serves f x v (t ∷ ts) =
      cond_both (is_met x (task v t).wait) _ _ (λ (did : World Q × List Release). (any did.1 ≡ true) ⊎ Rests v did.0) (λ _. inl refl) (λ _. serves f x v ts)

  does_set : (c : SyncCall) (f : Object) (x : ℕ) → Does (call.Sync c) (accepted_with (served k w f x (queue k w kind.Eventflag f)))
  does_set c f x =
      ⊎_elim (λ some. moves (ap (λ (b : Bool). b || false) some)) (λ (h : Rests w (served k w f x (queue k w kind.Eventflag f)).0).
      rests refl h.0 h.1 h.2 (λ _. h.3)) (serves f x w (queue k w kind.Eventflag f))

  does_take : (c : SyncCall) (s : Object) (timeout : ℤ) →
      Does (call.Sync c) (done_or_wait k w p (nat_lt 0 (semaphore w s).count) (counted w s) (wait.Semaphore s) timeout)
  does_take c s timeout = does_wait (call.Sync c) refl _ (counted w s) (wait.Semaphore s) timeout (rests refl refl refl refl (λ _. refl))

  does_look : (c : SyncCall) (f : Object) (x : ℕ) (m : Mode) (timeout : ℤ) →
      Does (call.Sync c) (done_or_wait k w p (holds (eventflag w f).pattern x m) (answered w f) (wait.Eventflag f x m) timeout)
  does_look c f x m timeout = does_wait (call.Sync c) refl _ (answered w f) (wait.Eventflag f x m) timeout (rests refl refl refl refl (λ _. refl))

  does_sent : (c : BufferCall) (d : Object) (v : ℤ) (o : Option Task) → Does (call.Buffer c) (sent k w d v o)
  does_sent c d v None = rests refl refl refl refl (λ _. refl)
  does_sent c d v (Some t) = moves refl

  does_send : (c : BufferCall) (d : Object) (v timeout : ℤ) →
      Does (call.Buffer c) (done_or_wait k w p (can_send k w d) (sent k w d v (receiver k w d)) (wait.Send d v) timeout)
  does_send c d v timeout = does_wait (call.Buffer c) refl (can_send k w d) _ (wait.Send d v) timeout (does_sent c d v (receiver k w d))

  does_force : (c : BufferCall) (d : Object) (v : ℤ) → Does (call.Buffer c) (if can_send k w d then sent k w d v (receiver k w d) else forced w d v)
  does_force c d v = cond_both (can_send k w d) _ _ (Does (call.Buffer c)) (λ _. does_sent c d v (receiver k w d)) (λ _. rests refl refl refl refl (λ _. refl))

  does_received : (c : BufferCall) (d : Object) (o : Option Task) → Does (call.Buffer c) (received k w d o)
  does_received c d None = rests refl refl refl refl (λ _. refl)
  does_received c d (Some t) = moves refl

  does_receive : (c : BufferCall) (d : Object) (timeout : ℤ) →
      Does (call.Buffer c) (done_or_wait k w p (can_receive k w d) (received k w d (sender k w d)) (wait.Receive d) timeout)
  does_receive c d timeout = does_wait (call.Buffer c) refl (can_receive k w d) _ (wait.Receive d) timeout (does_received c d (sender k w d))

  does_get : (c : BufferCall) (m : Object) (timeout : ℤ) →
      Does (call.Buffer c) (done_or_wait k w p (is_some (free_block w m)) (given w m (unwrap_or (free_block w m) 0)) (wait.Pool m) timeout)
  does_get c m timeout = does_wait (call.Buffer c) refl _ (given w m _) (wait.Pool m) timeout (rests refl refl refl refl (λ _. refl))

  does_returned : (c : BufferCall) (m : Object) (b : ℕ) (o : Option Task) → Does (call.Buffer c) (returned k w m b o)
  does_returned c m b None = rests refl refl refl refl (λ _. refl)
  does_returned c m b (Some t) = moves refl

  -- The processor and its spin locks.

  does_rotate : (c : Call) → is_rotation (on c) ≡ true → (o : Option Task) → Does c (rotate k w o, done)
  does_rotate c is None = nothing
  does_rotate c is (Some t) = rests refl (set-get_or w.tasks (t.number - 1) no_task) refl refl (λ off. absurd (both_ways _ off is))

  -- a processor that runs the same
  runs_same : (x : Processor) → x.running ≡ (processor w p).running → map (λ (c : Processor). c.running) (with_item w.processors p.number x) ≡ running_of w
  runs_same x same = map-set_same (λ (c : Processor). c.running) w.processors (p.number - 1) x no_processor same

  does_lock : (c : Call) (l : Object) → Does c (if is_some (holder w l) then (w, plain answer.Spin) else (taken w p l, done))
  does_lock c l = cond_both (is_some (holder w l)) _ _ (Does c) (λ _. nothing) (λ _. rests refl refl refl (runs_same _ refl) (λ _. refl))

  does : (c : Call) → Does c (row_of k w p c).effect
  unfolding act mact mig_tsk can_act ext_tsk ter_tsk chg_pri can_wup rel_wai sus_tsk rsm_tsk dly_tsk sig_sem pol_sem twai_sem set_flg clr_flg pol_flg twai_flg
      psnd_dtq tsnd_dtq fsnd_dtq prcv_dtq trcv_dtq pget_mpf tget_mpf rel_mpf sta_cyc msta_cyc stp_cyc sta_alm msta_alm stp_alm rotation rotation_in_handler
      loc_spn try_spn unl_spn ret_hdr
  does (call.Task task_call.SlpTsk) = does_sleep task_call.SlpTsk forever
  does (call.Task (task_call.TslpTsk timeout)) = does_sleep (task_call.TslpTsk timeout) timeout
  does (call.Task (task_call.WupTsk id)) = does_wup (task_call.WupTsk id) _
  does (call.Task (task_call.IwupTsk id)) = does_wup (task_call.IwupTsk id) _
  does (call.Task c) = moves refl
  does (call.Sync (sync.SigSem id)) = does_signal (sync.SigSem id) (of_list w.semaphores id) (first (queue k w kind.Semaphore (of_list w.semaphores id)))
  does (call.Sync (sync.IsigSem id)) = does_signal (sync.IsigSem id) (of_list w.semaphores id) (first (queue k w kind.Semaphore (of_list w.semaphores id)))
  does (call.Sync (sync.WaiSem id)) = does_take (sync.WaiSem id) (of_list w.semaphores id) forever
  does (call.Sync (sync.TwaiSem id timeout)) = does_take (sync.TwaiSem id timeout) (of_list w.semaphores id) timeout
  does (call.Sync (sync.SetFlg id x)) = does_set (sync.SetFlg id x) (of_list w.eventflags id) _
  does (call.Sync (sync.IsetFlg id x)) = does_set (sync.IsetFlg id x) (of_list w.eventflags id) _
  does (call.Sync (sync.WaiFlg id x m)) = does_look (sync.WaiFlg id x m) (of_list w.eventflags id) x m forever
  does (call.Sync (sync.TwaiFlg id x m timeout)) = does_look (sync.TwaiFlg id x m timeout) (of_list w.eventflags id) x m timeout
  does (call.Sync c) = rests refl refl refl refl (λ _. refl)
  does (call.Buffer (buffer.SndDtq id v)) = does_send (buffer.SndDtq id v) (of_list w.data_queues id) v forever
  does (call.Buffer (buffer.TsndDtq id v timeout)) = does_send (buffer.TsndDtq id v timeout) (of_list w.data_queues id) v timeout
  does (call.Buffer (buffer.PsndDtq id v)) = let d : Object = of_list w.data_queues id in does_sent (buffer.PsndDtq id v) d v (receiver k w d)
  does (call.Buffer (buffer.IpsndDtq id v)) = let d : Object = of_list w.data_queues id in does_sent (buffer.IpsndDtq id v) d v (receiver k w d)
  does (call.Buffer (buffer.FsndDtq id v)) = does_force (buffer.FsndDtq id v) (of_list w.data_queues id) v
  does (call.Buffer (buffer.IfsndDtq id v)) = does_force (buffer.IfsndDtq id v) (of_list w.data_queues id) v
  does (call.Buffer (buffer.RcvDtq id)) = does_receive (buffer.RcvDtq id) (of_list w.data_queues id) forever
  does (call.Buffer (buffer.TrcvDtq id timeout)) = does_receive (buffer.TrcvDtq id timeout) (of_list w.data_queues id) timeout
  does (call.Buffer (buffer.PrcvDtq id)) = let d : Object = of_list w.data_queues id in does_received (buffer.PrcvDtq id) d (sender k w d)
  does (call.Buffer (buffer.GetMpf id)) = does_get (buffer.GetMpf id) (of_list w.pools id) forever
  does (call.Buffer (buffer.TgetMpf id timeout)) = does_get (buffer.TgetMpf id timeout) (of_list w.pools id) timeout
  does (call.Buffer (buffer.RelMpf id b)) =
      let m : Object = of_list w.pools id in does_returned (buffer.RelMpf id b) m (block_of b) (first (queue k w kind.Pool m))
  does (call.Buffer c) = rests refl refl refl refl (λ _. refl)
  does (call.Time (time.StaCyc id)) = rests refl refl refl refl (λ _. refl)
  does (call.Time c) = rests refl refl refl refl (λ _. refl)
  does (call.System (system.RotRdq n)) = does_rotate (call.System (system.RotRdq n)) refl _
  does (call.System (system.IrotRdq n)) = does_rotate (call.System (system.IrotRdq n)) refl _
  does (call.System (system.MrotRdq n q)) = does_rotate (call.System (system.MrotRdq n q)) refl _
  does (call.System (system.ImrotRdq n q)) = does_rotate (call.System (system.ImrotRdq n q)) refl _
  does (call.System system.LocCpu) = rests refl refl refl (runs_same _ refl) (λ _. refl)
  does (call.System system.IlocCpu) = rests refl refl refl (runs_same _ refl) (λ _. refl)
  does (call.System system.UnlCpu) = rests refl refl refl (runs_same _ refl) (λ _. refl)
  does (call.System system.IunlCpu) = rests refl refl refl (runs_same _ refl) (λ _. refl)
  does (call.System system.DisDsp) = rests refl refl refl (runs_same _ refl) (λ _. refl)
  does (call.System system.EnaDsp) = rests refl refl refl (runs_same _ refl) (λ _. refl)
  does (call.System c) = nothing
  does (call.Spin (spin.LocSpn id)) = does_lock (call.Spin (spin.LocSpn id)) (of_list w.holders id)
  does (call.Spin (spin.IlocSpn id)) = does_lock (call.Spin (spin.IlocSpn id)) (of_list w.holders id)
  does (call.Spin c) = rests refl refl refl (runs_same _ refl) (λ _. refl)
  does call.RetHdr = rests refl refl refl (runs_same _ refl) (λ _. refl)

  does_called : (c : Call) (o : Option Code) → Does c (called_by w (row_of k w p c).effect o)
  does_called c None = does c
  does_called c (Some x) = nothing

  -- An event that touches no such object is none whose call may change it.

  abbrev Apart : Call → Cell → Type 0
  Apart c x = (touches (on c) x || not (may_change c x)) ≡ true

  abbrev AllApart : Call → ℕ → Type 0
  AllApart c n =
      Apart c (DueOn n) × Apart c (OfLock n) × Apart c (OfSemaphore n) × Apart c (OfEventflag n) × Apart c (OfDataQueue n) × Apart c (OfPool n)
      × Apart c (OfCyclic n) × Apart c (OfAlarm n)

  apart : (c : Call) (n : ℕ) → AllApart c n
  apart (call.Task task_call.ExtTsk) n = (refl, refl, refl, refl, refl, refl, refl, refl)
  apart (call.Task c) n = (refl, refl, refl, refl, refl, refl, refl, refl)
  apart (call.Sync (sync.SigSem id)) n = (refl, refl, refl, refl, refl, refl, refl, refl)
  apart (call.Sync c) n = (refl, refl, refl, refl, refl, refl, refl, refl)
  apart (call.Buffer (buffer.GetMpf id)) n = (refl, refl, refl, refl, refl, refl, refl, refl)
  apart (call.Buffer c) n = (refl, refl, refl, refl, refl, refl, refl, refl)
  apart (call.Time (time.StaCyc id)) n = (refl, refl, refl, refl, refl, refl, refl, refl)
  apart (call.Time c) n = (refl, refl, refl, refl, refl, refl, refl, refl)
  apart (call.System (system.RotRdq m)) n = (refl, refl, refl, refl, refl, refl, refl, refl)
  apart (call.System c) n = (refl, refl, refl, refl, refl, refl, refl, refl)
  apart (call.Spin c) n = (refl, refl, refl, refl, refl, refl, refl, refl)
  apart call.RetHdr n = (refl, refl, refl, refl, refl, refl, refl, refl)

  untouched : (c : Call) (x : Cell) → Apart c x → touches (on c) x ≡ false → value (called w p (row_of k w p c)).0 x ≡ value w x
  untouched c x h off = call_leaves k w p c x (go (touches (on c) x) (may_change c x) h off)
    where
      go : (b d : Bool) → (b || not d) ≡ true → b ≡ false → d ≡ false
      go true d h off = absurd (true≢false off)
      go false true h off = absurd (true≢false (sym h))
      go false false h off = refl

  stays : (c : Call) (x : Cell) → touches (on c) x ≡ false → value (called w p (row_of k w p c)).0 x ≡ value w x
  stays c (DueOn n) = untouched c (DueOn n) (apart c n).0
  stays c (OfLock n) = untouched c (OfLock n) (apart c n).1
  stays c (OfSemaphore n) = untouched c (OfSemaphore n) (apart c n).2
  stays c (OfEventflag n) = untouched c (OfEventflag n) (apart c n).3
  stays c (OfDataQueue n) = untouched c (OfDataQueue n) (apart c n).4
  stays c (OfPool n) = untouched c (OfPool n) (apart c n).5
  stays c (OfCyclic n) = untouched c (OfCyclic n) (apart c n).6
  stays c (OfAlarm n) = untouched c (OfAlarm n) (apart c n).7
  stays c other = λ off. absurd (true≢false off)

  shape_stays : (g : Group) → of_group g Shape ≡ false
  shape_stays OnTasks = refl
  shape_stays _ = refl

  pub did_call : (c : Call) → DidFrom w (on c) r (called w p (row_of k w p c))
  did_call c = go (called w p (row_of k w p c)) (does_called c (check w p (row_of k w p c))) (call_leaves k w p c Shape (shape_stays (group c))) (stays c)
    where
      at : (a b : Bool) → a ≡ false → (not a && b) ≡ false → b ≡ false
      at true b idle off = absurd (true≢false idle)
      at false b idle off = off

      go : (did : World Q × Effect) → Does c did → value did.0 Shape ≡ value w Shape → ((x : Cell) → touches (on c) x ≡ false → value did.0 x ≡ value w x) →
          DidFrom w (on c) r did
      go did nothing shape all = did_nothing w (on c) r did.1
      go did (moves moved) shape all = (
        framed w (on c) r did shape (λ x off. all x (at _ _ (not-true _ (and_parts _ _ moved).0) off)) (λ off. absurd (both_ways _ off moved))
            (λ off. absurd (both_ways _ (or_parts _ _ off).0 moved)) (λ off. absurd (both_ways _ (or_parts _ _ off).0 moved)),
        λ off. absurd (both_ways _ off moved),
      )
      go did (rests idle tasks left runs order) shape all = (
        framed w (on c) r did shape (λ x off. all x (at _ _ idle off)) (λ _. tasks) (λ off. order (at _ _ idle (or_parts _ _ off).1)) (λ _. left),
        λ _. runs,
      )

  -- A tick.

  -- with nobody released tasks, their order and what runs stay
  ticked_rests : (v : World Q) (ts : List Task) → any (released k v ts).1 ≡ false →
      let u : World Q = with_handlers_due (released k v ts).0 p in (u.tasks ≡ v.tasks) × (u.order ≡ v.order) × (running_of u ≡ running_of v)
  unfolding with_handlers_due
  ticked_rests v (t ∷ ts) none = absurd (true≢false none)
  ticked_rests v [] none =
      let S : World Q → Type 0 = λ u. (u.tasks ≡ v.tasks) × (u.order ≡ v.order) × (running_of u ≡ running_of v) in
      cyclics_keep p S (λ x c h. h) (alarms_due v p (expired v.alarms_left v.alarms)) (expired v.cyclics_left v.cyclics)
      (alarms_keep p S (λ x a h. h) v (expired v.alarms_left v.alarms) (refl, refl, refl))

  tick_stays : (x : Cell) → touches (event.Tick p) x ≡ false → value (tick k w p).0 x ≡ value w x
  tick_stays (OfLock n) off = tick_leaves k w p (OfLock n) refl
  tick_stays (OfSemaphore n) off = tick_leaves k w p (OfSemaphore n) refl
  tick_stays (OfEventflag n) off = tick_leaves k w p (OfEventflag n) refl
  tick_stays (OfDataQueue n) off = tick_leaves k w p (OfDataQueue n) refl
  tick_stays (OfPool n) off = tick_leaves k w p (OfPool n) refl
  tick_stays other off = absurd (true≢false off)

  pub did_tick : DidFrom w (event.Tick p) r (tick k w p)
  unfolding ticked counted_down
  did_tick =
      let v : World Q = counted_down w p in
      let rest = ticked_rests v (tasks_expired v.waits_left (k.timed v.order v.waits_left)) in (
        framed w (event.Tick p) r (tick k w p) (tick_leaves k w p Shape refl) tick_stays (λ off. (rest (or_parts _ _ off).0).0)
            (λ off. (rest (or_parts _ _ (or_parts _ _ off).0).0).1) (λ off. absurd (true≢false (or_parts _ _ off).1)),
        λ off. (rest (or_parts _ _ off).0).2,
      )
