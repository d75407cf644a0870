-- Each call changes at most the cells that cover it.
use Rattle.std.proofs.Common.{◌≡◌, ℕ, ℤ, ◌-◌, ◌+◌, Bool, true, false, List, [], ◌∷◌, refl, Option, None, Some}
use Rattle.std.specs.Prelude.{is_some, nat_lt, unwrap_or, if◌then◌else◌, IfSome}
use Rattle.std.proofs.lemmas.Bool.{cond_both}
use Rattle.fmp_codes.specs.Numbers.{as_proc}
use Rattle.fmp_codes.specs.declared.numbers.Object.{Object}
use Rattle.fmp_codes.specs.declared.numbers.Proc.{Proc}
use Rattle.fmp_codes.specs.declared.numbers.Task.{Task}
use Rattle.fmp_codes.specs.declared.calls.BufferCall.{BufferCall}
use Rattle.fmp_codes.specs.declared.calls.BufferCall.TheVariants as buffer
use Rattle.fmp_codes.specs.declared.calls.Call.{Call}
use Rattle.fmp_codes.specs.declared.calls.Call.TheVariants as calls
use Rattle.fmp_codes.specs.declared.calls.SpinCall.{SpinCall}
use Rattle.fmp_codes.specs.declared.calls.SpinCall.TheVariants as spin
use Rattle.fmp_codes.specs.declared.calls.SyncCall.{SyncCall}
use Rattle.fmp_codes.specs.declared.calls.SyncCall.TheVariants as sync
use Rattle.fmp_codes.specs.declared.calls.SystemCall.{SystemCall}
use Rattle.fmp_codes.specs.declared.calls.SystemCall.TheVariants as system
use Rattle.fmp_codes.specs.declared.calls.TaskCall.{TaskCall}
use Rattle.fmp_codes.specs.declared.calls.TaskCall.TheVariants as task_call
use Rattle.fmp_codes.specs.declared.calls.TimeCall.{TimeCall}
use Rattle.fmp_codes.specs.declared.calls.TimeCall.TheVariants as time
use Rattle.fmp_codes.specs.declared.codes.Code.{Code}
use Rattle.fmp_codes.specs.declared.records.Release.{Release}
use Rattle.fmp_codes.specs.declared.records.Answer.TheVariants as answer
use Rattle.fmp_setup.specs.declared.setup.Class.{Class}
use Rattle.fmp_rules.specs.Effects.{Effect}
use Rattle.fmp_rules.specs.declared.machine.QueueKind.TheVariants as kind
use Rattle.fmp_rules.specs.declared.machine.TaskRecord.{TaskRecord}
use Rattle.fmp_rules.specs.declared.machine.Processor.{Processor}
use Rattle.fmp_rules.specs.declared.machine.Wait.{Wait}
use Rattle.fmp_rules.specs.declared.machine.Wait.TheVariants as wait
use Rattle.fmp_rules.specs.World.{World, first, processor, task, with_processor}
use Rattle.fmp_rules.specs.Objects.{free_block, holder, cyclic, alarm}
use Rattle.fmp_rules.specs.Ordering.{Ordering, queue, with_task}
use Rattle.fmp_rules.specs.Processors.{unlocked, opened, with_lock}
use Rattle.fmp_rules.specs.Tasks.{activate, make_ready, rotate}
use Rattle.fmp_rules.specs.Arguments.{caller, forever, is_zero, processor_or_initial, task_named, task_or_caller, ticks_of}
use Rattle.fmp_rules.specs.Rows.{called, called_by, check, done, done_or_wait, plain}
use Rattle.fmp_rules.specs.Step.{row_of}
use Rattle.fmp_rules.specs.TaskCalls.{act, can_act, can_wup, chg_pri, dly_tsk, ext_tsk, is_sleep, mact, mig_tsk, rel_wai, rsm_tsk, sus_tsk, task_row, ter_tsk, tslp_tsk, wup}
use Rattle.fmp_rules.specs.SyncCalls.{answered, cleared, clr_flg, counted, is_met, pol_flg, pol_sem, served, set_flg, sig_sem, signal, sync_row, twai_flg, twai_sem}
use Rattle.fmp_rules.specs.BufferCalls.{block_of, buffer_row, can_send, forced, fsnd_dtq, given, pget_mpf, prcv_dtq, psnd_dtq, received, receiver, rel_mpf, returned, sender, sent, tget_mpf, trcv_dtq, tsnd_dtq}
use Rattle.fmp_rules.specs.TimeCalls.{msta_alm, msta_cyc, sta_alm, sta_cyc, stp_alm, stp_cyc, time_row, with_cyclic_at, with_alarm_at, with_cyclic_left, with_alarm_left}
use Rattle.fmp_rules.specs.SystemCalls.{rotation, rotation_in_handler, system_row}
use Rattle.fmp_rules.specs.SpinCalls.{loc_spn, ret_hdr, spin_row, taken, try_spn, unl_spn, without_handler}
use Rattle.fmp_law_footprint.specs.Cells.{Cell, CountsOf, SpotOf, OfProcessor, DueOn, OfSemaphore, OfEventflag, OfDataQueue, OfPool, OfCyclic, OfAlarm, at, there, on, standing}
use Rattle.fmp_law_footprint.specs.Footprints.{Leaves, IsLocal, Moves}
use Rattle.fmp_law_footprint.specs.Words.{Either, Each, Wakes, WakesOr, Takes, Activates, Unlocks, DoneOrWait}
use Rattle.fmp_law_footprint.specs.Named.{the, named_or_caller, named_task, destination, semaphore_named, eventflag_named, data_queue_named, pool_named, cyclic_named, alarm_named, lock_named}
use Rattle.fmp_law_footprint.specs.CoversObjects.{CoversSync, CoversBuffer, Sends}
use Rattle.fmp_law_footprint.specs.CoversCalls.{CoversTask, CoversTime, CoversSystem, CoversSpin, CoversCall}
use Rattle.fmp_law_footprint.proofs.Moves.{moves_all, moves_then, moves_beside, moves_task, leaves_then}
use Rattle.fmp_law_footprint.proofs.Others.{leaves_processor, leaves_due, leaves_semaphore, leaves_eventflag, leaves_contents, leaves_pool, leaves_cyclic, leaves_cyclic_left, leaves_alarm, leaves_alarm_left, leaves_lock, leaves_unlocked, leaves_opened}
use Rattle.fmp_law_footprint.proofs.Words.{knowing, moves_begin, moves_ready, moves_finish, moves_activate, moves_priority, moves_suspend, moves_migrate, moves_rotate}

module _ {Q : Type 0} (Part : Cell → Type 0) (part : Q → (c : Cell) → Part c) (S : Cell → Type 0) (Inside : Q → Type 0) (k : Ordering Q)
    (laws : IsLocal Part part S Inside k) where
  abbrev MovesTo : World Q → World Q → Type 0
  MovesTo = Moves Part part S Inside

  same : (w : World Q) → MovesTo w w
  same = moves_all Part part S Inside

  ready : (w : World Q) (t : Task) → Wakes S t → MovesTo w (make_ready k w t)
  ready = moves_ready Part part S Inside k laws

  pub serves : (w : World Q) (f : Object) (x : ℕ) (ts : List Task) → S (OfEventflag (there f)) → Each (Wakes S) ts → MovesTo w (served k w f x ts).0
  serves w f x [] h e = moves_beside Part part S Inside w _ refl refl refl (leaves_eventflag S w f _ h)
  serves w f x (t ∷ ts) h e =
      cond_both (is_met x (task w t).wait) _ _ (λ (did : World Q × List Release). MovesTo w did.0)
      (λ _. moves_then Part part S Inside w (make_ready k w t) _ (ready w t e.0) (serves (make_ready k w t) f (cleared w f x) ts h e.1))
      (λ _. serves w f x ts h e.1)

  module _ (w : World Q) (p : Proc) where
    abbrev Does : World Q × Effect → Type 0
    Does did = MovesTo w did.0

    beside : (v : World Q) → v.tasks ≡ w.tasks → v.waits_left ≡ w.waits_left → v.order ≡ w.order → Leaves S w v → MovesTo w v
    beside = moves_beside Part part S Inside w

    done_or_waits : (can : Bool) (X : Type 0) (effect : World Q × Effect) (x : Wait) (timeout : ℤ) → (X → Does effect) → DoneOrWait S w p can X x timeout
        → Does (done_or_wait k w p can effect x timeout)
    done_or_waits can X effect x timeout at_once h =
        cond_both can _ _ Does (λ e. at_once (h.0 e))
        (λ e. cond_both (is_zero timeout) _ _ Does (λ _. same w) (λ z. moves_begin Part part S Inside k laws w (caller w p) x (ticks_of timeout) ((h.1 e).1 z)))

    -- Tasks.

    -- what is counted for a task changes
    counts : (t : Task) (r : TaskRecord) → standing r ≡ standing (task w t) → r.wait ≡ (task w t).wait → r.assigned ≡ (task w t).assigned → S (CountsOf (at t))
        → MovesTo w (with_task w t r)
    counts t r stands waits assigned h =
        knowing Part part S Inside w _ λ c.
        moves_task Part part S Inside w t r
        (record {
          standing = λ _. stands;
          tally = λ off. absurd (off h);
          wait = λ _. waits;
          ready = λ s. rw assigned (c.ready (at t) s);
          queue = λ s. rw waits
              (c.queue (at t) s);
        })

    activates : (t : Task) (to : Proc) (kept : Option Proc) → Activates S w t to → MovesTo w (activate k w t to kept)
    activates = moves_activate Part part S Inside k laws w

    sleeps : (timeout : ℤ) → DoneOrWait S w p (nat_lt 0 (task w (caller w p)).wakeups) (S (CountsOf (at (caller w p)))) wait.Sleep timeout
        → Does (tslp_tsk k w p timeout).effect
    unfolding tslp_tsk
    sleeps timeout =
        done_or_waits (nat_lt 0 (task w (caller w p)).wakeups) _ _ wait.Sleep timeout
        (counts (caller w p) (record (task w (caller w p)) { wakeups = (task w (caller w p)).wakeups - 1 }) refl refl refl)

    wakes : (o : Option Task) → Either (is_sleep (task w (the o)).wait) (Wakes S (the o)) (S (CountsOf (at (the o)))) → Does (wup k w o).effect
    unfolding wup
    wakes o h =
        cond_both (is_sleep (task w (the o)).wait) _ _ Does (λ e. ready w (the o) (h.0 e))
        (λ e. counts (the o) (record (task w (the o)) { wakeups = (task w (the o)).wakeups + 1 }) refl refl refl (h.1 e))

    moves_task_call : (c : TaskCall) → CoversTask k S w p c → Does (task_row k w p c).effect
    unfolding act mact can_act mig_tsk ext_tsk ter_tsk chg_pri can_wup rel_wai sus_tsk rsm_tsk dly_tsk opened
    moves_task_call (task_call.ActTsk id) h = activates (named_or_caller w p id) _ None h
    moves_task_call (task_call.IactTsk id) h = activates (named_task w id) _ None h
    moves_task_call (task_call.MactTsk id to) h = activates (named_or_caller w p id) (destination w (task_or_caller w p id) to) _ h
    moves_task_call (task_call.ImactTsk id to) h = activates (named_task w id) (destination w (task_named w id) to) _ h
    moves_task_call (task_call.CanAct id) h = counts (named_or_caller w p id) _ refl refl refl h
    moves_task_call (task_call.MigTsk id to) h = moves_migrate Part part S Inside k laws w (named_or_caller w p id) (destination w (task_or_caller w p id) to) h
    moves_task_call task_call.ExtTsk h =
        moves_then Part part S Inside w (opened w p) _ (beside (opened w p) refl refl refl (leaves_opened S w p h.1))
        (moves_finish Part part S Inside k laws (opened w p) (caller w p) h.0)
    moves_task_call (task_call.TerTsk id) h = moves_finish Part part S Inside k laws w (named_task w id) h
    moves_task_call (task_call.ChgPri id n) h = moves_priority Part part S Inside k laws w (named_or_caller w p id) _ h
    moves_task_call (task_call.GetPri id) h = same w
    moves_task_call task_call.SlpTsk h = sleeps forever h
    moves_task_call (task_call.TslpTsk timeout) h = sleeps timeout h
    moves_task_call (task_call.WupTsk id) h = wakes (task_or_caller w p id) h
    moves_task_call (task_call.IwupTsk id) h = wakes (task_named w id) h
    moves_task_call (task_call.CanWup id) h = counts (named_or_caller w p id) _ refl refl refl h
    moves_task_call (task_call.RelWai id) h = ready w (named_task w id) h
    moves_task_call (task_call.IrelWai id) h = ready w (named_task w id) h
    moves_task_call (task_call.SusTsk id) h = moves_suspend Part part S Inside k laws w (named_or_caller w p id) true h
    moves_task_call (task_call.RsmTsk id) h = moves_suspend Part part S Inside k laws w (named_task w id) false h
    moves_task_call (task_call.DlyTsk n) h = moves_begin Part part S Inside k laws w (caller w p) wait.Delay (ticks_of n) h

    -- Semaphores and eventflags.

    counted_down : (s : Object) → S (OfSemaphore (there s)) → Does (counted w s)
    counted_down s h = beside _ refl refl refl (leaves_semaphore S w s _ h)

    signals : (s : Object) (t : Option Task) → WakesOr S (OfSemaphore (there s)) t → Does (signal k w s t)
    signals s None h = beside _ refl refl refl (leaves_semaphore S w s _ h)
    signals s (Some t) h = ready w t h

    cleared_by : (f : Object) → S (OfEventflag (there f)) → Does (answered w f)
    cleared_by f h = beside _ refl refl refl (leaves_eventflag S w f _ h)

    moves_sync : (c : SyncCall) → CoversSync k S w p c → Does (sync_row k w p c).effect
    unfolding sig_sem twai_sem pol_sem set_flg clr_flg twai_flg pol_flg
    moves_sync (sync.SigSem id) h = signals (semaphore_named w id) (first (queue k w kind.Semaphore (semaphore_named w id))) h
    moves_sync (sync.IsigSem id) h = signals (semaphore_named w id) (first (queue k w kind.Semaphore (semaphore_named w id))) h
    moves_sync (sync.WaiSem id) h = done_or_waits _ _ _ _ forever (counted_down (semaphore_named w id)) h
    moves_sync (sync.TwaiSem id timeout) h = done_or_waits _ _ _ _ timeout (counted_down (semaphore_named w id)) h
    moves_sync (sync.PolSem id) h = counted_down (semaphore_named w id) h
    moves_sync (sync.SetFlg id x) h = serves w (eventflag_named w id) _ (queue k w kind.Eventflag (eventflag_named w id)) h.0 h.1
    moves_sync (sync.IsetFlg id x) h = serves w (eventflag_named w id) _ (queue k w kind.Eventflag (eventflag_named w id)) h.0 h.1
    moves_sync (sync.ClrFlg id x) h = beside _ refl refl refl (leaves_eventflag S w (eventflag_named w id) _ h)
    moves_sync (sync.WaiFlg id x m) h = done_or_waits _ _ _ _ forever (cleared_by (eventflag_named w id)) h
    moves_sync (sync.TwaiFlg id x m timeout) h = done_or_waits _ _ _ _ timeout (cleared_by (eventflag_named w id)) h
    moves_sync (sync.PolFlg id x m) h = cleared_by (eventflag_named w id) h

    -- Data queues and pools.

    sends : (d : Object) (v : ℤ) (t : Option Task) → WakesOr S (OfDataQueue (there d)) t → Does (sent k w d v t)
    sends d v None h = beside _ refl refl refl (leaves_contents S w d _ h)
    sends d v (Some t) h = ready w t h

    receives : (d : Object) (t : Option Task) → S (OfDataQueue (there d)) × IfSome t (Wakes S) → Does (received k w d t)
    receives d None h = beside _ refl refl refl (leaves_contents S w d _ h.0)
    receives d (Some t) h =
        moves_then Part part S Inside w (make_ready k w t) _ (ready w t h.1)
        (moves_beside Part part S Inside (make_ready k w t) _ refl refl refl (leaves_contents S (make_ready k w t) d _ h.0))

    gives : (m : Object) (b : ℕ) → S (OfPool (there m)) → Does (given w m b)
    gives m b h = beside _ refl refl refl (leaves_pool S w m _ h)

    takes_back : (m : Object) (b : ℕ) (t : Option Task) → WakesOr S (OfPool (there m)) t → Does (returned k w m b t)
    takes_back m b None h = beside _ refl refl refl (leaves_pool S w m _ h)
    takes_back m b (Some t) h = ready w t h

    forces : (d : Object) (v : ℤ) → Either (can_send k w d) (Sends k S w p d) (S (OfDataQueue (there d)))
        → Does (if can_send k w d then sent k w d v (receiver k w d) else forced w d v)
    forces d v h =
        cond_both (can_send k w d) _ _ Does (λ e. sends d v (receiver k w d) (h.0 e)) (λ e. beside _ refl refl refl (leaves_contents S w d _ (h.1 e)))

    moves_buffer : (c : BufferCall) → CoversBuffer k S w p c → Does (buffer_row k w p c).effect
    unfolding tsnd_dtq psnd_dtq fsnd_dtq trcv_dtq prcv_dtq tget_mpf pget_mpf rel_mpf
    moves_buffer (buffer.SndDtq id v) h = done_or_waits _ _ _ _ forever (sends (data_queue_named w id) v (receiver k w (data_queue_named w id))) h
    moves_buffer (buffer.TsndDtq id v timeout) h = done_or_waits _ _ _ _ timeout (sends (data_queue_named w id) v (receiver k w (data_queue_named w id))) h
    moves_buffer (buffer.PsndDtq id v) h = sends (data_queue_named w id) v (receiver k w (data_queue_named w id)) h
    moves_buffer (buffer.IpsndDtq id v) h = sends (data_queue_named w id) v (receiver k w (data_queue_named w id)) h
    moves_buffer (buffer.FsndDtq id v) h = forces (data_queue_named w id) v h
    moves_buffer (buffer.IfsndDtq id v) h = forces (data_queue_named w id) v h
    moves_buffer (buffer.RcvDtq id) h = done_or_waits _ _ _ _ forever (receives (data_queue_named w id) (sender k w (data_queue_named w id))) h
    moves_buffer (buffer.TrcvDtq id timeout) h = done_or_waits _ _ _ _ timeout (receives (data_queue_named w id) (sender k w (data_queue_named w id))) h
    moves_buffer (buffer.PrcvDtq id) h = receives (data_queue_named w id) (sender k w (data_queue_named w id)) h
    moves_buffer (buffer.GetMpf id) h = done_or_waits _ _ _ _ forever (gives (pool_named w id) (unwrap_or (free_block w (pool_named w id)) 0)) h
    moves_buffer (buffer.TgetMpf id timeout) h = done_or_waits _ _ _ _ timeout (gives (pool_named w id) (unwrap_or (free_block w (pool_named w id)) 0)) h
    moves_buffer (buffer.PgetMpf id) h = gives (pool_named w id) (unwrap_or (free_block w (pool_named w id)) 0) h
    moves_buffer (buffer.RelMpf id b) h = takes_back (pool_named w id) (block_of b) (first (queue k w kind.Pool (pool_named w id))) h

    -- Handlers.

    cyclic_left : (v : World Q) (c : Object) (left : Option ℕ) → S (OfCyclic (there c)) → Leaves S w v → Leaves S w (with_cyclic_left v c left)
    cyclic_left v c left h leaves = leaves_then S w v (with_cyclic_left v c left) leaves (leaves_cyclic_left S v c left h)

    alarm_left : (v : World Q) (a : Object) (left : Option ℕ) → S (OfAlarm (there a)) → Leaves S w v → Leaves S w (with_alarm_left v a left)
    alarm_left v a left h leaves = leaves_then S w v (with_alarm_left v a left) leaves (leaves_alarm_left S v a left h)

    abbrev to_processor : Class → ℤ → Proc
    to_processor c to = unwrap_or (processor_or_initial w c to) (as_proc 1)

    moves_time : (c : TimeCall) → CoversTime k S w p c → Does (time_row w c).effect
    unfolding sta_cyc msta_cyc stp_cyc sta_alm msta_alm stp_alm
    moves_time (time.StaCyc id) h = beside _ refl refl refl (leaves_cyclic_left S w (cyclic_named w id) _ h)
    moves_time (time.MstaCyc id to) h =
        beside _ refl refl refl
        (cyclic_left (with_cyclic_at w (cyclic_named w id) (to_processor (cyclic w (cyclic_named w id)).setup.class to)) (cyclic_named w id) _ h
        (leaves_cyclic S w (cyclic_named w id) _ h))
    moves_time (time.StpCyc id) h = beside _ refl refl refl (leaves_cyclic_left S w (cyclic_named w id) _ h)
    moves_time (time.StaAlm id n) h = beside _ refl refl refl (leaves_alarm_left S w (alarm_named w id) _ h)
    moves_time (time.IstaAlm id n) h = beside _ refl refl refl (leaves_alarm_left S w (alarm_named w id) _ h)
    moves_time (time.MstaAlm id n to) h =
        beside _ refl refl refl
        (alarm_left (with_alarm_at w (alarm_named w id) (to_processor (alarm w (alarm_named w id)).setup.class to)) (alarm_named w id) _ h
        (leaves_alarm S w (alarm_named w id) _ h))
    moves_time (time.ImstaAlm id n to) h =
        beside _ refl refl refl
        (alarm_left (with_alarm_at w (alarm_named w id) (to_processor (alarm w (alarm_named w id)).setup.class to)) (alarm_named w id) _ h
        (leaves_alarm S w (alarm_named w id) _ h))
    moves_time (time.StpAlm id) h = beside _ refl refl refl (leaves_alarm_left S w (alarm_named w id) _ h)
    moves_time (time.IstpAlm id) h = beside _ refl refl refl (leaves_alarm_left S w (alarm_named w id) _ h)

    -- Processors and spin locks.

    -- p is CPU-locked or no longer, or its dispatching is disabled or enabled; its latch stays
    locks : (x : Processor) → x.latch ≡ (processor w p).latch → S (OfProcessor (on p)) → MovesTo w (with_processor w p x)
    locks x latch h = beside _ refl refl refl (leaves_processor S w p x (λ off. absurd (off h)) (λ _. latch))

    rotates : (t : Option Task) → IfSome t (λ u. S (SpotOf (at u))) → MovesTo w (rotate k w t)
    rotates = moves_rotate Part part S Inside k laws w

    moves_system : (c : SystemCall) → CoversSystem k S w p c → Does (system_row k w p c).effect
    unfolding rotation rotation_in_handler
    moves_system (system.RotRdq n) h = rotates _ h
    moves_system (system.IrotRdq n) h = rotates _ h
    moves_system (system.MrotRdq n q) h = rotates _ h
    moves_system (system.ImrotRdq n q) h = rotates _ h
    moves_system system.LocCpu h = locks _ refl h
    moves_system system.IlocCpu h = locks _ refl h
    moves_system system.UnlCpu h = locks _ refl h
    moves_system system.IunlCpu h = locks _ refl h
    moves_system system.DisDsp h = locks _ refl h
    moves_system system.EnaDsp h = locks _ refl h
    moves_system _ h = same w

    takes : (l : Object) → Takes S p l → MovesTo w (taken w p l)
    takes l h = beside _ refl refl refl
        (leaves_then S w (with_lock w p true) (taken w p l) (leaves_processor S w p (record (processor w p) { locked = true }) (λ off. absurd (off h.0)) (λ _. refl))
        (leaves_lock S (with_lock w p true) l (Some p) h.1))

    tries : (l : Object) → Either (is_some (holder w l)) (Unit {0}) (Takes S p l) → Does (if is_some (holder w l) then (w, plain answer.Spin) else (taken w p l, done))
    tries l h = cond_both (is_some (holder w l)) _ _ Does (λ _. same w) (λ e. takes l (h.1 e))

    moves_spin : (c : SpinCall) → CoversSpin k S w p c → Does (spin_row w p c).effect
    unfolding loc_spn try_spn unl_spn
    moves_spin (spin.LocSpn id) h = tries (lock_named w id) h
    moves_spin (spin.IlocSpn id) h = tries (lock_named w id) h
    moves_spin (spin.TrySpn id) h = takes (lock_named w id) h
    moves_spin (spin.ItrySpn id) h = takes (lock_named w id) h
    moves_spin (spin.UnlSpn id) h = beside _ refl refl refl (leaves_unlocked S w p h)
    moves_spin (spin.IunlSpn id) h = beside _ refl refl refl (leaves_unlocked S w p h)

    moves_return : Unlocks S w p × S (DueOn (on p)) → Does (ret_hdr w p).effect
    unfolding ret_hdr
    moves_return h =
        beside _ refl refl refl (leaves_then S w (unlocked w p) (without_handler (unlocked w p) p) (leaves_unlocked S w p h.0) (leaves_due S (unlocked w p) p _ h.1))

    -- All calls.

    moves_effect : (c : Call) → CoversCall k S w p c → Does (row_of k w p c).effect
    moves_effect (calls.Task c) h = moves_task_call c h
    moves_effect (calls.Sync c) h = moves_sync c h
    moves_effect (calls.Buffer c) h = moves_buffer c h
    moves_effect (calls.Time c) h = moves_time c h
    moves_effect (calls.System c) h = moves_system c h
    moves_effect (calls.Spin c) h = moves_spin c h
    moves_effect calls.RetHdr h = moves_return h

    moves_by : (c : Call) (o : Option Code) → (o ≡ None → CoversCall k S w p c) → Does (called_by w (row_of k w p c).effect o)
    moves_by c None h = moves_effect c (h refl)
    moves_by c (Some code) h = same w

    -- a call, be it refused or not
    pub moves_call : (c : Call) → (check w p (row_of k w p c) ≡ None → CoversCall k S w p c) → Does (called w p (row_of k w p c))
    moves_call c h = moves_by c (check w p (row_of k w p c)) h
