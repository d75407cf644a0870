-- A call that is refused changes nothing but what dispatching does.
use Rattle.std.proofs.Common.{◌≡◌, ◌-◌, ℕ, ℤ, Bool, true, false, refl, ap, Option, Some, None}
use Rattle.std.specs.Prelude.{if◌then◌else◌, is_some, nat_lt, unwrap_or}
use Rattle.std.proofs.lemmas.Bool.{both_ways, cond_both, false≢true}
use Rattle.fmp_codes.specs.Numbers.{as_object, as_task}
use Rattle.fmp_codes.specs.declared.numbers.Proc.{Proc}
use Rattle.fmp_codes.specs.declared.numbers.Task.{Task}
use Rattle.fmp_codes.specs.declared.numbers.Object.{Object}
use Rattle.fmp_codes.specs.declared.calls.Call.{Call}
use Rattle.fmp_codes.specs.declared.calls.Call.TheVariants as call
use Rattle.fmp_codes.specs.declared.calls.TaskCall.{TaskCall}
use Rattle.fmp_codes.specs.declared.calls.TaskCall.TheVariants as task_call
use Rattle.fmp_codes.specs.declared.calls.SyncCall.{SyncCall}
use Rattle.fmp_codes.specs.declared.calls.SyncCall.TheVariants as sync
use Rattle.fmp_codes.specs.declared.calls.BufferCall.{BufferCall}
use Rattle.fmp_codes.specs.declared.calls.BufferCall.TheVariants as buffer
use Rattle.fmp_codes.specs.declared.calls.TimeCall.{TimeCall}
use Rattle.fmp_codes.specs.declared.calls.TimeCall.TheVariants as time
use Rattle.fmp_codes.specs.declared.calls.SystemCall.{SystemCall}
use Rattle.fmp_codes.specs.declared.calls.SystemCall.TheVariants as system
use Rattle.fmp_codes.specs.declared.calls.SpinCall.{SpinCall}
use Rattle.fmp_codes.specs.declared.calls.SpinCall.TheVariants as spin
use Rattle.fmp_codes.specs.declared.codes.Code.{Code}
use Rattle.fmp_codes.specs.declared.records.Event.{Event}
use Rattle.fmp_codes.specs.declared.records.Event.TheVariants as event
use Rattle.fmp_codes.specs.declared.records.Record.{Record}
use Rattle.fmp_rules.specs.Effects.{Effect}
use Rattle.fmp_rules.specs.declared.machine.QueueKind.TheVariants as kind
use Rattle.fmp_rules.specs.declared.machine.Wait.{Wait}
use Rattle.fmp_rules.specs.World.{World, task, first, runner_of}
use Rattle.fmp_rules.specs.declared.machine.Wait.TheVariants as wait
use Rattle.fmp_codes.specs.declared.calls.Mode.{Mode}
use Rattle.fmp_rules.specs.Ordering.{Ordering, queue, with_task}
use Rattle.fmp_rules.specs.Objects.{semaphore, eventflag, free_block, holder, holds}
use Rattle.fmp_rules.specs.Rows.{Row, check, called, called_by, done, done_or_wait}
use Rattle.fmp_rules.specs.Arguments.{caller, forever, task_named, task_or_caller, object_named, is_zero}
use Rattle.fmp_rules.specs.TaskCalls.{is_sleep, act, mact, can_act, mig_tsk, ext_tsk, ter_tsk, chg_pri, tslp_tsk, wup, can_wup, rel_wai, sus_tsk, rsm_tsk, dly_tsk, task_row}
use Rattle.fmp_rules.specs.SyncCalls.{signal, counted, answered, sig_sem, twai_sem, pol_sem, set_flg, clr_flg, twai_flg, pol_flg, sync_row}
use Rattle.fmp_rules.specs.BufferCalls.{receiver, sender, can_send, sent, can_receive, received, given, returned, block_of, tsnd_dtq, psnd_dtq, fsnd_dtq, trcv_dtq, prcv_dtq, tget_mpf, pget_mpf, rel_mpf, buffer_row}
use Rattle.fmp_rules.specs.TimeCalls.{sta_cyc, msta_cyc, stp_cyc, sta_alm, msta_alm, stp_alm, time_row}
use Rattle.fmp_rules.specs.SystemCalls.{rotation, rotation_in_handler, system_row}
use Rattle.fmp_rules.specs.SpinCalls.{loc_spn, try_spn, unl_spn, ret_hdr, spin_row}
use Rattle.fmp_rules.specs.Step.{tops, settle, row_of, settled, before_event, unchanged, step}
use Rattle.fmp_law_safety.specs.Laws.{is_refusal, OnlyDispatches}

module _ {Q : Type 0} (k : Ordering Q) (w : World Q) where
  -- what refuses changes nothing
  abbrev Clean : World Q × Effect → Type 0
  Clean did = is_refusal did.1.answer ≡ true → did.0 ≡ w

  -- an effect that is no refusal
  accepted : (did : World Q × Effect) → is_refusal did.1.answer ≡ false → Clean did
  accepted did none e = absurd (both_ways _ none e)

  clean_called : (p : Proc) (row : Row Q) → Clean row.effect → Clean (called w p row)
  clean_called p row clean = go (check w p row)
    where
      go : (o : Option Code) → Clean (called_by w row.effect o)
      go None = clean
      go (Some c) = λ e. refl

  module _ (p : Proc) where
    clean_wait : (can : Bool) (effect : World Q × Effect) (x : Wait) (timeout : ℤ) → is_refusal effect.1.answer ≡ false → Clean (done_or_wait k w p can effect x timeout)
    clean_wait can effect x timeout none =
        cond_both can _ _ Clean (λ _. accepted effect none) (λ _. cond_both (is_zero timeout) _ _ Clean (λ _. λ e. refl) (λ _. λ e. absurd (false≢true e)))

    clean_signal : (s : Object) (t : Option Task) → Clean (signal k w s t)
    clean_signal s None = λ e. absurd (false≢true e)
    clean_signal s (Some t) = λ e. absurd (false≢true e)

    no_refusal_sent : (d : Object) (v : ℤ) (t : Option Task) → is_refusal (sent k w d v t).1.answer ≡ false
    no_refusal_sent d v None = refl
    no_refusal_sent d v (Some t) = refl

    no_refusal_received : (d : Object) (t : Option Task) → is_refusal (received k w d t).1.answer ≡ false
    no_refusal_received d None = refl
    no_refusal_received d (Some t) = refl

    clean_returned : (m : Object) (b : ℤ) (t : Option Task) → Clean (returned k w m (block_of b) t)
    clean_returned m b None = λ e. absurd (false≢true e)
    clean_returned m b (Some t) = λ e. absurd (false≢true e)

    clean_wup : (t : Option Task) → Clean (wup k w t).effect
    unfolding wup
    clean_wup t = cond_both (is_sleep (task w (unwrap_or t (as_task 1))).wait) _ _ Clean (λ _. λ e. absurd (false≢true e)) (λ _. λ e. absurd (false≢true e))

    clean_sleep : (timeout : ℤ) → Clean (tslp_tsk k w p timeout).effect
    unfolding tslp_tsk
    clean_sleep timeout =
        let r = task w (caller w p) in
        clean_wait (nat_lt 0 r.wakeups) (with_task w (caller w p) (record r { wakeups = r.wakeups - 1 }), done) wait.Sleep timeout refl

    clean_task : (c : TaskCall) → Clean (task_row k w p c).effect
    unfolding act mact can_act mig_tsk ext_tsk ter_tsk chg_pri can_wup rel_wai sus_tsk rsm_tsk dly_tsk
    clean_task task_call.SlpTsk = clean_sleep forever
    clean_task (task_call.TslpTsk timeout) = clean_sleep timeout
    clean_task (task_call.WupTsk id) = clean_wup (task_or_caller w p id)
    clean_task (task_call.IwupTsk id) = clean_wup (task_named w id)
    clean_task (task_call.ActTsk id) = λ e. absurd (false≢true e)
    clean_task _ = λ e. absurd (false≢true e)

    abbrev semaphore_named : ℤ → Object
    semaphore_named id = unwrap_or (object_named w.semaphores id) (as_object 1)

    abbrev eventflag_named : ℤ → Object
    eventflag_named id = unwrap_or (object_named w.eventflags id) (as_object 1)

    clean_take : (s : Object) (timeout : ℤ) → Clean (done_or_wait k w p (nat_lt 0 (semaphore w s).count) (counted w s) (wait.Semaphore s) timeout)
    clean_take s timeout = clean_wait (nat_lt 0 (semaphore w s).count) (counted w s) (wait.Semaphore s) timeout refl

    clean_look : (f : Object) (pattern : ℕ) (m : Mode) (timeout : ℤ) →
        Clean (done_or_wait k w p (holds (eventflag w f).pattern pattern m) (answered w f) (wait.Eventflag f pattern m) timeout)
    clean_look f pattern m timeout = clean_wait (holds (eventflag w f).pattern pattern m) (answered w f) (wait.Eventflag f pattern m) timeout refl

    clean_sync : (c : SyncCall) → Clean (sync_row k w p c).effect
    unfolding sig_sem twai_sem pol_sem set_flg clr_flg twai_flg pol_flg
    clean_sync (sync.SigSem id) = clean_signal (semaphore_named id) (first (queue k w kind.Semaphore (semaphore_named id)))
    clean_sync (sync.IsigSem id) = clean_signal (semaphore_named id) (first (queue k w kind.Semaphore (semaphore_named id)))
    clean_sync (sync.WaiSem id) = clean_take (semaphore_named id) forever
    clean_sync (sync.TwaiSem id timeout) = clean_take (semaphore_named id) timeout
    clean_sync (sync.WaiFlg id pattern m) = clean_look (eventflag_named id) pattern m forever
    clean_sync (sync.TwaiFlg id pattern m timeout) = clean_look (eventflag_named id) pattern m timeout
    clean_sync _ = λ e. absurd (false≢true e)

    abbrev queue_named : ℤ → Object
    queue_named id = unwrap_or (object_named w.data_queues id) (as_object 1)

    clean_sent : (id v : ℤ) → Clean (sent k w (queue_named id) v (receiver k w (queue_named id)))
    clean_sent id v = accepted (sent k w (queue_named id) v (receiver k w (queue_named id))) (no_refusal_sent (queue_named id) v (receiver k w (queue_named id)))

    clean_received : (id : ℤ) → Clean (received k w (queue_named id) (sender k w (queue_named id)))
    clean_received id = accepted (received k w (queue_named id) (sender k w (queue_named id))) (no_refusal_received (queue_named id) (sender k w (queue_named id)))

    clean_send : (d : Object) (v timeout : ℤ) → Clean (done_or_wait k w p (can_send k w d) (sent k w d v (receiver k w d)) (wait.Send d v) timeout)
    clean_send d v timeout = clean_wait (can_send k w d) (sent k w d v (receiver k w d)) (wait.Send d v) timeout (no_refusal_sent d v (receiver k w d))

    clean_receive : (d : Object) (timeout : ℤ) → Clean (done_or_wait k w p (can_receive k w d) (received k w d (sender k w d)) (wait.Receive d) timeout)
    clean_receive d timeout = clean_wait (can_receive k w d) (received k w d (sender k w d)) (wait.Receive d) timeout (no_refusal_received d (sender k w d))

    clean_get : (m : Object) (timeout : ℤ) → Clean (done_or_wait k w p (is_some (free_block w m)) (given w m (unwrap_or (free_block w m) 0)) (wait.Pool m) timeout)
    clean_get m timeout = clean_wait (is_some (free_block w m)) (given w m (unwrap_or (free_block w m) 0)) (wait.Pool m) timeout refl

    abbrev pool_named : ℤ → Object
    pool_named id = unwrap_or (object_named w.pools id) (as_object 1)

    clean_buffer : (c : BufferCall) → Clean (buffer_row k w p c).effect
    unfolding tsnd_dtq psnd_dtq fsnd_dtq trcv_dtq prcv_dtq tget_mpf pget_mpf rel_mpf
    clean_buffer (buffer.SndDtq id v) = clean_send (queue_named id) v forever
    clean_buffer (buffer.TsndDtq id v timeout) = clean_send (queue_named id) v timeout
    clean_buffer (buffer.PsndDtq id v) = clean_sent id v
    clean_buffer (buffer.IpsndDtq id v) = clean_sent id v
    clean_buffer (buffer.FsndDtq id v) = cond_both (can_send k w (queue_named id)) _ _ Clean (λ _. clean_sent id v) (λ _. λ e. absurd (false≢true e))
    clean_buffer (buffer.IfsndDtq id v) = cond_both (can_send k w (queue_named id)) _ _ Clean (λ _. clean_sent id v) (λ _. λ e. absurd (false≢true e))
    clean_buffer (buffer.RcvDtq id) = clean_receive (queue_named id) forever
    clean_buffer (buffer.TrcvDtq id timeout) = clean_receive (queue_named id) timeout
    clean_buffer (buffer.PrcvDtq id) = clean_received id
    clean_buffer (buffer.GetMpf id) = clean_get (pool_named id) forever
    clean_buffer (buffer.TgetMpf id timeout) = clean_get (pool_named id) timeout
    clean_buffer (buffer.PgetMpf id) = λ e. absurd (false≢true e)
    clean_buffer (buffer.RelMpf id b) = clean_returned (pool_named id) b (first (queue k w kind.Pool (pool_named id)))

    clean_time : (c : TimeCall) → Clean (time_row w c).effect
    unfolding sta_cyc msta_cyc stp_cyc sta_alm msta_alm stp_alm
    clean_time (time.StaCyc id) = λ e. absurd (false≢true e)
    clean_time _ = λ e. absurd (false≢true e)

    clean_system : (c : SystemCall) → Clean (system_row k w p c).effect
    unfolding rotation rotation_in_handler
    clean_system (system.RotRdq n) = λ e. absurd (false≢true e)
    clean_system _ = λ e. absurd (false≢true e)

    clean_lock : (id : ℤ) → Clean (loc_spn w p id).effect
    unfolding loc_spn
    clean_lock id = cond_both (is_some (holder w (unwrap_or (object_named w.holders id) (as_object 1)))) _ _ Clean (λ _. λ e. refl) (λ _. λ e. absurd (false≢true e))

    clean_spin : (c : SpinCall) → Clean (spin_row w p c).effect
    unfolding try_spn unl_spn
    clean_spin (spin.LocSpn id) = clean_lock id
    clean_spin (spin.IlocSpn id) = clean_lock id
    clean_spin _ = λ e. absurd (false≢true e)

    clean_call : (c : Call) → Clean (row_of k w p c).effect
    unfolding ret_hdr
    clean_call (call.Task c) = clean_task c
    clean_call (call.Sync c) = clean_sync c
    clean_call (call.Buffer c) = clean_buffer c
    clean_call (call.Time c) = clean_time c
    clean_call (call.System c) = clean_system c
    clean_call (call.Spin c) = clean_spin c
    clean_call call.RetHdr = λ e. absurd (false≢true e)

  pub only_dispatches : (e : Event) → OnlyDispatches k w e (step k w e).1 (step k w e).0
  unfolding settled before_event unchanged
  only_dispatches (event.Call p c) =
      cond_both (is_some (runner_of w p)) _ _ (λ (after : World Q × Record). OnlyDispatches k w (event.Call p c) after.1 after.0)
      (λ _. λ e. ap (λ v. settle k (tops k w) v p) (clean_called p (row_of k w p c) (clean_call p c) e)) (λ _. λ e. absurd (false≢true e))
  only_dispatches (event.Tick p) = tt
  only_dispatches (event.Ipi p) = tt
