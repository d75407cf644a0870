-- Which calls leave what is counted for a task and for handlers.
use Rattle.std.proofs.Common.{◌≡◌, ap, ℕ, ℤ, true, false, List, [], ◌∷◌, refl, Option, Some, None, Bool, sym}
use Rattle.std.specs.Prelude.{if◌then◌else◌, is_some, nat_lt, unwrap_or}
use Rattle.std.proofs.lemmas.Bool.{cond_both, false≢true}
use Rattle.fmp_codes.specs.Numbers.{as_task, as_object}
use Rattle.fmp_codes.specs.declared.numbers.Proc.{Proc}
use Rattle.fmp_codes.specs.declared.numbers.Task.{Task}
use Rattle.fmp_codes.specs.declared.numbers.Object.{Object}
use Rattle.fmp_codes.specs.declared.calls.SyncCall.{SyncCall}
use Rattle.fmp_codes.specs.declared.calls.SyncCall.TheVariants as sync
use Rattle.fmp_codes.specs.declared.calls.BufferCall.{BufferCall}
use Rattle.fmp_codes.specs.declared.calls.BufferCall.TheVariants as buffer
use Rattle.fmp_codes.specs.declared.calls.TimeCall.{TimeCall}
use Rattle.fmp_codes.specs.declared.calls.TimeCall.TheVariants as time
use Rattle.fmp_codes.specs.declared.calls.SystemCall.{SystemCall}
use Rattle.fmp_codes.specs.declared.calls.SystemCall.TheVariants as system
use Rattle.fmp_codes.specs.declared.calls.SpinCall.{SpinCall}
use Rattle.fmp_codes.specs.declared.calls.SpinCall.TheVariants as spin
use Rattle.fmp_codes.specs.declared.records.Answer.TheVariants as answer
use Rattle.fmp_codes.specs.declared.records.Release.{Release}
use Rattle.fmp_rules.specs.Effects.{Effect}
use Rattle.fmp_rules.specs.declared.machine.QueueKind.TheVariants as kind
use Rattle.fmp_rules.specs.declared.machine.Wait.TheVariants as wait
use Rattle.fmp_rules.specs.World.{World, task, first}
use Rattle.fmp_rules.specs.Objects.{semaphore, eventflag, holds, free_block, holder}
use Rattle.fmp_rules.specs.Ordering.{Ordering, queue}
use Rattle.fmp_rules.specs.Tasks.{make_ready, rotate, activate, finish}
use Rattle.fmp_rules.specs.Rows.{done, plain, Row, called}
use Rattle.fmp_rules.specs.Arguments.{caller, object_named, forever, ticks_of, priority_or, is_zero, task_named, task_or_caller}
use Rattle.fmp_rules.specs.TaskCalls.{mig_tsk, chg_pri, rel_wai, sus_tsk, rsm_tsk, dly_tsk, is_sleep, act, mact, can_act, ext_tsk, ter_tsk, tslp_tsk, wup, can_wup, task_row}
use Rattle.fmp_rules.specs.SyncCalls.{signal, counted, is_met, cleared, served, answered, sync_row}
use Rattle.fmp_rules.specs.BufferCalls.{sent, can_send, forced, receiver, can_receive, received, sender, given, returned, block_of, buffer_row}
use Rattle.fmp_rules.specs.TimeCalls.{time_row}
use Rattle.fmp_rules.specs.SystemCalls.{system_row}
use Rattle.fmp_rules.specs.SpinCalls.{taken, spin_row, ret_hdr}
use Rattle.std.proofs.lemmas.List.{length-set}
use Rattle.fmp_codes.specs.declared.calls.TaskCall.{TaskCall}
use Rattle.fmp_codes.specs.declared.calls.TaskCall.TheVariants as tasks
use Rattle.fmp_rules.specs.Processors.{opened}
use Rattle.fmp_law_balance.proofs.Called.{either_way}
use Rattle.fmp_codes.specs.declared.calls.Call.{Call}
use Rattle.fmp_codes.specs.declared.calls.Call.TheVariants as call
use Rattle.fmp_rules.specs.Step.{row_of}
use Rattle.fmp_law_records.proofs.Rows.{sync_rows, buffer_rows, time_rows, system_rows, spin_rows}
use Rattle.fmp_law_records.proofs.counts.Sparing.{tally, clock, Spares, spares_all, spares_then, spares_beside, spares_task, spares_ready, spares_begin, spares_migrate, spares_done_or_wait}

module _ {Q : Type 0} (k : Ordering Q) (w : World Q) (p : Proc) (t : Task) where
  abbrev SparesIn : World Q × Effect → Type 0
  SparesIn did = Spares t w did.0

  -- tasks

  pub spares_mig : (o : Option Task) (to : ℤ) → SparesIn (mig_tsk k w p o to).effect
  unfolding mig_tsk
  spares_mig o to = spares_migrate t w k _ _

  pub spares_chg : (o : Option Task) (n : ℤ) → SparesIn (chg_pri k w o n).effect
  unfolding chg_pri
  spares_chg o n =
      let u : Task = unwrap_or o (as_task 1) in
      spares_task t w _ u (record (task w u) { priority = priority_or (task w u).setup.priority n }) refl refl refl

  pub spares_rel : (o : Option Task) → SparesIn (rel_wai k w o).effect
  unfolding rel_wai
  spares_rel o = spares_ready t w k (unwrap_or o (as_task 1))

  pub spares_sus : (o : Option Task) → SparesIn (sus_tsk k w p o).effect
  unfolding sus_tsk
  spares_sus o = spares_task t w _ (unwrap_or o (as_task 1)) (record (task w (unwrap_or o (as_task 1))) { suspended = true }) refl refl refl

  pub spares_rsm : (o : Option Task) → SparesIn (rsm_tsk k w o).effect
  unfolding rsm_tsk
  spares_rsm o = spares_task t w _ (unwrap_or o (as_task 1)) (record (task w (unwrap_or o (as_task 1))) { suspended = false }) refl refl refl

  pub spares_dly : (time : ℤ) → SparesIn (dly_tsk k w p time).effect
  unfolding dly_tsk
  spares_dly time = spares_begin t w k (caller w p) wait.Delay (ticks_of time)

  -- semaphores and eventflags

  spares_signal : (s : Object) (u : Option Task) → SparesIn (signal k w s u)
  spares_signal s None = spares_beside t w _ refl refl
  spares_signal s (Some u) = spares_ready t w k u

  spares_served : (v : World Q) (f : Object) (x : ℕ) (us : List Task) → Spares t v (served k v f x us).0
  spares_served v f x [] = spares_beside t v _ refl refl
  spares_served v f x (u ∷ us) =
      cond_both (is_met x (task v u).wait) _ _ (λ (did : World Q × List Release). Spares t v did.0)
      (λ _. spares_then t v (make_ready k v u) _ (spares_ready t v k u) (spares_served (make_ready k v u) f (cleared v f x) us)) (λ _. spares_served v f x us)

  abbrev semaphore_of : ℤ → Object
  semaphore_of id = unwrap_or (object_named w.semaphores id) (as_object 1)

  abbrev flag_of : ℤ → Object
  flag_of id = unwrap_or (object_named w.eventflags id) (as_object 1)

  spares_sync : (c : SyncCall) → SparesIn (sync_row k w p c).effect
  unfolding sync_rows
  spares_sync (sync.SigSem id) = spares_signal (semaphore_of id) (first (queue k w kind.Semaphore (semaphore_of id)))
  spares_sync (sync.IsigSem id) = spares_signal (semaphore_of id) (first (queue k w kind.Semaphore (semaphore_of id)))
  spares_sync (sync.WaiSem id) =
      spares_done_or_wait t w k p (nat_lt 0 (semaphore w (semaphore_of id)).count) (counted w (semaphore_of id)) (wait.Semaphore (semaphore_of id)) forever (spares_beside t w _ refl refl)
  spares_sync (sync.TwaiSem id timeout) =
      spares_done_or_wait t w k p (nat_lt 0 (semaphore w (semaphore_of id)).count) (counted w (semaphore_of id)) (wait.Semaphore (semaphore_of id)) timeout (spares_beside t w _ refl refl)
  spares_sync (sync.PolSem id) = spares_beside t w _ refl refl
  spares_sync (sync.SetFlg id x) = spares_served w (flag_of id) _ (queue k w kind.Eventflag (flag_of id))
  spares_sync (sync.IsetFlg id x) = spares_served w (flag_of id) _ (queue k w kind.Eventflag (flag_of id))
  spares_sync (sync.ClrFlg id x) = spares_beside t w _ refl refl
  spares_sync (sync.WaiFlg id x m) =
      spares_done_or_wait t w k p (holds (eventflag w (flag_of id)).pattern x m) (answered w (flag_of id)) (wait.Eventflag (flag_of id) x m) forever (spares_beside t w _ refl refl)
  spares_sync (sync.TwaiFlg id x m timeout) =
      spares_done_or_wait t w k p (holds (eventflag w (flag_of id)).pattern x m) (answered w (flag_of id)) (wait.Eventflag (flag_of id) x m) timeout (spares_beside t w _ refl refl)
  spares_sync (sync.PolFlg id x m) = spares_beside t w _ refl refl

  -- data queues and pools

  spares_sent : (d : Object) (x : ℤ) (u : Option Task) → SparesIn (sent k w d x u)
  spares_sent d x None = spares_beside t w _ refl refl
  spares_sent d x (Some u) = spares_ready t w k u

  spares_forced : (d : Object) (x : ℤ) → SparesIn (if can_send k w d then sent k w d x (receiver k w d) else forced w d x)
  spares_forced d x = cond_both (can_send k w d) _ _ SparesIn (λ _. spares_sent d x (receiver k w d)) (λ _. spares_beside t w _ refl refl)

  spares_received : (d : Object) (u : Option Task) → SparesIn (received k w d u)
  spares_received d None = spares_beside t w _ refl refl
  spares_received d (Some u) = spares_then t w (make_ready k w u) _ (spares_ready t w k u) (spares_beside t (make_ready k w u) _ refl refl)

  spares_returned : (m : Object) (b : ℕ) (u : Option Task) → SparesIn (returned k w m b u)
  spares_returned m b None = spares_beside t w _ refl refl
  spares_returned m b (Some u) = spares_ready t w k u

  abbrev queue_of : ℤ → Object
  queue_of id = unwrap_or (object_named w.data_queues id) (as_object 1)

  abbrev pool_of : ℤ → Object
  pool_of id = unwrap_or (object_named w.pools id) (as_object 1)

  spares_buffer : (c : BufferCall) → SparesIn (buffer_row k w p c).effect
  unfolding buffer_rows
  spares_buffer (buffer.SndDtq id x) =
      spares_done_or_wait t w k p (can_send k w (queue_of id)) (sent k w (queue_of id) x (receiver k w (queue_of id))) (wait.Send (queue_of id) x) forever (spares_sent (queue_of id) x (receiver k w (queue_of id)))
  spares_buffer (buffer.TsndDtq id x timeout) =
      spares_done_or_wait t w k p (can_send k w (queue_of id)) (sent k w (queue_of id) x (receiver k w (queue_of id))) (wait.Send (queue_of id) x) timeout (spares_sent (queue_of id) x (receiver k w (queue_of id)))
  spares_buffer (buffer.PsndDtq id x) = spares_sent (queue_of id) x (receiver k w (queue_of id))
  spares_buffer (buffer.IpsndDtq id x) = spares_sent (queue_of id) x (receiver k w (queue_of id))
  spares_buffer (buffer.FsndDtq id x) = spares_forced (queue_of id) x
  spares_buffer (buffer.IfsndDtq id x) = spares_forced (queue_of id) x
  spares_buffer (buffer.RcvDtq id) =
      spares_done_or_wait t w k p (can_receive k w (queue_of id)) (received k w (queue_of id) (sender k w (queue_of id))) (wait.Receive (queue_of id)) forever (spares_received (queue_of id) (sender k w (queue_of id)))
  spares_buffer (buffer.TrcvDtq id timeout) =
      spares_done_or_wait t w k p (can_receive k w (queue_of id)) (received k w (queue_of id) (sender k w (queue_of id))) (wait.Receive (queue_of id)) timeout (spares_received (queue_of id) (sender k w (queue_of id)))
  spares_buffer (buffer.PrcvDtq id) = spares_received (queue_of id) (sender k w (queue_of id))
  spares_buffer (buffer.GetMpf id) =
      spares_done_or_wait t w k p (is_some (free_block w (pool_of id))) (given w (pool_of id) (unwrap_or (free_block w (pool_of id)) 0)) (wait.Pool (pool_of id)) forever (spares_beside t w _ refl refl)
  spares_buffer (buffer.TgetMpf id timeout) =
      spares_done_or_wait t w k p (is_some (free_block w (pool_of id))) (given w (pool_of id) (unwrap_or (free_block w (pool_of id)) 0)) (wait.Pool (pool_of id)) timeout (spares_beside t w _ refl refl)
  spares_buffer (buffer.PgetMpf id) = spares_beside t w _ refl refl
  spares_buffer (buffer.RelMpf id b) = spares_returned (pool_of id) (block_of b) (first (queue k w kind.Pool (pool_of id)))

  -- handlers, the processors, spin locks

  spares_time : (c : TimeCall) → tally (task (time_row w c).effect.0 t) ≡ tally (task w t)
  unfolding time_rows
  spares_time (time.StaCyc id) = refl
  spares_time _ = refl

  spares_rotate : (u : Option Task) → Spares t w (rotate k w u)
  spares_rotate None = spares_all t w
  spares_rotate (Some u) = spares_task t w (rotate k w (Some u)) u (task w u) refl refl refl

  spares_system : (c : SystemCall) → SparesIn (system_row k w p c).effect
  unfolding system_rows
  spares_system (system.RotRdq n) = spares_rotate _
  spares_system (system.IrotRdq n) = spares_rotate _
  spares_system (system.MrotRdq n q) = spares_rotate _
  spares_system (system.ImrotRdq n q) = spares_rotate _
  spares_system _ = spares_beside t w _ refl refl

  spares_taken : (l : Object) → SparesIn (if is_some (holder w l) then (w, plain answer.Spin) else (taken w p l, done))
  spares_taken l = cond_both (is_some (holder w l)) (w, plain answer.Spin) (taken w p l, done) SparesIn (λ _. spares_all t w) (λ _. spares_beside t w _ refl refl)

  spares_spin : (c : SpinCall) → SparesIn (spin_row w p c).effect
  unfolding spin_rows
  spares_spin (spin.LocSpn id) = spares_taken (unwrap_or (object_named w.holders id) (as_object 1))
  spares_spin (spin.IlocSpn id) = spares_taken (unwrap_or (object_named w.holders id) (as_object 1))
  spares_spin _ = spares_beside t w _ refl refl

  spares_ret : SparesIn (ret_hdr w p).effect
  unfolding ret_hdr
  spares_ret = spares_beside t w _ refl (ap (λ n. record (clock w) { due = n }) (length-set w.due _ _))

-- A call leaves what is counted for tasks, but for those on tasks.

abbrev pub is_on_tasks : Call → Bool
is_on_tasks (call.Task c) = true
is_on_tasks other = false

module _ {Q : Type 0} (k : Ordering Q) (w : World Q) (p : Proc) (t : Task) where
  left : (row : Row Q) → tally (task row.effect.0 t) ≡ tally (task w t) → tally (task (called w p row).0 t) ≡ tally (task w t)
  left row accepted = either_way w p (λ did. tally (task did.0 t) ≡ tally (task w t)) row (λ c. refl) accepted

  pub tally_call : (c : Call) → is_on_tasks c ≡ false → tally (task (called w p (row_of k w p c)).0 t) ≡ tally (task w t)
  tally_call (call.Task c) e = absurd (false≢true (sym e))
  tally_call (call.Sync c) e = left (sync_row k w p c) (spares_sync k w p t c).counts
  tally_call (call.Buffer c) e = left (buffer_row k w p c) (spares_buffer k w p t c).counts
  tally_call (call.Time c) e = left (time_row w c) (spares_time k w p t c)
  tally_call (call.System c) e = left (system_row k w p c) (spares_system k w p t c).counts
  tally_call (call.Spin c) e = left (spin_row w p c) (spares_spin k w p t c).counts
  tally_call call.RetHdr e = left (ret_hdr w p) (spares_ret k w p t).counts

-- A call leaves what is counted for handlers, but for those on time event handlers.

abbrev pub is_time : Call → Bool
is_time (call.Time c) = true
is_time other = false

module _ {Q : Type 0} (k : Ordering Q) (w : World Q) (p : Proc) where
  abbrev Same : World Q × Effect → Type 0
  Same did = clock did.0 ≡ clock w

  same_activate : (u : Task) (to : Proc) (kept : Option Proc) → clock (activate k w u to kept) ≡ clock w
  same_activate u to kept = cond_both (task w u).active _ _ (λ (v : World Q). clock v ≡ clock w) (λ _. refl) (λ _. refl)

  same_wup : (o : Option Task) → Same (wup k w o).effect
  unfolding wup
  same_wup o = cond_both (is_sleep (task w (unwrap_or o (as_task 1))).wait) _ _ Same (λ _. refl) (λ _. refl)

  same_sleep : (timeout : ℤ) → Same (tslp_tsk k w p timeout).effect
  unfolding tslp_tsk
  same_sleep timeout =
      cond_both (nat_lt 0 (task w (caller w p)).wakeups) _ _ Same (λ _. refl) (λ _. cond_both (is_zero timeout) _ _ Same (λ _. refl) (λ _. refl))

  same_task : (c : TaskCall) → Same (task_row k w p c).effect
  unfolding act mact can_act mig_tsk ext_tsk ter_tsk chg_pri can_wup rel_wai sus_tsk rsm_tsk dly_tsk finish opened
  same_task (tasks.ActTsk id) = same_activate _ _ _
  same_task (tasks.IactTsk id) = same_activate _ _ _
  same_task (tasks.MactTsk id to) = same_activate _ _ _
  same_task (tasks.ImactTsk id to) = same_activate _ _ _
  same_task (tasks.MigTsk id to) = (spares_migrate (as_task 1) w k _ _).clock
  same_task tasks.SlpTsk = same_sleep forever
  same_task (tasks.TslpTsk timeout) = same_sleep timeout
  same_task (tasks.WupTsk id) = same_wup (task_or_caller w p id)
  same_task (tasks.IwupTsk id) = same_wup (task_named w id)
  same_task _ = refl

  same : (row : Row Q) → Same row.effect → Same (called w p row)
  same row accepted = either_way w p Same row (λ c. refl) accepted

  pub clock_call : (c : Call) → is_time c ≡ false → Same (called w p (row_of k w p c))
  clock_call (call.Time c) e = absurd (false≢true (sym e))
  clock_call (call.Task c) e = same (task_row k w p c) (same_task c)
  clock_call (call.Sync c) e = same (sync_row k w p c) (spares_sync k w p (as_task 1) c).clock
  clock_call (call.Buffer c) e = same (buffer_row k w p c) (spares_buffer k w p (as_task 1) c).clock
  clock_call (call.System c) e = same (system_row k w p c) (spares_system k w p (as_task 1) c).clock
  clock_call (call.Spin c) e = same (spin_row w p c) (spares_spin k w p (as_task 1) c).clock
  clock_call call.RetHdr e = same (ret_hdr w p) (spares_ret k w p (as_task 1)).clock
