-- What each call that is none on tasks and none on the processors leaves of the order of the ready tasks: those that it releases are
-- put last, one after the other.
use Rattle.std.proofs.Common.{◌≡◌, ℕ, ℤ, true, false, List, [], ◌∷◌, Option, Some, None, Bool}
use Rattle.std.specs.Prelude.{if◌then◌else◌, is_some, nat_lt, unwrap_or}
use Rattle.std.proofs.lemmas.Bool.{cond_both, false≢true}
use Rattle.fmp_codes.specs.Numbers.{as_object}
use Rattle.fmp_codes.specs.declared.numbers.Proc.{Proc}
use Rattle.fmp_codes.specs.declared.numbers.Task.{Task}
use Rattle.fmp_codes.specs.declared.numbers.Object.{Object}
use Rattle.fmp_codes.specs.declared.calls.SyncCall.{SyncCall}
use Rattle.fmp_codes.specs.declared.calls.SyncCall.TheVariants as sync
use Rattle.fmp_codes.specs.declared.calls.BufferCall.{BufferCall}
use Rattle.fmp_codes.specs.declared.calls.BufferCall.TheVariants as buffer
use Rattle.fmp_codes.specs.declared.calls.TimeCall.{TimeCall}
use Rattle.fmp_codes.specs.declared.calls.TimeCall.TheVariants as time
use Rattle.fmp_codes.specs.declared.calls.SpinCall.{SpinCall}
use Rattle.fmp_codes.specs.declared.calls.SpinCall.TheVariants as spin
use Rattle.fmp_codes.specs.declared.records.Answer.TheVariants as answer
use Rattle.fmp_codes.specs.declared.records.Release.{Release}
use Rattle.fmp_rules.specs.Effects.{Effect}
use Rattle.fmp_rules.specs.declared.machine.QueueKind.TheVariants as kind
use Rattle.fmp_rules.specs.declared.machine.Wait.TheVariants as wait
use Rattle.fmp_rules.specs.World.{task, first}
use Rattle.fmp_rules.specs.Objects.{semaphore, eventflag, holds, free_block, holder}
use Rattle.fmp_rules.specs.Ordering.{queue}
use Rattle.fmp_rules.specs.Tasks.{make_ready}
use Rattle.fmp_rules.specs.Rows.{done, plain, Row, called}
use Rattle.fmp_rules.specs.Arguments.{caller, object_named, forever, ticks_of, is_zero}
use Rattle.fmp_rules.specs.SyncCalls.{signal, counted, is_met, cleared, served, answered, sync_row}
use Rattle.fmp_rules.specs.BufferCalls.{sent, can_send, forced, receiver, can_receive, received, sender, given, returned, block_of, buffer_row}
use Rattle.fmp_rules.specs.TimeCalls.{time_row}
use Rattle.fmp_rules.specs.SpinCalls.{taken, spin_row, ret_hdr}
use Rattle.fmp_law_balance.proofs.Called.{either_way}
use Rattle.fmp_codes.specs.declared.calls.Call.{Call}
use Rattle.fmp_codes.specs.declared.calls.Call.TheVariants as call
use Rattle.fmp_rules.specs.Step.{row_of}
use Rattle.fmp_rules.specs.declared.machine.Wait.{Wait}
use Rattle.fmp_rules.specs.Rows.{done_or_wait}
use Rattle.fmp_rules.specs.Tick.{tick, ticked, counted_down, released, tasks_expired}
use Rattle.fmp_rules.specs.Arrivals.{Arrivals, State, numbered}
use Rattle.fmp_rules.specs.Tick.{alarms_due, with_handlers_due, expired}
use Rattle.fmp_law_safety.proofs.KeepsDue.{alarms_keep, cyclics_keep}
use Rattle.fmp_law_records.specs.Line.{Line, put_last, put_released}
use Rattle.fmp_law_records.proofs.Rows.{sync_rows, buffer_rows, time_rows, spin_rows}
use Rattle.fmp_law_records.proofs.Lines.{OrderedIn, ordered_ready, ordered_begin}

-- from m on, those that are released are put last
pub record Serves (m : State) (did : State × Effect) : Type 0 where
  pub line : (l : Line) → OrderedIn l m → OrderedIn (put_released l did.1.releases) did.0

ordered_served : (v : State) (f : Object) (x : ℕ) (us : List Task) (l : Line) → OrderedIn l v → OrderedIn (put_released l (served numbered v f x us).1) (served numbered v f x us).0
ordered_served v f x [] l h = h
ordered_served v f x (u ∷ us) l h =
    cond_both (is_met x (task v u).wait) _ _ (λ (did : State × List Release). OrderedIn (put_released l did.1) did.0)
    (λ _. ordered_served (make_ready numbered v u) f (cleared v f x) us (put_last l u) (ordered_ready v l u h)) (λ _. ordered_served v f x us l h)

ordered_released : (v : State) (ts : List Task) (l : Line) → OrderedIn l v → OrderedIn (put_released l (released numbered v ts).1) (released numbered v ts).0
ordered_released v [] l h = h
ordered_released v (t ∷ ts) l h = ordered_released (make_ready numbered v t) ts (put_last l t) (ordered_ready v l t h)

pub done_or_waits : (m : State) (p : Proc) (can : Bool) (effect : State × Effect) (x : Wait) (timeout : ℤ) → Serves m effect → Serves m (done_or_wait numbered m p can effect x timeout)
done_or_waits m p can effect x timeout at_once =
    cond_both can _ _ (Serves m) (λ _. at_once)
    (λ _. cond_both (is_zero timeout) _ _ (Serves m) (λ _. record { line = λ l h. h }) (λ _. record { line = λ l h. ordered_begin m l (caller m p) x (ticks_of timeout) h }))

module _ (m : State) (p : Proc) where
  -- semaphores and eventflags

  serves_in_signal : (s : Object) (u : Option Task) → Serves m (signal numbered m s u)
  serves_in_signal s None = record { line = λ l h. h }
  serves_in_signal s (Some u) = record { line = λ l h. ordered_ready m l u h }

  abbrev semaphore_of : ℤ → Object
  semaphore_of id = unwrap_or (object_named m.semaphores id) (as_object 1)

  abbrev flag_of : ℤ → Object
  flag_of id = unwrap_or (object_named m.eventflags id) (as_object 1)

  serves_in_sync : (c : SyncCall) → Serves m (sync_row numbered m p c).effect
  unfolding sync_rows
  serves_in_sync (sync.SigSem id) = serves_in_signal (semaphore_of id) (first (queue numbered m kind.Semaphore (semaphore_of id)))
  serves_in_sync (sync.IsigSem id) = serves_in_signal (semaphore_of id) (first (queue numbered m kind.Semaphore (semaphore_of id)))
  serves_in_sync (sync.WaiSem id) =
      done_or_waits m p (nat_lt 0 (semaphore m (semaphore_of id)).count) (counted m (semaphore_of id)) (wait.Semaphore (semaphore_of id)) forever (record { line = λ l h. h })
  serves_in_sync (sync.TwaiSem id timeout) =
      done_or_waits m p (nat_lt 0 (semaphore m (semaphore_of id)).count) (counted m (semaphore_of id)) (wait.Semaphore (semaphore_of id)) timeout (record { line = λ l h. h })
  serves_in_sync (sync.PolSem id) = record { line = λ l h. h }
  serves_in_sync (sync.SetFlg id x) = record { line = λ l h. ordered_served m (flag_of id) _ (queue numbered m kind.Eventflag (flag_of id)) l h }
  serves_in_sync (sync.IsetFlg id x) = record { line = λ l h. ordered_served m (flag_of id) _ (queue numbered m kind.Eventflag (flag_of id)) l h }
  serves_in_sync (sync.ClrFlg id x) = record { line = λ l h. h }
  serves_in_sync (sync.WaiFlg id x how) =
      done_or_waits m p (holds (eventflag m (flag_of id)).pattern x how) (answered m (flag_of id)) (wait.Eventflag (flag_of id) x how) forever (record { line = λ l h. h })
  serves_in_sync (sync.TwaiFlg id x how timeout) =
      done_or_waits m p (holds (eventflag m (flag_of id)).pattern x how) (answered m (flag_of id)) (wait.Eventflag (flag_of id) x how) timeout (record { line = λ l h. h })
  serves_in_sync (sync.PolFlg id x how) = record { line = λ l h. h }

  -- data queues and pools

  serves_in_sent : (d : Object) (x : ℤ) (u : Option Task) → Serves m (sent numbered m d x u)
  serves_in_sent d x None = record { line = λ l h. h }
  serves_in_sent d x (Some u) = record { line = λ l h. ordered_ready m l u h }

  serves_in_forced : (d : Object) (x : ℤ) → Serves m (if can_send numbered m d then sent numbered m d x (receiver numbered m d) else forced m d x)
  serves_in_forced d x = cond_both (can_send numbered m d) _ _ (Serves m) (λ _. serves_in_sent d x (receiver numbered m d)) (λ _. record { line = λ l h. h })

  serves_in_received : (d : Object) (u : Option Task) → Serves m (received numbered m d u)
  serves_in_received d None = record { line = λ l h. h }
  serves_in_received d (Some u) = record { line = λ l h. ordered_ready m l u h }

  serves_in_returned : (a : Object) (b : ℕ) (u : Option Task) → Serves m (returned numbered m a b u)
  serves_in_returned a b None = record { line = λ l h. h }
  serves_in_returned a b (Some u) = record { line = λ l h. ordered_ready m l u h }

  abbrev queue_of : ℤ → Object
  queue_of id = unwrap_or (object_named m.data_queues id) (as_object 1)

  abbrev pool_of : ℤ → Object
  pool_of id = unwrap_or (object_named m.pools id) (as_object 1)

  serves_in_buffer : (c : BufferCall) → Serves m (buffer_row numbered m p c).effect
  unfolding buffer_rows
  serves_in_buffer (buffer.SndDtq id x) =
      done_or_waits m p (can_send numbered m (queue_of id)) (sent numbered m (queue_of id) x (receiver numbered m (queue_of id))) (wait.Send (queue_of id) x) forever (serves_in_sent (queue_of id) x (receiver numbered m (queue_of id)))
  serves_in_buffer (buffer.TsndDtq id x timeout) =
      done_or_waits m p (can_send numbered m (queue_of id)) (sent numbered m (queue_of id) x (receiver numbered m (queue_of id))) (wait.Send (queue_of id) x) timeout (serves_in_sent (queue_of id) x (receiver numbered m (queue_of id)))
  serves_in_buffer (buffer.PsndDtq id x) = serves_in_sent (queue_of id) x (receiver numbered m (queue_of id))
  serves_in_buffer (buffer.IpsndDtq id x) = serves_in_sent (queue_of id) x (receiver numbered m (queue_of id))
  serves_in_buffer (buffer.FsndDtq id x) = serves_in_forced (queue_of id) x
  serves_in_buffer (buffer.IfsndDtq id x) = serves_in_forced (queue_of id) x
  serves_in_buffer (buffer.RcvDtq id) =
      done_or_waits m p (can_receive numbered m (queue_of id)) (received numbered m (queue_of id) (sender numbered m (queue_of id))) (wait.Receive (queue_of id)) forever (serves_in_received (queue_of id) (sender numbered m (queue_of id)))
  serves_in_buffer (buffer.TrcvDtq id timeout) =
      done_or_waits m p (can_receive numbered m (queue_of id)) (received numbered m (queue_of id) (sender numbered m (queue_of id))) (wait.Receive (queue_of id)) timeout (serves_in_received (queue_of id) (sender numbered m (queue_of id)))
  serves_in_buffer (buffer.PrcvDtq id) = serves_in_received (queue_of id) (sender numbered m (queue_of id))
  serves_in_buffer (buffer.GetMpf id) =
      done_or_waits m p (is_some (free_block m (pool_of id))) (given m (pool_of id) (unwrap_or (free_block m (pool_of id)) 0)) (wait.Pool (pool_of id)) forever (record { line = λ l h. h })
  serves_in_buffer (buffer.TgetMpf id timeout) =
      done_or_waits m p (is_some (free_block m (pool_of id))) (given m (pool_of id) (unwrap_or (free_block m (pool_of id)) 0)) (wait.Pool (pool_of id)) timeout (record { line = λ l h. h })
  serves_in_buffer (buffer.PgetMpf id) = record { line = λ l h. h }
  serves_in_buffer (buffer.RelMpf id b) = serves_in_returned (pool_of id) (block_of b) (first (queue numbered m kind.Pool (pool_of id)))

  -- handlers, the processors, spin locks

  serves_in_time : (c : TimeCall) → Serves m (time_row m c).effect
  unfolding time_rows
  serves_in_time (time.StaCyc id) = record { line = λ l h. h }
  serves_in_time _ = record { line = λ l h. h }

  serves_in_taken : (l : Object) → Serves m (if is_some (holder m l) then (m, plain answer.Spin) else (taken m p l, done))
  serves_in_taken l = cond_both (is_some (holder m l)) (m, plain answer.Spin) (taken m p l, done) (Serves m) (λ _. record { line = λ l h. h }) (λ _. record { line = λ l h. h })

  serves_in_spin : (c : SpinCall) → Serves m (spin_row m p c).effect
  unfolding spin_rows
  serves_in_spin (spin.LocSpn id) = serves_in_taken (unwrap_or (object_named m.holders id) (as_object 1))
  serves_in_spin (spin.IlocSpn id) = serves_in_taken (unwrap_or (object_named m.holders id) (as_object 1))
  serves_in_spin _ = record { line = λ l h. h }

  serves_in_ret : Serves m (ret_hdr m p).effect
  unfolding ret_hdr
  serves_in_ret = record { line = λ l h. h }

abbrev pub is_other : Call → Bool
is_other (call.Task c) = false
is_other (call.System c) = false
is_other other = true

module _ (m : State) (p : Proc) where
  row_serves : (row : Row Arrivals) → Serves m row.effect → Serves m (called m p row)
  row_serves row accepted = either_way m p (Serves m) row (λ c. record { line = λ l h. h }) accepted

  pub call_serves : (c : Call) → is_other c ≡ true → Serves m (called m p (row_of numbered m p c))
  call_serves (call.Task c) e = absurd (false≢true e)
  call_serves (call.System c) e = absurd (false≢true e)
  call_serves (call.Sync c) e = row_serves (sync_row numbered m p c) (serves_in_sync m p c)
  call_serves (call.Buffer c) e = row_serves (buffer_row numbered m p c) (serves_in_buffer m p c)
  call_serves (call.Time c) e = row_serves (time_row m c) (serves_in_time m p c)
  call_serves (call.Spin c) e = row_serves (spin_row m p c) (serves_in_spin m p c)
  call_serves call.RetHdr e = row_serves (ret_hdr m p) (serves_in_ret m p)

  pub tick_serves : Serves m (tick numbered m p)
  unfolding counted_down ticked with_handlers_due
  tick_serves = record {
    line = λ l h.
        let v : State = counted_down m p in
        let ts : List Task = tasks_expired v.waits_left (numbered.timed v.order v.waits_left) in
        let u : State = (released numbered v ts).0 in
        let S : State → Type 0 = λ z. OrderedIn (put_released l (released numbered v ts).1) z in
        cyclics_keep p S (λ y o g. g) (alarms_due u p (expired u.alarms_left u.alarms)) (expired u.cyclics_left u.cyclics)
        (alarms_keep p S (λ y o g. g) u (expired u.alarms_left u.alarms) (ordered_released v ts l h));
  }
