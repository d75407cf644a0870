-- Which value each call loses, and that no other event loses one.
use Rattle.std.proofs.Common.{◌≡◌, ◌≤◌, ℕ, ℤ, Bool, true, false, not, ◌&&◌, List, [], ◌∷◌, length, refl, sym, ap, ◌∙◌, Option, Some, None}
use Rattle.std.specs.Prelude.{if◌then◌else◌, is_some, unwrap_or, flat_map, drop}
use Rattle.std.proofs.Math.Seq.{drop-append_seam}
use Rattle.std.proofs.lemmas.Bool.{cond_both, cond-true, cond-false}
use Rattle.fmp_codes.specs.Numbers.{as_object, as_task}
use Rattle.fmp_codes.specs.declared.numbers.Proc.{Proc}
use Rattle.fmp_codes.specs.declared.numbers.Task.{Task}
use Rattle.fmp_codes.specs.declared.numbers.Object.{Object}
use Rattle.fmp_codes.specs.declared.calls.Call.{Call}
use Rattle.fmp_codes.specs.declared.calls.Call.TheVariants as call
use Rattle.fmp_codes.specs.declared.calls.TaskCall.{TaskCall}
use Rattle.fmp_codes.specs.declared.calls.TaskCall.TheVariants as tasks
use Rattle.fmp_codes.specs.declared.calls.SyncCall.{SyncCall}
use Rattle.fmp_codes.specs.declared.calls.SyncCall.TheVariants as sync
use Rattle.fmp_codes.specs.declared.calls.BufferCall.{BufferCall}
use Rattle.fmp_codes.specs.declared.calls.BufferCall.TheVariants as buffer
use Rattle.fmp_codes.specs.declared.calls.TimeCall.{TimeCall}
use Rattle.fmp_codes.specs.declared.calls.TimeCall.TheVariants as time
use Rattle.fmp_codes.specs.declared.calls.SystemCall.{SystemCall}
use Rattle.fmp_codes.specs.declared.calls.SystemCall.TheVariants as system
use Rattle.fmp_codes.specs.declared.calls.SpinCall.{SpinCall}
use Rattle.fmp_codes.specs.declared.calls.SpinCall.TheVariants as spin
use Rattle.fmp_codes.specs.declared.codes.Code.{Code}
use Rattle.fmp_codes.specs.declared.records.Answer.{Answer}
use Rattle.fmp_codes.specs.declared.records.Answer.TheVariants as answer
use Rattle.fmp_codes.specs.declared.records.Event.{Event}
use Rattle.fmp_codes.specs.declared.records.Event.TheVariants as event
use Rattle.fmp_codes.specs.declared.records.Record.{Record}
use Rattle.fmp_setup.specs.Setup.{Setup}
use Rattle.fmp_setup.specs.Valid.{IsValid}
use Rattle.fmp_rules.specs.Effects.{Effect}
use Rattle.fmp_rules.specs.declared.machine.Wait.{Wait}
use Rattle.fmp_rules.specs.declared.machine.Wait.TheVariants as wait
use Rattle.fmp_rules.specs.declared.machine.QueueKind.TheVariants as kind
use Rattle.fmp_rules.specs.World.{World, task, first}
use Rattle.fmp_rules.specs.Objects.{values, holder}
use Rattle.fmp_rules.specs.Ordering.{Ordering, queue}
use Rattle.fmp_rules.specs.Arrivals.{State, numbered}
use Rattle.fmp_rules.specs.Arguments.{forever, is_zero, object_named, task_named, task_or_caller}
use Rattle.fmp_rules.specs.Rows.{Row, called, refused, done_or_wait}
use Rattle.fmp_rules.specs.TaskCalls.{is_sleep, task_row}
use Rattle.fmp_rules.specs.SyncCalls.{signal, sync_row}
use Rattle.fmp_rules.specs.BufferCalls.{receiver, sender, can_send, sent, forced, received, returned, block_of}
use Rattle.fmp_rules.specs.BufferCalls.{buffer_row}
use Rattle.fmp_rules.specs.TimeCalls.{time_row}
use Rattle.fmp_rules.specs.SystemCalls.{system_row}
use Rattle.fmp_rules.specs.SpinCalls.{spin_row, ret_hdr}
use Rattle.fmp_rules.specs.Tick.{ticked}
use Rattle.fmp_rules.specs.Step.{row_of, step, replay, answers}
use Rattle.fmp_rules.specs.Boot.{booted}
use Rattle.fmp_law_safety.specs.Runs.{processor_of, AreOn}
use Rattle.fmp_law_safety.proofs.Calls.{Accepts}
use Rattle.fmp_law_safety.proofs.Listed.{numbered_lists}
use Rattle.fmp_law_safety.proofs.Queues.{Lists}
use Rattle.fmp_law_balance.specs.Accepted.{is_accepted}
use Rattle.fmp_law_balance.specs.Queues.{out_by}
use Rattle.fmp_law_balance.proofs.Called.{refuses, not_accepted, by_called, either_way}
use Rattle.fmp_law_balance.proofs.waits.Events.{by_event}
use Rattle.fmp_law_records.specs.Refusals.Meanings.{object_of}
use Rattle.fmp_law_records.specs.Refusals.Found.{found_reported, takes_value}
use Rattle.fmp_law_records.proofs.Rows.{task_rows, sync_rows, buffer_rows, time_rows, system_rows, spin_rows}
use Rattle.fmp_law_records.proofs.refusals.Answers.{found_after_all}
use Rattle.fmp_law_records.proofs.refusals.Configured.{Configured, object_is}
use Rattle.fmp_law_records.proofs.refusals.Found.{Finds, takes_same}
use Rattle.fmp_law_records.proofs.refusals.Judged.{balance_after_all, configured_after_all}
use Rattle.fmp_law_records.specs.Effects.Losses.{values_reported, oldest, lost_in, lost_reported, IsLossReported}

-- Calls that lose nothing.

module _ {Q : Type 0} (k : Ordering Q) (w : World Q) (p : Proc) where
  abbrev Kept : World Q × Effect → Type 0
  Kept did = did.1.lost ≡ None

  kept_waits : (can : Bool) (did : World Q × Effect) (z : Wait) (timeout : ℤ) → Kept did → Kept (done_or_wait k w p can did z timeout)
  kept_waits can did z timeout kept = cond_both can did _ Kept (λ _. kept) (λ _. cond_both (is_zero timeout) _ _ Kept (λ _. refl) (λ _. refl))

  kept_task : (y : TaskCall) → Kept (task_row k w p y).effect
  unfolding task_rows
  kept_task tasks.SlpTsk = kept_waits _ _ wait.Sleep forever refl
  kept_task (tasks.TslpTsk timeout) = kept_waits _ _ wait.Sleep timeout refl
  kept_task (tasks.WupTsk id) = cond_both (is_sleep (task w (unwrap_or (task_or_caller w p id) (as_task 1))).wait) _ _ Kept (λ _. refl) (λ _. refl)
  kept_task (tasks.IwupTsk id) = cond_both (is_sleep (task w (unwrap_or (task_named w id) (as_task 1))).wait) _ _ Kept (λ _. refl) (λ _. refl)
  kept_task y = refl

  kept_signal : (s : Object) (o : Option Task) → Kept (signal k w s o)
  kept_signal s None = refl
  kept_signal s (Some t) = refl

  abbrev of_list : {X : Type 0} → List X → ℤ → Object
  of_list xs id = unwrap_or (object_named xs id) (as_object 1)

  kept_sync : (y : SyncCall) → Kept (sync_row k w p y).effect
  unfolding sync_rows
  kept_sync (sync.SigSem id) = kept_signal (of_list w.semaphores id) (first (queue k w kind.Semaphore (of_list w.semaphores id)))
  kept_sync (sync.IsigSem id) = kept_signal (of_list w.semaphores id) (first (queue k w kind.Semaphore (of_list w.semaphores id)))
  kept_sync (sync.WaiSem id) = kept_waits _ _ (wait.Semaphore (of_list w.semaphores id)) forever refl
  kept_sync (sync.TwaiSem id timeout) = kept_waits _ _ (wait.Semaphore (of_list w.semaphores id)) timeout refl
  kept_sync (sync.WaiFlg id bits m) = kept_waits _ _ (wait.Eventflag (of_list w.eventflags id) bits m) forever refl
  kept_sync (sync.TwaiFlg id bits m timeout) = kept_waits _ _ (wait.Eventflag (of_list w.eventflags id) bits m) timeout refl
  kept_sync y = refl

  kept_sent : (d : Object) (v : ℤ) (o : Option Task) → Kept (sent k w d v o)
  kept_sent d v None = refl
  kept_sent d v (Some t) = refl

  kept_received : (d : Object) (o : Option Task) → Kept (received k w d o)
  kept_received d None = refl
  kept_received d (Some t) = refl

  kept_returned : (m : Object) (b : ℕ) (o : Option Task) → Kept (returned k w m b o)
  kept_returned m b None = refl
  kept_returned m b (Some t) = refl

  kept_time : (y : TimeCall) → Kept (time_row w y).effect
  unfolding time_rows
  kept_time (time.StaCyc id) = refl
  kept_time y = refl

  kept_system : (y : SystemCall) → Kept (system_row k w p y).effect
  unfolding system_rows
  kept_system system.GetTid = refl
  kept_system y = refl

  kept_spin : (y : SpinCall) → Kept (spin_row w p y).effect
  unfolding spin_rows
  kept_spin (spin.LocSpn id) = cond_both (is_some (holder w (of_list w.holders id))) _ _ Kept (λ _. refl) (λ _. refl)
  kept_spin (spin.IlocSpn id) = cond_both (is_some (holder w (of_list w.holders id))) _ _ Kept (λ _. refl) (λ _. refl)
  kept_spin y = refl

  kept_called : (row : Row Q) → Kept row.effect → Kept (called w p row)
  kept_called row kept = either_way w p Kept row (λ _. refl) kept

-- Sends by force.

pub first_is : (vs : List ℤ) → first vs ≡ oldest vs
first_is [] = refl
first_is (v ∷ vs) = refl

module _ {Q : Type 0} (k : Ordering Q) (c : Setup) (records : List Record) (w : World Q) (l : Lists k w) (h : Configured c w) (found : Finds c (found_reported c records) w)
    (kept : (d : Object) → values w d ≡ values_reported records d) (p : Proc) where
  abbrev d_of : ℤ → Object
  d_of id = of_list k w p w.data_queues id

  -- an accepted send by force to a queue
  abbrev Forces : Object → World Q × Effect → Type 0
  Forces d did = did.1.lost ≡ lost_in c records d did.1.answer

  sent_keeps : (d : Object) (v : ℤ) (o : Option Task) → takes_value c (found_reported c records) d ≡ true → Forces d (sent k w d v o)
  sent_keeps d v None takes = rw takes refl
  sent_keeps d v (Some t) takes = rw takes refl

  force_loses : (d : Object) (v : ℤ) → Forces d (if can_send k w d then sent k w d v (receiver k w d) else forced w d v)
  force_loses d v =
      let same : can_send k w d ≡ takes_value c (found_reported c records) d = takes_same k c (found_reported c records) w l h found d in
      cond_both (can_send k w d) _ _ (Forces d) (λ yes_. sent_keeps d v (receiver k w d) (sym same ∙ yes_))
      (λ no_.
      ap first (kept d) ∙ first_is (values_reported records d)
      ∙ sym (cond-true (not (takes_value c (found_reported c records) d)) (oldest (values_reported records d)) None (ap not (sym same ∙ no_))))

  forced_call : (row : Row Q) (id v : ℤ) →
      ((o : World Q × Effect → Type 0) → ((code : Code) → refuses code ≡ true → o (w, refused code)) → (Accepts w p row → o row.effect) → o (called w p row)) →
      (row.known ≡ true → is_some (object_named w.data_queues id) ≡ true) →
      row.effect ≡ (if can_send k w (d_of id) then sent k w (d_of id) v (receiver k w (d_of id)) else forced w (d_of id) v) → Forces (object_of id) (called w p row)
  forced_call row id v by known is =
      by (Forces (object_of id))
      (λ code refuses_. sym (cond-false (is_accepted (refused code).answer && not (takes_value c (found_reported c records) (object_of id)))
      (oldest (values_reported records (object_of id))) None
      (ap (λ b. b && not (takes_value c (found_reported c records) (object_of id))) (not_accepted code refuses_))))
      (λ accepted.
      let d : d_of id ≡ object_of id = object_is w.data_queues id (known accepted.known) in
      rw is (rw d (force_loses (object_of id) v)))

  -- Each call.

  abbrev Loses : Call → Type 0
  Loses y = (called w p (row_of k w p y)).1.lost ≡ lost_reported c records (called w p (row_of k w p y)).1.answer (event.Call p y)

  loses_buffer : (y : BufferCall) → Loses (call.Buffer y)
  unfolding buffer_rows
  loses_buffer (buffer.SndDtq id v) = kept_called k w p (buffer_row k w p (buffer.SndDtq id v))
      (kept_waits k w p _ _ (wait.Send (d_of id) v) forever (kept_sent k w p (d_of id) v (receiver k w (d_of id))))
  loses_buffer (buffer.TsndDtq id v timeout) =
      kept_called k w p (buffer_row k w p (buffer.TsndDtq id v timeout))
      (kept_waits k w p _ _ (wait.Send (d_of id) v) timeout (kept_sent k w p (d_of id) v (receiver k w (d_of id))))
  loses_buffer (buffer.PsndDtq id v) = kept_called k w p (buffer_row k w p (buffer.PsndDtq id v)) (kept_sent k w p (d_of id) v (receiver k w (d_of id)))
  loses_buffer (buffer.IpsndDtq id v) = kept_called k w p (buffer_row k w p (buffer.IpsndDtq id v)) (kept_sent k w p (d_of id) v (receiver k w (d_of id)))
  loses_buffer (buffer.FsndDtq id v) =
      forced_call (buffer_row k w p (buffer.FsndDtq id v)) id v (λ P. by_called w p P (buffer_row k w p (buffer.FsndDtq id v)) (refl, tt)) (λ known. known) refl
  loses_buffer (buffer.IfsndDtq id v) =
      forced_call (buffer_row k w p (buffer.IfsndDtq id v)) id v (λ P. by_called w p P (buffer_row k w p (buffer.IfsndDtq id v)) (refl, tt)) (λ known. known) refl
  loses_buffer (buffer.RcvDtq id) =
      kept_called k w p (buffer_row k w p (buffer.RcvDtq id))
      (kept_waits k w p _ _ (wait.Receive (d_of id)) forever (kept_received k w p (d_of id) (sender k w (d_of id))))
  loses_buffer (buffer.TrcvDtq id timeout) =
      kept_called k w p (buffer_row k w p (buffer.TrcvDtq id timeout))
      (kept_waits k w p _ _ (wait.Receive (d_of id)) timeout (kept_received k w p (d_of id) (sender k w (d_of id))))
  loses_buffer (buffer.PrcvDtq id) = kept_called k w p (buffer_row k w p (buffer.PrcvDtq id)) (kept_received k w p (d_of id) (sender k w (d_of id)))
  loses_buffer (buffer.GetMpf id) = kept_called k w p (buffer_row k w p (buffer.GetMpf id)) (kept_waits k w p _ _ (wait.Pool (of_list k w p w.pools id)) forever refl)
  loses_buffer (buffer.TgetMpf id timeout) =
      kept_called k w p (buffer_row k w p (buffer.TgetMpf id timeout)) (kept_waits k w p _ _ (wait.Pool (of_list k w p w.pools id)) timeout refl)
  loses_buffer (buffer.PgetMpf id) = kept_called k w p (buffer_row k w p (buffer.PgetMpf id)) refl
  loses_buffer (buffer.RelMpf id b) =
      let m : Object = of_list k w p w.pools id in
      kept_called k w p (buffer_row k w p (buffer.RelMpf id b)) (kept_returned k w p m (block_of b) (first (queue k w kind.Pool m)))

  loses_call : (y : Call) → Loses y
  unfolding ret_hdr
  loses_call (call.Task y) = kept_called k w p (task_row k w p y) (kept_task k w p y)
  loses_call (call.Sync y) = kept_called k w p (sync_row k w p y) (kept_sync k w p y)
  loses_call (call.Buffer y) = loses_buffer y
  loses_call (call.Time y) = kept_called k w p (time_row w y) (kept_time k w p y)
  loses_call (call.System y) = kept_called k w p (system_row k w p y) (kept_system k w p y)
  loses_call (call.Spin y) = kept_called k w p (spin_row w p y) (kept_spin k w p y)
  loses_call call.RetHdr = kept_called k w p (ret_hdr w p) refl

-- an event that is not accepted loses nothing
none_lost : (c : Setup) (records : List Record) (a : Answer) (p : Proc) (y : Call) → is_accepted a ≡ false → None ≡ lost_reported c records a (event.Call p y)
none_lost c records a p (call.Buffer (buffer.FsndDtq id v)) none = rw none refl
none_lost c records a p (call.Buffer (buffer.IfsndDtq id v)) none = rw none refl
none_lost c records a p y none = refl

-- the values that are told are those of the machine
pub values_after_all : (c : Setup) (events : List Event) → IsValid c → AreOn c.processors events → (d : Object) →
    values (replay numbered (booted c) events) d ≡ values_reported (answers numbered (booted c) events) d
values_after_all c events valid on d =
    let m : State = replay numbered (booted c) events in
    let records : List Record = answers numbered (booted c) events in
    sym (ap (drop (length (flat_map (out_by d) records))) ((balance_after_all c events valid on).data_queues d)
    ∙ drop-append_seam (flat_map (out_by d) records) (values m d))

pub losses_reported : (c : Setup) (events : List Event) → IsValid c → AreOn c.processors events → (e : Event) → (processor_of e).number ≤ c.processors →
    IsLossReported c (answers numbered (booted c) events) (step numbered (replay numbered (booted c) events) e).1
unfolding ticked
losses_reported c events valid on e within =
    let m : State = replay numbered (booted c) events in
    let records : List Record = answers numbered (booted c) events in
    by_event numbered m (λ v r. IsLossReported c records r) (λ v cs r x ps h. h)
    (λ p y. loses_call numbered c records m (numbered_lists m) (configured_after_all c events valid on) (found_after_all c events valid on)
    (values_after_all c events valid on) p y)
    (λ p y. none_lost c records answer.Idle p y refl) (λ p. refl) (λ p. refl) (λ p. refl) (λ p a none. refl) e
