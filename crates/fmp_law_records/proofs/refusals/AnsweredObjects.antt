-- What a call on objects and on the processor answers is what is told.
use Rattle.std.proofs.Common.{◌≡◌, ◌≤◌, ◌<◌, ◌==◌, ℕ, ℤ, pos, negsuc, Bool, true, false, not, ◌&&◌, List, [], ◌∷◌, length, arith, refl, sym, ap, ◌∙◌, Option, Some, None, ⊎_elim}
use Rattle.std.specs.Prelude.{if◌then◌else◌, is_some, is_none, nat_le, nat_lt, unwrap_or, option_map, take}
use Rattle.std.proofs.lemmas.Bool.{cond_both, cond-true, cases_lt, lt-ltb, le-ltb}
use Rattle.std.proofs.lemmas.List.{get_or-take, get_or_past, length-take}
use Rattle.fmp_codes.specs.Numbers.{as_object, as_proc, task_number}
use Rattle.fmp_codes.specs.declared.numbers.Proc.{Proc}
use Rattle.fmp_codes.specs.declared.numbers.Task.{Task}
use Rattle.fmp_codes.specs.declared.numbers.Object.{Object}
use Rattle.fmp_codes.specs.declared.calls.Mode.{Mode}
use Rattle.fmp_codes.specs.declared.calls.Call.{Call}
use Rattle.fmp_codes.specs.declared.calls.Call.TheVariants as call
use Rattle.fmp_codes.specs.declared.calls.SyncCall.{SyncCall}
use Rattle.fmp_codes.specs.declared.calls.SyncCall.TheVariants as sync
use Rattle.fmp_codes.specs.declared.calls.BufferCall.{BufferCall}
use Rattle.fmp_codes.specs.declared.calls.BufferCall.TheVariants as buffer
use Rattle.fmp_codes.specs.declared.calls.TimeCall.{TimeCall}
use Rattle.fmp_codes.specs.declared.calls.TimeCall.TheVariants as time
use Rattle.fmp_codes.specs.declared.calls.SystemCall.{SystemCall}
use Rattle.fmp_codes.specs.declared.calls.SystemCall.TheVariants as system
use Rattle.fmp_codes.specs.declared.calls.SpinCall.{SpinCall}
use Rattle.fmp_codes.specs.declared.calls.SpinCall.TheVariants as spin
use Rattle.fmp_codes.specs.declared.codes.Code.TheVariants as code
use Rattle.fmp_codes.specs.declared.records.Answer.{Answer}
use Rattle.fmp_codes.specs.declared.records.Answer.TheVariants as answer
use Rattle.fmp_codes.specs.declared.records.Record.{Record}
use Rattle.fmp_setup.specs.declared.setup.SemaphoreSetup.{SemaphoreSetup}
use Rattle.fmp_setup.specs.declared.setup.PoolSetup.{PoolSetup}
use Rattle.fmp_setup.specs.declared.setup.CyclicSetup.{CyclicSetup}
use Rattle.fmp_setup.specs.declared.setup.AlarmSetup.{AlarmSetup}
use Rattle.fmp_setup.specs.Setup.{Setup}
use Rattle.fmp_rules.specs.Effects.{Effect}
use Rattle.fmp_rules.specs.declared.machine.Wait.{Wait}
use Rattle.fmp_rules.specs.declared.machine.Wait.TheVariants as wait
use Rattle.fmp_rules.specs.declared.machine.QueueKind.TheVariants as kind
use Rattle.fmp_rules.specs.World.{World, processor, handler, runner_of, first}
use Rattle.fmp_rules.specs.Objects.{semaphore, eventflag, data_queue, holds, pool, free_block, holder, cyclic, alarm}
use Rattle.fmp_rules.specs.Ordering.{Ordering, queue}
use Rattle.fmp_rules.specs.Rows.{Row, done_or_wait}
use Rattle.fmp_rules.specs.Arguments.{forever, object_named}
use Rattle.fmp_rules.specs.Processors.{is_at, holds_lock as machine_holds}
use Rattle.fmp_rules.specs.SyncCalls.{is_taken, signal, counted, answered, sig_sem, twai_sem, twai_flg, sync_row}
use Rattle.fmp_rules.specs.BufferCalls.{receiver, sender, can_send, sent, can_receive, received, given, returned, block_of, is_handed, tsnd_dtq, psnd_dtq, fsnd_dtq}
use Rattle.fmp_rules.specs.BufferCalls.{trcv_dtq, tget_mpf, buffer_row}
use Rattle.fmp_rules.specs.TimeCalls.{time_row}
use Rattle.fmp_rules.specs.SystemCalls.{truth, system_row}
use Rattle.fmp_rules.specs.SpinCalls.{loc_spn, spin_row}
use Rattle.fmp_rules.specs.Step.{row_of}
use Rattle.fmp_law_safety.proofs.Calls.{FromTask}
use Rattle.fmp_law_balance.specs.Accepted.{accepted_value}
use Rattle.fmp_law_records.proofs.Rows.{rows, sync_rows, buffer_rows, time_rows, system_rows, spin_rows}
use Rattle.fmp_law_records.specs.Flags.{number_if}
use Rattle.fmp_law_records.specs.Requests.{ProcessorReported}
use Rattle.fmp_law_records.specs.Locks.{is_holder}
use Rattle.fmp_law_records.specs.Refusals.Misplaced.{is_for_handlers, is_for_all}
use Rattle.fmp_law_records.specs.Refusals.Meanings.{is_one_of, is_polling, object_of}
use Rattle.fmp_law_records.specs.Refusals.Arguments.{is_out, pool_setup, is_block_out, cyclic_class, alarm_class}
use Rattle.fmp_law_records.specs.Refusals.Found.{FoundReported, semaphore_setup, data_queue_setup, for_unit, somebody_waits, is_used, has_bits, takes_value, gives_value, has_block, holds_lock}
use Rattle.fmp_law_records.specs.Refusals.Errors.{signal_errors}
use Rattle.fmp_law_records.specs.Refusals.Outcomes.{accepted, gives, or_waits, least_block, refused_or}
use Rattle.fmp_law_records.proofs.refusals.Configured.{Configured, number_known, object_is, semaphores_same, eventflags_same, data_queues_same, pools_same, cyclics_same}
use Rattle.fmp_law_records.proofs.refusals.Configured.{alarms_same, holders_same, priority_is, positive_is, time_same, timeout_same, pool_setup_same, cyclic_setup, alarm_setup}
use Rattle.fmp_law_records.proofs.refusals.Configured.{semaphore_setup as setup_of_semaphore}
use Rattle.fmp_law_records.proofs.refusals.FirstErrors.{Agree, past, next, never, unless}
use Rattle.fmp_law_records.proofs.refusals.Argued.{of_list, of_object, moved}
use Rattle.fmp_law_records.proofs.refusals.Answered.{IsTold, Agrees, not_less, none_is, wait_found, answers_task}
use Rattle.fmp_law_records.proofs.refusals.Found.{for_units, taken_same, bits_same, capacity_is, takes_same, gives_same, least_is, block_free, holder_same, lock_held}

-- What a receive answers is a value, and what a processor is asked is a truth.

value_of : {Q : Type 0} (k : Ordering Q) (w : World Q) (d : Object) (o : Option Task) →
    (received k w d o).1.answer ≡ answer.Done code.Accepted (accepted_value (received k w d o).1.answer)
value_of k w d None = refl
value_of k w d (Some t) = refl

truth_is : {b d : Bool} → b ≡ d → gives (truth b) ≡ gives (number_if d)
truth_is {b = b} same = go b ∙ ap (λ y. gives (number_if y)) same
  where
    go : (b : Bool) → gives (truth b) ≡ gives (number_if b)
    go true = refl
    go false = refl

number_is : (o : Option Task) → gives (pos (unwrap_or (option_map (λ t. t.number) o) 0)) ≡ gives (pos (task_number o))
number_is None = refl
number_is (Some t) = refl

module _ {Q : Type 0} (k : Ordering Q) (c : Setup) (records : List Record) (x : FoundReported) (w : World Q) (p : Proc) (seen : ProcessorReported)
    (running : Option Task) (h : Configured c w) (here : IsTold k c records x w p seen running) where
  abbrev Says : Call → Row Q → Type 0
  Says y row = Agrees k c records x w p seen running h here y row

  abbrev waits : (can can_reported cannot : Bool) (did : World Q × Effect) (z : Wait) (timeout : ℤ) (a : Answer) → can ≡ can_reported → not can ≡ cannot →
      (can ≡ true → did.1.answer ≡ a) →
      (done_or_wait k w p can did z timeout).1.answer ≡ refused_or (if is_polling timeout && cannot then Some code.TimedOut else None) (or_waits can_reported a)
  waits = wait_found k c records x w p seen running h here

  abbrev Names : {X : Type 0} → List X → ℤ → Type 0
  Names xs id = of_list xs id ≡ object_of id

  abbrev IsAccepted : World Q × Effect → Type 0
  IsAccepted did = did.1.answer ≡ accepted

  -- a call that has neither arguments nor errors on the state
  plain_row : {does told : Answer} → does ≡ told →
      Agree does told ((false, code.Identifier) ∷ (false, code.Parameter) ∷ []) ((false, code.Identifier) ∷ (false, code.Parameter) ∷ [])
  plain_row same = never (never (past same))

  and_true : (b : Bool) → (b && true) ≡ b
  and_true true = refl
  and_true false = refl

  -- Semaphores.

  signals : (id : ℤ) → Names w.semaphores id → Agree (sig_sem k w id).effect.1.answer accepted (sig_sem k w id).errors (signal_errors c x p (runner_of w p) id)
  unfolding sync_rows
  signals id is =
      next
      (ap (λ s. is_none (first (queue k w kind.Semaphore s)) && nat_le (semaphore w s).setup.most (semaphore w s).count) is ∙ full_same (object_of id))
      (λ _. past (accepts (of_list w.semaphores id) (first (queue k w kind.Semaphore (of_list w.semaphores id)))))
    where
      accepts : (s : Object) (o : Option Task) → IsAccepted (signal k w s o)
      accepts s None = refl
      accepts s (Some t) = refl

      full_same : (s : Object) → (is_none (first (queue k w kind.Semaphore s)) && nat_le (semaphore w s).setup.most (semaphore w s).count)
          ≡ (not (somebody_waits c x (for_unit s)) && nat_le (semaphore_setup c s).most (x.units s))
      full_same s =
          ap (λ b. b && nat_le (semaphore w s).setup.most (semaphore w s).count)
          (none_is (first (queue k w kind.Semaphore s)) ∙ ap not (for_units k c x w here.lists h here.found s))
          ∙ ap (λ (y : SemaphoreSetup). not (somebody_waits c x (for_unit s)) && nat_le y.most (semaphore w s).count) (setup_of_semaphore c w h s)
          ∙ ap (λ n. not (somebody_waits c x (for_unit s)) && nat_le (semaphore_setup c s).most n) (here.found.units s)

  units_same : (id : ℤ) → Names w.semaphores id → (semaphore w (of_list w.semaphores id)).count ≡ x.units (object_of id)
  units_same id is = ap (λ s. (semaphore w s).count) is ∙ here.found.units (object_of id)

  waits_unit : (id timeout : ℤ) → Names w.semaphores id → (twai_sem k w p id timeout).effect.1.answer
      ≡ refused_or (if is_polling timeout && x.units (object_of id) == 0 then Some code.TimedOut else None)
      (or_waits (nat_lt 0 (x.units (object_of id))) accepted)
  unfolding sync_rows
  waits_unit id timeout is =
      let s : Object = of_list w.semaphores id in
      waits (nat_lt 0 (semaphore w s).count) _ _ (counted w s) (wait.Semaphore s) timeout accepted (ap (nat_lt 0) (units_same id is))
      (not_less (semaphore w s).count ∙ ap (λ n. n == 0) (units_same id is)) (λ _. refl)

  -- Eventflags.

  used_same : (id : ℤ) → Names w.eventflags id → is_taken k w (of_list w.eventflags id) ≡ is_used c x (object_of id)
  used_same id is = ap (is_taken k w) is ∙ taken_same k c x w here.lists h here.found (object_of id)

  has_same : (id : ℤ) (bits : ℕ) (m : Mode) → Names w.eventflags id →
      holds (eventflag w (of_list w.eventflags id)).pattern bits m ≡ has_bits c x (object_of id) bits m
  has_same id bits m is = ap (λ f. holds (eventflag w f).pattern bits m) is ∙ bits_same k c x w here.lists h here.found (object_of id) bits m

  pattern_same : (id : ℤ) → Names w.eventflags id → gives (pos (eventflag w (of_list w.eventflags id)).pattern) ≡ gives (pos (x.pattern (object_of id)))
  pattern_same id is = ap (λ f. gives (pos (eventflag w f).pattern)) is ∙ ap (λ n. gives (pos n)) (here.found.pattern (object_of id))

  waits_bits : (id : ℤ) (bits : ℕ) (m : Mode) (timeout : ℤ) → Names w.eventflags id → (twai_flg k w p id bits m timeout).effect.1.answer
      ≡ refused_or (if is_polling timeout && not (has_bits c x (object_of id) bits m) then Some code.TimedOut else None)
      (or_waits (has_bits c x (object_of id) bits m) (gives (pos (x.pattern (object_of id)))))
  unfolding sync_rows
  waits_bits id bits m timeout is =
      let f : Object = of_list w.eventflags id in
      waits (holds (eventflag w f).pattern bits m) _ _ (answered w f) (wait.Eventflag f bits m) timeout _ (has_same id bits m is)
      (ap not (has_same id bits m is)) (λ _. pattern_same id is)

  answers_sync : (y : SyncCall) → Says (call.Sync y) (sync_row k w p y)
  unfolding sync_rows
  answers_sync (sync.SigSem id) = of_object w.semaphores (semaphores_same c w h) id (λ is. never (signals id is))
  answers_sync (sync.IsigSem id) = of_object w.semaphores (semaphores_same c w h) id (λ is. never (signals id is))
  answers_sync (sync.WaiSem id) = of_object w.semaphores (semaphores_same c w h) id (λ is. never (past (waits_unit id forever is)))
  answers_sync (sync.TwaiSem id timeout) =
      of_object w.semaphores (semaphores_same c w h) id (λ is. unless (timeout_same timeout) (λ _. past (waits_unit id timeout is)))
  answers_sync (sync.PolSem id) = of_object w.semaphores (semaphores_same c w h) id (λ is. never (next (ap (λ n. n == 0) (units_same id is)) (λ _. past refl)))
  answers_sync (sync.SetFlg id bits) = of_object w.eventflags (eventflags_same c w h) id (λ is. never (past refl))
  answers_sync (sync.IsetFlg id bits) = of_object w.eventflags (eventflags_same c w h) id (λ is. never (past refl))
  answers_sync (sync.ClrFlg id bits) = of_object w.eventflags (eventflags_same c w h) id (λ is. never (past refl))
  answers_sync (sync.WaiFlg id bits m) = of_object w.eventflags (eventflags_same c w h) id (λ is.
      unless (and_true (nat_lt 0 bits)) (λ _. next (used_same id is) (λ _. past (waits_bits id bits m forever is))))
  answers_sync (sync.TwaiFlg id bits m timeout) = of_object w.eventflags (eventflags_same c w h) id (λ is.
      unless (ap (λ b. nat_lt 0 bits && b) (timeout_same timeout)) (λ _. next (used_same id is) (λ _. past (waits_bits id bits m timeout is))))
  answers_sync (sync.PolFlg id bits m) = of_object w.eventflags (eventflags_same c w h) id (λ is.
      next refl (λ _. next (used_same id is) (λ _. unless (has_same id bits m is) (λ _. past (pattern_same id is)))))

  -- Data queues.

  accepts_sent : (d : Object) (v : ℤ) (o : Option Task) → IsAccepted (sent k w d v o)
  accepts_sent d v None = refl
  accepts_sent d v (Some t) = refl

  sends_same : (id : ℤ) → Names w.data_queues id → can_send k w (of_list w.data_queues id) ≡ takes_value c x (object_of id)
  sends_same id is = ap (can_send k w) is ∙ takes_same k c x w here.lists h here.found (object_of id)

  receives_same : (id : ℤ) → Names w.data_queues id → can_receive k w (of_list w.data_queues id) ≡ gives_value c x (object_of id)
  receives_same id is = ap (can_receive k w) is ∙ gives_same k c x w here.lists h here.found (object_of id)

  waits_place : (id v timeout : ℤ) → Names w.data_queues id → (tsnd_dtq k w p id v timeout).effect.1.answer
      ≡ refused_or (if is_polling timeout && not (takes_value c x (object_of id)) then Some code.TimedOut else None)
      (or_waits (takes_value c x (object_of id)) accepted)
  unfolding buffer_rows
  waits_place id v timeout is =
      let d : Object = of_list w.data_queues id in
      waits (can_send k w d) _ _ (sent k w d v (receiver k w d)) (wait.Send d v) timeout accepted (sends_same id is) (ap not (sends_same id is))
      (λ _. accepts_sent d v (receiver k w d))

  polls_place : (id v : ℤ) → Names w.data_queues id →
      Agree (psnd_dtq k w id v).effect.1.answer accepted (psnd_dtq k w id v).errors ((not (takes_value c x (object_of id)), code.TimedOut) ∷ [])
  unfolding buffer_rows
  polls_place id v is = unless (sends_same id is) (λ _. let d : Object = of_list w.data_queues id in past (accepts_sent d v (receiver k w d)))

  forces_place : (id v : ℤ) → Names w.data_queues id →
      Agree (fsnd_dtq k w id v).effect.1.answer accepted (fsnd_dtq k w id v).errors (((data_queue_setup c (object_of id)).capacity == 0, code.IllegalUse) ∷ [])
  unfolding buffer_rows
  forces_place id v is =
      let d : Object = of_list w.data_queues id in
      next (ap (λ y. (data_queue w y).capacity == 0) is ∙ ap (λ n. n == 0) (capacity_is k c x w here.lists h here.found (object_of id)))
      (λ _. past (cond_both (can_send k w d) _ _ IsAccepted (λ _. accepts_sent d v (receiver k w d)) (λ _. refl)))

  waits_value : (id timeout : ℤ) → Names w.data_queues id → (trcv_dtq k w p id timeout).effect.1.answer
      ≡ refused_or (if is_polling timeout && not (gives_value c x (object_of id)) then Some code.TimedOut else None)
      (or_waits (gives_value c x (object_of id)) (answer.Done code.Accepted (accepted_value (trcv_dtq k w p id timeout).effect.1.answer)))
  unfolding buffer_rows
  waits_value id timeout is =
      let d : Object = of_list w.data_queues id in
      let did : World Q × Effect = received k w d (sender k w d) in
      waits (can_receive k w d) _ _ did (wait.Receive d) timeout _ (receives_same id is) (ap not (receives_same id is))
      (λ can. value_of k w d (sender k w d)
      ∙ ap (λ y. answer.Done code.Accepted y) (sym (ap (λ (y : World Q × Effect). accepted_value y.1.answer) (cond-true (can_receive k w d) did _ can))))

  -- Pools.

  free_same : (id : ℤ) → Names w.pools id → is_some (free_block w (of_list w.pools id)) ≡ has_block c x (object_of id)
  free_same id is = ap (λ m. is_some (free_block w m)) is ∙ block_free k c x w here.lists h here.found here.blocks (object_of id)

  abbrev block_reported : ℤ → Answer
  block_reported id = gives (least_block c x seen running p (runner_of w p) None (object_of id))

  block_same : (id : ℤ) → Names w.pools id → gives (pos (unwrap_or (free_block w (of_list w.pools id)) 0)) ≡ block_reported id
  block_same id is = ap (λ m. gives (pos (unwrap_or (free_block w m) 0))) is
      ∙ ap (λ o. gives (pos (unwrap_or o 0))) (least_is k c x w here.lists h here.found here.blocks (object_of id))

  waits_block : (id timeout : ℤ) → Names w.pools id → (tget_mpf k w p id timeout).effect.1.answer
      ≡ refused_or (if is_polling timeout && not (has_block c x (object_of id)) then Some code.TimedOut else None)
      (or_waits (has_block c x (object_of id)) (block_reported id))
  unfolding buffer_rows
  waits_block id timeout is =
      let m : Object = of_list w.pools id in
      waits (is_some (free_block w m)) _ _ (given w m (unwrap_or (free_block w m) 0)) (wait.Pool m) timeout _ (free_same id is) (ap not (free_same id is))
      (λ _. block_same id is)

  -- a block of a pool that is out
  handed_same : (m : Object) (b : ℤ) → is_handed w m b ≡ is_block_out c records m b
  handed_same m (negsuc b) = refl
  handed_same m (pos b) =
      let blocks : ℕ = (pool w m).setup.blocks in
      let same : nat_lt b blocks ≡ nat_lt b (pool_setup c m).blocks = ap (λ (y : PoolSetup). nat_lt b y.blocks) (pool_setup_same c w h m) in
      ⊎_elim
      (λ (less : b < blocks). get_or-take blocks (pool w m).handed b false less ∙ here.found.out m b ∙ here.outs m b
      ∙ sym (ap (λ y. y && is_out records m b) (sym same ∙ lt-ltb b blocks less)))
      (λ (more : blocks ≤ b).
      get_or_past (take blocks (pool w m).handed) b false (omega (arith, length-take blocks (pool w m).handed, more))
      ∙ sym (ap (λ y. y && is_out records m b) (sym same ∙ le-ltb b blocks more))) (cases_lt b blocks)

  accepts_returned : (m : Object) (b : ℕ) (o : Option Task) → IsAccepted (returned k w m b o)
  accepts_returned m b None = refl
  accepts_returned m b (Some t) = refl

  answers_buffer : (y : BufferCall) → Says (call.Buffer y) (buffer_row k w p y)
  unfolding buffer_rows
  answers_buffer (buffer.SndDtq id n) = of_object w.data_queues (data_queues_same c w h) id (λ is. never (past (waits_place id n forever is)))
  answers_buffer (buffer.TsndDtq id n timeout) =
      of_object w.data_queues (data_queues_same c w h) id (λ is. unless (timeout_same timeout) (λ _. past (waits_place id n timeout is)))
  answers_buffer (buffer.PsndDtq id n) = of_object w.data_queues (data_queues_same c w h) id (λ is. never (polls_place id n is))
  answers_buffer (buffer.IpsndDtq id n) = of_object w.data_queues (data_queues_same c w h) id (λ is. never (polls_place id n is))
  answers_buffer (buffer.FsndDtq id n) = of_object w.data_queues (data_queues_same c w h) id (λ is. never (forces_place id n is))
  answers_buffer (buffer.IfsndDtq id n) = of_object w.data_queues (data_queues_same c w h) id (λ is. never (forces_place id n is))
  answers_buffer (buffer.RcvDtq id) = of_object w.data_queues (data_queues_same c w h) id (λ is. never (past (waits_value id forever is)))
  answers_buffer (buffer.TrcvDtq id timeout) =
      of_object w.data_queues (data_queues_same c w h) id (λ is. unless (timeout_same timeout) (λ _. past (waits_value id timeout is)))
  answers_buffer (buffer.PrcvDtq id) = of_object w.data_queues (data_queues_same c w h) id (λ is.
      never (unless (receives_same id is) (λ _. let d : Object = of_list w.data_queues id in past (value_of k w d (sender k w d)))))
  answers_buffer (buffer.GetMpf id) = of_object w.pools (pools_same c w h) id (λ is. never (past (waits_block id forever is)))
  answers_buffer (buffer.TgetMpf id timeout) =
      of_object w.pools (pools_same c w h) id (λ is. unless (timeout_same timeout) (λ _. past (waits_block id timeout is)))
  answers_buffer (buffer.PgetMpf id) = of_object w.pools (pools_same c w h) id (λ is.
      never (next (none_is (free_block w (of_list w.pools id)) ∙ ap not (free_same id is)) (λ _. past (block_same id is))))
  answers_buffer (buffer.RelMpf id b) = of_object w.pools (pools_same c w h) id (λ is.
      let m : Object = of_list w.pools id in
      unless (ap (λ y. is_handed w y b) is ∙ handed_same (object_of id) b) (λ _. past (accepts_returned m (block_of b) (first (queue k w kind.Pool m)))))

  -- Time event handlers.

  cyclic_at : (id : ℤ) → is_some (object_named w.cyclics id) ≡ true → (cyclic w (of_list w.cyclics id)).setup.class ≡ cyclic_class c id
  cyclic_at id there = ap (λ o. (cyclic w o).setup.class) (object_is w.cyclics id there) ∙ ap (λ (y : CyclicSetup). y.class) (cyclic_setup c w h (object_of id))

  alarm_at : (id : ℤ) → is_some (object_named w.alarms id) ≡ true → (alarm w (of_list w.alarms id)).setup.class ≡ alarm_class c id
  alarm_at id there = ap (λ o. (alarm w o).setup.class) (object_is w.alarms id there) ∙ ap (λ (y : AlarmSetup). y.class) (alarm_setup c w h (object_of id))

  alarm_known : (id : ℤ) → is_some (object_named w.alarms id) ≡ is_one_of (length c.alarms) id
  alarm_known id = number_known as_object (length w.alarms) (length c.alarms) id (alarms_same c w h)

  answers_time : (y : TimeCall) → Says (call.Time y) (time_row w y)
  unfolding time_rows
  answers_time (time.StaCyc id) = of_object w.cyclics (cyclics_same c w h) id (λ is. never (past refl))
  answers_time (time.MstaCyc id to) =
      moved h {first = true} {first_told = true} to (number_known as_object (length w.cyclics) (length c.cyclics) id (cyclics_same c w h)) (cyclic_at id) refl
      (λ there. past refl)
  answers_time (time.StpCyc id) = of_object w.cyclics (cyclics_same c w h) id (λ is. never (past refl))
  answers_time (time.StaAlm id after) = of_object w.alarms (alarms_same c w h) id (λ is. unless (time_same after) (λ _. past refl))
  answers_time (time.IstaAlm id after) = of_object w.alarms (alarms_same c w h) id (λ is. unless (time_same after) (λ _. past refl))
  answers_time (time.MstaAlm id after to) = moved h to (alarm_known id) (alarm_at id) (time_same after) (λ there. past refl)
  answers_time (time.ImstaAlm id after to) = moved h to (alarm_known id) (alarm_at id) (time_same after) (λ there. past refl)
  answers_time (time.StpAlm id) = of_object w.alarms (alarms_same c w h) id (λ is. never (past refl))
  answers_time (time.IstpAlm id) = of_object w.alarms (alarms_same c w h) id (λ is. never (past refl))

  -- The processor and its spin locks.

  caller_number : gives (pos (unwrap_or (option_map (λ t. t.number) (processor w p).running) 0)) ≡ gives (pos (task_number running))
  caller_number = number_is (processor w p).running ∙ ap (λ o. gives (pos (task_number o))) here.runs

  lock_same : machine_holds w p ≡ holds_lock c x p
  lock_same = lock_held k c x w here.lists h here.found here.locks p

  answers_system : (y : SystemCall) → Says (call.System y) (system_row k w p y)
  unfolding system_rows
  answers_system (system.RotRdq n) = never (unless (priority_is c w h n) (λ _. past refl))
  answers_system (system.IrotRdq n) = never (unless (positive_is c w h n) (λ _. past refl))
  answers_system (system.MrotRdq n q) =
      unless (number_known as_proc (length w.processors) c.processors q h.processors) (λ _. unless (priority_is c w h n) (λ _. past refl))
  answers_system (system.ImrotRdq n q) =
      unless (number_known as_proc (length w.processors) c.processors q h.processors) (λ _. unless (positive_is c w h n) (λ _. past refl))
  answers_system system.GetTid = plain_row caller_number
  answers_system system.IgetTid = plain_row caller_number
  answers_system system.UnlCpu = never (never (next lock_same (λ _. past refl)))
  answers_system system.IunlCpu = never (never (next lock_same (λ _. past refl)))
  answers_system system.SnsCtx = plain_row (truth_is (sym here.sees.handler))
  answers_system system.SnsLoc = plain_row (truth_is here.sees.locked)
  answers_system system.SnsDsp = plain_row (truth_is here.sees.disabled)
  answers_system system.SnsDpn = plain_row (truth_is here.sees.held)
  answers_system y = plain_row refl

  held_same : (id : ℤ) → Names w.holders id → is_some (holder w (of_list w.holders id)) ≡ is_some (x.holder (object_of id))
  held_same id is = ap (λ o. is_some (holder w o)) is ∙ ap is_some (here.found.holder (object_of id))

  asks_lock : (id : ℤ) → Names w.holders id → (loc_spn w p id).effect.1.answer ≡ (if is_some (x.holder (object_of id)) then answer.Spin else accepted)
  unfolding spin_rows
  asks_lock id is =
      cond_both (is_some (holder w (of_list w.holders id))) _ _
      (λ (did : World Q × Effect). did.1.answer ≡ (if is_some (holder w (of_list w.holders id)) then answer.Spin else accepted))
      (λ yes_. rw yes_ refl) (λ no_. rw no_ refl)
      ∙ ap (λ b. if b then answer.Spin else accepted) (held_same id is)

  own_same : (id : ℤ) → Names w.holders id → is_at p (holder w (of_list w.holders id)) ≡ is_holder p (x.holder (object_of id))
  own_same id is = ap (λ o. is_at p (holder w o)) is ∙ holder_same k c x w here.lists h here.found p (object_of id)

  answers_spin : (y : SpinCall) → Says (call.Spin y) (spin_row w p y)
  unfolding spin_rows
  answers_spin (spin.LocSpn id) = of_object w.holders (holders_same c w h) id (λ is. never (past (asks_lock id is)))
  answers_spin (spin.IlocSpn id) = of_object w.holders (holders_same c w h) id (λ is. never (past (asks_lock id is)))
  answers_spin (spin.TrySpn id) = of_object w.holders (holders_same c w h) id (λ is. never (next (held_same id is) (λ _. past refl)))
  answers_spin (spin.ItrySpn id) = of_object w.holders (holders_same c w h) id (λ is. never (next (held_same id is) (λ _. past refl)))
  answers_spin (spin.UnlSpn id) = of_object w.holders (holders_same c w h) id (λ is. never (unless (own_same id is) (λ _. past refl)))
  answers_spin (spin.IunlSpn id) = of_object w.holders (holders_same c w h) id (λ is. never (unless (own_same id is) (λ _. past refl)))

  pub answers_call : (y : Call) → (is_for_all y ≡ false → is_for_handlers y ≡ false → FromTask w p) → Says y (row_of k w p y)
  unfolding rows
  answers_call (call.Task y) from = answers_task k c records x w p seen running h here y from
  answers_call (call.Sync y) from = answers_sync y
  answers_call (call.Buffer y) from = answers_buffer y
  answers_call (call.Time y) from = answers_time y
  answers_call (call.System y) from = answers_system y
  answers_call (call.Spin y) from = answers_spin y
  answers_call call.RetHdr from = plain_row refl
