-- Calls on data queues, pools, handlers, processors and spin locks that are made in states which agree.
use Rattle.std.proofs.Common.{◌≡◌, ℕ, pos, negsuc, ℤ, ◌+◌, ◌++◌, ◌==◌, Bool, true, false, not, ◌&&◌, ◌||◌, List, [], ◌∷◌, length, take, refl, sym, ap, ◌∙◌, subst, Option, None, Some}
use Rattle.std.specs.Prelude.{is_some, is_none, nat_lt, unwrap_or, option_map, slice_index_or, slice_set, position, if◌then◌else◌, IfSome}
use Rattle.std.specs.List.{list_any}
use Rattle.std.proofs.lemmas.List.{ext_get_or}
use Rattle.fmp_codes.specs.Numbers.{as_object, as_proc}
use Rattle.fmp_codes.specs.declared.numbers.Object.{Object}
use Rattle.fmp_codes.specs.declared.numbers.Proc.{Proc}
use Rattle.fmp_codes.specs.declared.numbers.Task.{Task}
use Rattle.fmp_codes.specs.declared.calls.Call.{Call}
use Rattle.fmp_codes.specs.declared.calls.Call.TheVariants as calls
use Rattle.fmp_codes.specs.declared.calls.BufferCall.{BufferCall}
use Rattle.fmp_codes.specs.declared.calls.BufferCall.TheVariants as buffer
use Rattle.fmp_codes.specs.declared.calls.TimeCall.{TimeCall}
use Rattle.fmp_codes.specs.declared.calls.TimeCall.TheVariants as time
use Rattle.fmp_codes.specs.declared.calls.SystemCall.{SystemCall}
use Rattle.fmp_codes.specs.declared.calls.SystemCall.TheVariants as system
use Rattle.fmp_codes.specs.declared.calls.SpinCall.{SpinCall}
use Rattle.fmp_codes.specs.declared.calls.SpinCall.TheVariants as spin
use Rattle.fmp_codes.specs.declared.codes.Code.{Code}
use Rattle.fmp_codes.specs.declared.codes.Code.TheVariants as code
use Rattle.fmp_codes.specs.declared.records.Answer.TheVariants as answer
use Rattle.fmp_codes.specs.declared.records.Runner.{Runner}
use Rattle.fmp_setup.specs.declared.setup.Class.{Class}
use Rattle.fmp_rules.specs.Effects.{Effect}
use Rattle.fmp_rules.specs.declared.machine.Alarm.{Alarm}
use Rattle.fmp_rules.specs.declared.machine.Cyclic.{Cyclic}
use Rattle.fmp_rules.specs.declared.machine.Pool.{Pool}
use Rattle.fmp_rules.specs.declared.machine.Processor.{Processor}
use Rattle.fmp_rules.specs.declared.machine.QueueKind.TheVariants as kind
use Rattle.fmp_rules.specs.declared.machine.TaskRecord.{TaskRecord}
use Rattle.fmp_rules.specs.declared.machine.Wait.TheVariants as wait
use Rattle.fmp_rules.specs.World.{World, first, rest, handler, is_held, processor, task, item}
use Rattle.fmp_rules.specs.Objects.{no_data_queue, data_queue, values, pool, free_block, cyclic, alarm, holder}
use Rattle.fmp_rules.specs.Ordering.{Ordering, queue}
use Rattle.fmp_rules.specs.Processors.{is_at, unlocked, with_lock, with_dispatching_disabled}
use Rattle.fmp_rules.specs.Tasks.{make_ready, rotate}
use Rattle.fmp_rules.specs.Arguments.{caller, forever, is_priority_or_zero, is_zero, number_within, object_named, priority_or, processor_named, processor_or_initial, ticks_of}
use Rattle.fmp_rules.specs.Rows.{Row, done, done_or_wait, no_errors, on_object, plain, row, with_value}
use Rattle.fmp_rules.specs.BufferCalls.{block_of, buffer_row, can_receive, can_send, forced, fsnd_dtq, given, is_handed, offered, pget_mpf, prcv_dtq, psnd_dtq, received, receiver, rel_mpf, returned, sender, sent, tget_mpf, trcv_dtq, tsnd_dtq, with_handed}
use Rattle.fmp_rules.specs.TimeCalls.{begun, msta_alm, msta_cyc, sta_alm, sta_cyc, stp_alm, stp_cyc, time_row, with_alarm_at, with_alarm_left, with_cyclic_at, with_cyclic_left}
use Rattle.fmp_rules.specs.SystemCalls.{rotation, rotation_in_handler, sense, system_row, truth}
use Rattle.fmp_rules.specs.SpinCalls.{loc_spn, ret_hdr, spin_row, taken, try_spn, unl_spn}
use Rattle.fmp_rules.specs.Step.{row_of}
use Rattle.fmp_law_footprint.specs.Cells.{Cell, OfTask, CountsOf, WaitOf, ReadyOn, LatchOf, DueOn, OfDataQueue, OfPool, OfCyclic, OfAlarm, OfLock, at, there, on, unlatched}
use Rattle.fmp_law_footprint.specs.Shapes.{Frame}
use Rattle.fmp_law_footprint.specs.Named.{data_queue_named, pool_named, cyclic_named, alarm_named, lock_named, rotated}
use Rattle.fmp_law_lists.specs.Reads.{Agree, DoAlike, ReadsCells, Own}
use Rattle.fmp_law_lists.specs.ReadsObjects.{Knows, KnowsQueue, KnowsPool, ReadsBuffer}
use Rattle.fmp_law_lists.specs.ReadsCalls.{ReadsTime, ReadsReady, ReadsSystem, ReadsSpin, ReadsCall}
use Rattle.fmp_law_lists.proofs.Agreeing.{if_alike, agree_contents, agree_pool, agree_cyclic, agree_cyclic_left, agree_alarm, agree_alarm_left, agree_lock, agree_due, agree_processor, agree_freed, place_alike, ready_alike}
use Rattle.fmp_law_lists.proofs.AlikeCalls.{RowsAlike, rows_in_handler, rows_on_object, rows_waiting, processor_same, caller_same, waits_alike, sync_alike}
use Rattle.fmp_law_lists.proofs.AlikeTasks.{rows_at, rows_locked, task_alike}

module _ {Q : Type 0} (Part : Cell → Type 0) (part : Q → (c : Cell) → Part c) (S : Cell → Type 0) (k : Ordering Q) (reads : ReadsCells Part part S k) where
  abbrev Agrees : World Q → World Q → Type 0
  Agrees = Agree Part part S

  abbrev Does : World Q × Effect → World Q × Effect → Type 0
  Does = DoAlike Part part S

  abbrev Rows : Row Q → Row Q → Type 0
  Rows = RowsAlike Part part S

  -- the row of a call whose rule, arguments and errors are the same
  rows_effect : (a b : Row Q) → a.rule ≡ b.rule → a.known ≡ b.known → a.proper ≡ b.proper → a.errors ≡ b.errors → Does a.effect b.effect → Rows a b
  rows_effect a b rule known proper errors effect = record { rule = rule; known = known; proper = proper; errors = errors; effect = effect }

  module _ (v w : World Q) (p : Proc) (own : Own S p) (g : Agrees v w) where
    on_objects : (o u : Option Object) (E : World Q → Object → List (Bool × Code)) (F : World Q → Object → World Q × Effect) → o ≡ u
        → E v (unwrap_or u (as_object 1)) ≡ E w (unwrap_or u (as_object 1)) → Does (F v (unwrap_or u (as_object 1))) (F w (unwrap_or u (as_object 1)))
        → Rows (on_object o (E v) (F v)) (on_object u (E w) (F w))
    on_objects = rows_on_object Part part S v w

    here : unlatched (processor v p) ≡ unlatched (processor w p)
    here = processor_same Part part S v w p own g

    -- Data queues.

    queues_named : (id : ℤ) → object_named v.data_queues id ≡ object_named w.data_queues id
    queues_named id = ap (λ (f : Frame). option_map as_object (number_within (length f.data_queues) id)) g.shape

    module _ (d : Object) (h : KnowsQueue S d) where
      values_same : values v d ≡ values w d
      values_same = g.values (OfDataQueue (there d)) h.0

      receiver_same : receiver k v d ≡ receiver k w d
      receiver_same = ap first (reads.waiters v.order w.order v.tasks w.tasks _ kind.Receive d h.2 g.parts)

      sender_same : sender k v d ≡ sender k w d
      sender_same =
          ap first (reads.waiters v.order w.order v.tasks w.tasks (data_queue v d).order kind.Send d h.1 g.parts
          ∙ ap (λ (f : Frame). k.waiters w.order w.tasks (item no_data_queue f.data_queues d.number).order kind.Send d) g.shape)

      can_send_same : can_send k v d ≡ can_send k w d
      can_send_same = λ i. is_some (receiver_same i) || nat_lt (length (values_same i)) (item no_data_queue (g.shape i).data_queues d.number).capacity

      can_receive_same : can_receive k v d ≡ can_receive k w d
      can_receive_same = λ i. is_some (first (values_same i)) || is_some (sender_same i)

      sent_alike : (x : ℤ) (t : Option Task) → IfSome t (Knows S) → Does (sent k v d x t) (sent k w d x t)
      sent_alike x None n = (agree_contents Part part S v w d _ _ (ap (λ ys. ys ++ x ∷ []) values_same) g, refl)
      sent_alike x (Some t) n = (ready_alike Part part S k reads v w t n g, refl)

      sends : (x : ℤ) → IfSome (receiver k w d) (Knows S) → Does (sent k v d x (receiver k v d)) (sent k w d x (receiver k w d))
      sends x n = subst (λ t. Does (sent k v d x t) (sent k w d x (receiver k w d))) (sym receiver_same) (sent_alike x (receiver k w d) n)

      forces : (x : ℤ) → IfSome (receiver k w d) (Knows S)
          → Does (if can_send k v d then sent k v d x (receiver k v d) else forced v d x) (if can_send k w d then sent k w d x (receiver k w d) else forced w d x)
      forces x n =
          if_alike Does (can_send k v d) (can_send k w d) can_send_same (sends x n)
          (agree_contents Part part S v w d _ _ (ap (λ ys. rest ys ++ x ∷ []) values_same) g, ap (λ ys. record done { lost = first ys }) values_same)

      received_alike : (t : Option Task) → IfSome t (Knows S) → Does (received k v d t) (received k w d t)
      received_alike None n =
          (agree_contents Part part S v w d _ _ (ap rest values_same) g, ap (λ ys. with_value (unwrap_or (first ys) (pos 0))) values_same)
      received_alike (Some t) n =
          let all : values v d ++ offered (task v t).wait ≡ values w d ++ offered (task w t).wait = λ i. values_same i ++ offered (g.values (WaitOf (at t)) n.1 i) in (
            agree_contents Part part S (make_ready k v t) (make_ready k w t) d _ _ (ap rest all) (ready_alike Part part S k reads v w t n g),
            λ i. record (with_value (unwrap_or (first (all i)) (pos 0))) { releases = record { task = t; code = code.Accepted; value = None } ∷ [] },
          )

      receives : IfSome (sender k w d) (Knows S) → Does (received k v d (sender k v d)) (received k w d (sender k w d))
      receives n = subst (λ t. Does (received k v d t) (received k w d (sender k w d))) (sym sender_same) (received_alike (sender k w d) n)

    sending_alike : (id x timeout : ℤ) → KnowsQueue S (data_queue_named w id) → IfSome (receiver k w (data_queue_named w id)) (Knows S) → Knows S (caller w p)
        → Rows (tsnd_dtq k v p id x timeout) (tsnd_dtq k w p id x timeout)
    unfolding tsnd_dtq
    sending_alike id x timeout h n m =
        rows_waiting Part part S timeout _ _
        (on_objects _ _ (λ y d. []) (λ y d. done_or_wait k y p (can_send k y d) (sent k y d x (receiver k y d)) (wait.Send d x) timeout) (queues_named id) refl
        (waits_alike Part part S v w p own g k reads (can_send k v (data_queue_named w id)) (can_send k w (data_queue_named w id))
        (sent k v (data_queue_named w id) x (receiver k v (data_queue_named w id))) (sent k w (data_queue_named w id) x (receiver k w (data_queue_named w id)))
        (wait.Send (data_queue_named w id) x) timeout (can_send_same (data_queue_named w id) h) (sends (data_queue_named w id) h x n) m
        (ap (λ (f : Frame). (item no_data_queue f.data_queues (data_queue_named w id).number).order) g.shape)))

    polled_sending_alike : (id x : ℤ) → KnowsQueue S (data_queue_named w id) → IfSome (receiver k w (data_queue_named w id)) (Knows S)
        → Rows (psnd_dtq k v id x) (psnd_dtq k w id x)
    unfolding psnd_dtq
    polled_sending_alike id x h n =
        on_objects _ _ (λ y d. (not (can_send k y d), code.TimedOut) ∷ []) (λ y d. sent k y d x (receiver k y d)) (queues_named id)
        (ap (λ b. (not b, code.TimedOut) ∷ []) (can_send_same (data_queue_named w id) h))
        (sends (data_queue_named w id) h x n)

    forced_sending_alike : (id x : ℤ) → KnowsQueue S (data_queue_named w id) → IfSome (receiver k w (data_queue_named w id)) (Knows S)
        → Rows (fsnd_dtq k v id x) (fsnd_dtq k w id x)
    unfolding fsnd_dtq
    forced_sending_alike id x h n =
        on_objects _ _ (λ y d. ((data_queue y d).capacity == 0, code.IllegalUse) ∷ []) (λ y d. if can_send k y d then sent k y d x (receiver k y d) else forced y d x)
        (queues_named id)
        (ap (λ (f : Frame). ((item no_data_queue f.data_queues (data_queue_named w id).number).capacity == 0, code.IllegalUse) ∷ []) g.shape)
        (forces (data_queue_named w id) h x n)

    receiving_alike : (id timeout : ℤ) → KnowsQueue S (data_queue_named w id) → IfSome (sender k w (data_queue_named w id)) (Knows S) → Knows S (caller w p)
        → Rows (trcv_dtq k v p id timeout) (trcv_dtq k w p id timeout)
    unfolding trcv_dtq
    receiving_alike id timeout h n m =
        rows_waiting Part part S timeout _ _
        (on_objects _ _ (λ y d. []) (λ y d. done_or_wait k y p (can_receive k y d) (received k y d (sender k y d)) (wait.Receive d) timeout) (queues_named id) refl
        (waits_alike Part part S v w p own g k reads (can_receive k v (data_queue_named w id)) (can_receive k w (data_queue_named w id))
        (received k v (data_queue_named w id) (sender k v (data_queue_named w id))) (received k w (data_queue_named w id) (sender k w (data_queue_named w id)))
        (wait.Receive (data_queue_named w id)) timeout (can_receive_same (data_queue_named w id) h) (receives (data_queue_named w id) h n) m refl))

    polled_receiving_alike : (id : ℤ) → KnowsQueue S (data_queue_named w id) → IfSome (sender k w (data_queue_named w id)) (Knows S)
        → Rows (prcv_dtq k v id) (prcv_dtq k w id)
    unfolding prcv_dtq
    polled_receiving_alike id h n =
        on_objects _ _ (λ y d. (not (can_receive k y d), code.TimedOut) ∷ []) (λ y d. received k y d (sender k y d)) (queues_named id)
        (ap (λ b. (not b, code.TimedOut) ∷ []) (can_receive_same (data_queue_named w id) h)) (receives (data_queue_named w id) h n)

    -- Pools.

    pools_named : (id : ℤ) → object_named v.pools id ≡ object_named w.pools id
    pools_named id = ap (λ (f : Frame). option_map as_object (number_within f.pools id)) g.shape

    pool_same : (m : Object) → KnowsPool S m → pool v m ≡ pool w m
    pool_same m h = g.values (OfPool (there m)) h.0

    block_same : (m : Object) → KnowsPool S m → free_block v m ≡ free_block w m
    block_same m h = ap (λ (x : Pool). position not (take x.setup.blocks x.handed)) (pool_same m h)

    handed_alike : (m : Object) (b c : ℕ) (is : Bool) → b ≡ c → KnowsPool S m → Agrees (with_handed v m b is) (with_handed w m c is)
    handed_alike m b c is e h = agree_pool Part part S v w m _ _ (λ i. record (pool_same m h i) { handed = slice_set (pool_same m h i).handed (e i) is }) g

    gives : (m : Object) → KnowsPool S m → Does (given v m (unwrap_or (free_block v m) 0)) (given w m (unwrap_or (free_block w m) 0))
    gives m h = (handed_alike m _ _ true (ap (λ o. unwrap_or o 0) (block_same m h)) h, ap (λ o. with_value (pos (unwrap_or o 0))) (block_same m h))

    block_alike : (id timeout : ℤ) → KnowsPool S (pool_named w id) → Knows S (caller w p) → Rows (tget_mpf k v p id timeout) (tget_mpf k w p id timeout)
    unfolding tget_mpf
    block_alike id timeout h n =
        rows_waiting Part part S timeout _ _
        (on_objects _ _ (λ y m. []) (λ y m. done_or_wait k y p (is_some (free_block y m)) (given y m (unwrap_or (free_block y m) 0)) (wait.Pool m) timeout)
        (pools_named id) refl
        (waits_alike Part part S v w p own g k reads (is_some (free_block v (pool_named w id))) (is_some (free_block w (pool_named w id)))
        (given v (pool_named w id) (unwrap_or (free_block v (pool_named w id)) 0))
        (given w (pool_named w id) (unwrap_or (free_block w (pool_named w id)) 0)) (wait.Pool (pool_named w id)) timeout (ap is_some (block_same (pool_named w id) h))
        (gives (pool_named w id) h) n
        (ap (λ (x : Pool). x.setup.order) (pool_same (pool_named w id) h))))

    polled_block_alike : (id : ℤ) → KnowsPool S (pool_named w id) → Rows (pget_mpf v id) (pget_mpf w id)
    unfolding pget_mpf
    polled_block_alike id h =
        on_objects _ _ (λ y m. (is_none (free_block y m), code.TimedOut) ∷ []) (λ y m. given y m (unwrap_or (free_block y m) 0)) (pools_named id)
        (ap (λ o. (is_none o, code.TimedOut) ∷ []) (block_same (pool_named w id) h)) (gives (pool_named w id) h)

    returns_alike : (m : Object) (b : ℕ) (t : Option Task) → KnowsPool S m → IfSome t (Knows S) → Does (returned k v m b t) (returned k w m b t)
    returns_alike m b None h n = (handed_alike m b b false refl h, refl)
    returns_alike m b (Some t) h n = (ready_alike Part part S k reads v w t n g, refl)

    first_same : (m : Object) → KnowsPool S m → first (queue k v kind.Pool m) ≡ first (queue k w kind.Pool m)
    first_same m h =
        ap first (reads.waiters v.order w.order v.tasks w.tasks (pool v m).setup.order kind.Pool m h.1 g.parts
        ∙ ap (λ (x : Pool). k.waiters w.order w.tasks x.setup.order kind.Pool m) (pool_same m h))

    is_handed_same : (id b : ℤ) → KnowsPool S (pool_named w id) → is_handed v (pool_named v id) b ≡ is_handed w (pool_named w id) b
    is_handed_same id b h = ap (λ o. is_handed v (unwrap_or o (as_object 1)) b) (pools_named id) ∙ by b
      where
        by : (b : ℤ) → is_handed v (pool_named w id) b ≡ is_handed w (pool_named w id) b
        by (pos b) = ap (λ (x : Pool). slice_index_or (take x.setup.blocks x.handed) b false) (pool_same (pool_named w id) h)
        by (negsuc b) = refl

    block_back_alike : (id b : ℤ) → KnowsPool S (pool_named w id) → IfSome (first (queue k w kind.Pool (pool_named w id))) (Knows S)
        → Rows (rel_mpf k v id b) (rel_mpf k w id b)
    unfolding rel_mpf
    block_back_alike id b h n =
        let a = on_objects _ _ (λ y m. []) (λ y m. returned k y m (block_of b) (first (queue k y kind.Pool m))) (pools_named id) refl
        (subst (λ t. Does (returned k v (pool_named w id) (block_of b) t) (returned k w (pool_named w id) (block_of b) (first (queue k w kind.Pool (pool_named w id)))))
        (sym (first_same (pool_named w id) h))
        (returns_alike (pool_named w id) (block_of b) (first (queue k w kind.Pool (pool_named w id))) h n)) in
        record { rule = a.rule; known = a.known; proper = is_handed_same id b h; errors = a.errors; effect = a.effect }

    pub buffer_alike : (c : BufferCall) → ReadsBuffer k S w p c → Rows (buffer_row k v p c) (buffer_row k w p c)
    buffer_alike (buffer.SndDtq id x) h = sending_alike id x forever h.0.0 h.0.1 h.1
    buffer_alike (buffer.TsndDtq id x timeout) h = sending_alike id x timeout h.0.0 h.0.1 h.1
    buffer_alike (buffer.PsndDtq id x) h = polled_sending_alike id x h.0 h.1
    buffer_alike (buffer.IpsndDtq id x) h = rows_in_handler Part part S _ _ (polled_sending_alike id x h.0 h.1)
    buffer_alike (buffer.FsndDtq id x) h = forced_sending_alike id x h.0 h.1
    buffer_alike (buffer.IfsndDtq id x) h = rows_in_handler Part part S _ _ (forced_sending_alike id x h.0 h.1)
    buffer_alike (buffer.RcvDtq id) h = receiving_alike id forever h.0.0 h.0.1 h.1
    buffer_alike (buffer.TrcvDtq id timeout) h = receiving_alike id timeout h.0.0 h.0.1 h.1
    buffer_alike (buffer.PrcvDtq id) h = polled_receiving_alike id h.0 h.1
    buffer_alike (buffer.GetMpf id) h = block_alike id forever h.0 h.1
    buffer_alike (buffer.TgetMpf id timeout) h = block_alike id timeout h.0 h.1
    buffer_alike (buffer.PgetMpf id) h = polled_block_alike id h
    buffer_alike (buffer.RelMpf id b) h = block_back_alike id b h.0 h.1

    -- Handlers.

    cyclics_named : (id : ℤ) → object_named v.cyclics id ≡ object_named w.cyclics id
    cyclics_named id = ap (λ (f : Frame). option_map as_object (number_within f.cyclics id)) g.shape

    alarms_named : (id : ℤ) → object_named v.alarms id ≡ object_named w.alarms id
    alarms_named id = ap (λ (f : Frame). option_map as_object (number_within f.alarms id)) g.shape

    cyclic_same : (c : Object) → S (OfCyclic (there c)) → cyclic v c ≡ cyclic w c
    cyclic_same c h = ap (λ x. x.0) (g.values (OfCyclic (there c)) h)

    alarm_same : (a : Object) → S (OfAlarm (there a)) → alarm v a ≡ alarm w a
    alarm_same a h = ap (λ x. x.0) (g.values (OfAlarm (there a)) h)

    goal_of : World Q → Class → ℤ → Option Proc
    goal_of x c to = processor_or_initial x c to

    goal_same : (c d : Class) (to : ℤ) → c ≡ d → processor_or_initial v c to ≡ processor_or_initial w d to
    goal_same c d to e = λ i. if is_zero to then Some (e i).initial else option_map as_proc (number_within (g.shape i).processors to)

    cyclic_started_alike : (id : ℤ) → S (OfCyclic (there (cyclic_named w id))) → Rows (sta_cyc v id) (sta_cyc w id)
    unfolding sta_cyc
    cyclic_started_alike id h =
        on_objects _ _ (λ y c. []) (λ y c. (begun y c, done)) (cyclics_named id) refl
        (agree_cyclic_left Part part S v w (cyclic_named w id) _ _ (ap (λ (x : Cyclic). Some (x.setup.phase + 1)) (cyclic_same (cyclic_named w id) h)) g, refl)

    cyclic_stopped_alike : (id : ℤ) → S (OfCyclic (there (cyclic_named w id))) → Rows (stp_cyc v id) (stp_cyc w id)
    unfolding stp_cyc
    cyclic_stopped_alike id h =
        on_objects _ _ (λ y c. []) (λ y c. (with_cyclic_left y c None, done)) (cyclics_named id) refl
        (agree_cyclic_left Part part S v w (cyclic_named w id) _ _ refl g, refl)

    class_of_cyclic : (id : ℤ) → S (OfCyclic (there (cyclic_named w id))) → (cyclic v (cyclic_named v id)).setup.class ≡ (cyclic w (cyclic_named w id)).setup.class
    class_of_cyclic id h =
        ap (λ o. (cyclic v (unwrap_or o (as_object 1))).setup.class) (cyclics_named id) ∙ ap (λ (x : Cyclic). x.setup.class) (cyclic_same (cyclic_named w id) h)

    class_of_alarm : (id : ℤ) → S (OfAlarm (there (alarm_named w id))) → (alarm v (alarm_named v id)).setup.class ≡ (alarm w (alarm_named w id)).setup.class
    class_of_alarm id h =
        ap (λ o. (alarm v (unwrap_or o (as_object 1))).setup.class) (alarms_named id) ∙ ap (λ (x : Alarm). x.setup.class) (alarm_same (alarm_named w id) h)

    begins_at : (c : Object) (to goal : Proc) → to ≡ goal → S (OfCyclic (there c)) → Agrees (begun (with_cyclic_at v c to) c) (begun (with_cyclic_at w c goal) c)
    begins_at c to goal e h =
        let moved =
        agree_cyclic Part part S v w c (record (cyclic v c) { assigned = to }) (record (cyclic w c) { assigned = goal })
        (λ i. record (cyclic_same c h i) { assigned = e i }) g in
        agree_cyclic_left Part part S (with_cyclic_at v c to) (with_cyclic_at w c goal) c _ _
        (ap (λ x. Some (x.0.setup.phase + 1)) (moved.values (OfCyclic (there c)) h)) moved

    cyclic_started_at_alike : (id to : ℤ) → S (OfCyclic (there (cyclic_named w id))) → Rows (msta_cyc v id to) (msta_cyc w id to)
    unfolding msta_cyc
    cyclic_started_at_alike id to h =
        let class = class_of_cyclic id h in
        let goals = goal_same _ _ to class in
        rows_at Part part S _ _ _ _ _ _ class goals
        (rows_effect
        (on_object (object_named v.cyclics id) no_errors
        (λ c. (begun (with_cyclic_at v c (unwrap_or (processor_or_initial v (cyclic v (cyclic_named v id)).setup.class to) (as_proc 1))) c, done)))
        (on_object (object_named w.cyclics id) no_errors
        (λ c. (begun (with_cyclic_at w c (unwrap_or (processor_or_initial w (cyclic w (cyclic_named w id)).setup.class to) (as_proc 1))) c, done)))
        refl (ap is_some (cyclics_named id)) refl refl
        (subst (λ o. Does (
          begun (with_cyclic_at v (unwrap_or o (as_object 1)) (unwrap_or (processor_or_initial v (cyclic v (cyclic_named v id)).setup.class to) (as_proc 1)))
              (unwrap_or o (as_object 1)),
          done,
        ) (
          begun (with_cyclic_at w (cyclic_named w id) (unwrap_or (processor_or_initial w (cyclic w (cyclic_named w id)).setup.class to) (as_proc 1)))
              (cyclic_named w id),
          done,
        )) (sym (cyclics_named id))
        (begins_at (cyclic_named w id) _ _ (ap (λ o. unwrap_or o (as_proc 1)) goals) h, refl)))

    alarm_started_alike : (id n : ℤ) → S (OfAlarm (there (alarm_named w id))) → Rows (sta_alm v id n) (sta_alm w id n)
    unfolding sta_alm
    alarm_started_alike id n h =
        let a =
        on_objects _ _ (λ y a. []) (λ y a. (with_alarm_left y a (ticks_of n), done)) (alarms_named id) refl
        (agree_alarm_left Part part S v w (alarm_named w id) _ _ refl g, refl) in
        record { rule = a.rule; known = a.known; proper = refl; errors = a.errors; effect = a.effect }

    alarm_stopped_alike : (id : ℤ) → S (OfAlarm (there (alarm_named w id))) → Rows (stp_alm v id) (stp_alm w id)
    unfolding stp_alm
    alarm_stopped_alike id h =
        on_objects _ _ (λ y a. []) (λ y a. (with_alarm_left y a None, done)) (alarms_named id) refl
        (agree_alarm_left Part part S v w (alarm_named w id) _ _ refl g, refl)

    left_at : (a : Object) (to goal : Proc) (left : Option ℕ) → to ≡ goal → S (OfAlarm (there a))
        → Agrees (with_alarm_left (with_alarm_at v a to) a left) (with_alarm_left (with_alarm_at w a goal) a left)
    left_at a to goal left e h =
        agree_alarm_left Part part S (with_alarm_at v a to) (with_alarm_at w a goal) a left left refl
        (agree_alarm Part part S v w a (record (alarm v a) { assigned = to }) (record (alarm w a) { assigned = goal })
        (λ i. record (alarm_same a h i) { assigned = e i }) g)

    alarm_started_at_alike : (id n to : ℤ) → S (OfAlarm (there (alarm_named w id))) → Rows (msta_alm v id n to) (msta_alm w id n to)
    unfolding msta_alm
    alarm_started_at_alike id n to h =
        let class = class_of_alarm id h in
        let goals = goal_same _ _ to class in
        rows_at Part part S _ _ _ _ _ _ class goals
        (rows_effect _ _ refl (ap is_some (alarms_named id)) refl refl
        (subst (λ o. Does (
          with_alarm_left (with_alarm_at v (unwrap_or o (as_object 1)) (unwrap_or (processor_or_initial v (alarm v (alarm_named v id)).setup.class to) (as_proc 1)))
              (unwrap_or o (as_object 1)) (ticks_of n),
          done,
        ) (
          with_alarm_left (with_alarm_at w (alarm_named w id) (unwrap_or (processor_or_initial w (alarm w (alarm_named w id)).setup.class to) (as_proc 1)))
              (alarm_named w id) (ticks_of n),
          done,
        )) (sym (alarms_named id))
        (left_at (alarm_named w id) _ _ (ticks_of n) (ap (λ o. unwrap_or o (as_proc 1)) goals) h, refl)))

    pub time_alike : (c : TimeCall) → ReadsTime k S w p c → Rows (time_row v c) (time_row w c)
    time_alike (time.StaCyc id) h = cyclic_started_alike id h
    time_alike (time.MstaCyc id to) h = cyclic_started_at_alike id to h
    time_alike (time.StpCyc id) h = cyclic_stopped_alike id h
    time_alike (time.StaAlm id n) h = alarm_started_alike id n h
    time_alike (time.IstaAlm id n) h = rows_in_handler Part part S _ _ (alarm_started_alike id n h)
    time_alike (time.MstaAlm id n to) h = alarm_started_at_alike id n to h
    time_alike (time.ImstaAlm id n to) h = rows_in_handler Part part S _ _ (alarm_started_at_alike id n to h)
    time_alike (time.StpAlm id) h = alarm_stopped_alike id h
    time_alike (time.IstpAlm id) h = rows_in_handler Part part S _ _ (alarm_stopped_alike id h)

    -- Processors.

    plain_row : (d e : World Q × Effect) → Does d e → Rows (row d) (row e)
    plain_row d e h = rows_effect (row d) (row e) refl refl refl refl h

    senses : (a b : Bool) → a ≡ b → Rows (sense v a) (sense w b)
    senses a b e = rows_effect (sense v a) (sense w b) refl refl refl refl (g, ap (λ x. with_value (truth x)) e)

    handlers_same : handler v p ≡ handler w p
    handlers_same = ap first (g.values (DueOn (on p)) own.due)

    held_same : is_held v p ≡ is_held w p
    held_same = λ i. is_some (handlers_same i) || (here i).locked || (here i).disabled

    lock_alike : (b : Bool) → Agrees (with_lock v p b) (with_lock w p b)
    lock_alike b =
        agree_processor Part part S v w p (record (processor v p) { locked = b }) (record (processor w p) { locked = b })
        (λ _. ap (λ (c : Processor). record c { locked = b }) here)
        (λ _. g.values (LatchOf (on p)) own.latch) g

    disable_alike : (b : Bool) → Agrees (with_dispatching_disabled v p b) (with_dispatching_disabled w p b)
    disable_alike b =
        agree_processor Part part S v w p (record (processor v p) { disabled = b }) (record (processor w p) { disabled = b })
        (λ _. ap (λ (c : Processor). record c { disabled = b }) here)
        (λ _. g.values (LatchOf (on p)) own.latch) g

    unlocks : ((n : ℕ) → S (OfLock n)) → Rows (system_row k v p system.UnlCpu) (system_row k w p system.UnlCpu)
    unlocks h =
        let all : v.holders ≡ w.holders = ext_get_or None v.holders w.holders (ap (λ (f : Frame). f.holders) g.shape) (λ i below. g.values (OfLock i) (h i)) in
        rows_effect _ _ refl refl refl (ap (λ hs. (list_any (is_at p) hs, code.IllegalUse) ∷ []) all) (lock_alike false, refl)

    rotates : (t : Option Task) → IfSome t (Knows S) → Agrees (rotate k v t) (rotate k w t)
    rotates None h = g
    rotates (Some t) h =
        place_alike Part part S k reads v w t (task v t) (task w t) h
        (record { standing = g.values (OfTask (at t)) h.0; wait = g.values (WaitOf (at t)) h.1; counts = λ c. g.values (CountsOf (at t)) c }) g

    rotated_same : (q : Proc) (n : ℤ) → Knows S (caller w p) → S (ReadyOn (on q)) → rotated k v p q n ≡ rotated k w p q n
    rotated_same q n h ready =
        let priority : priority_or (task v (caller v p)).priority n ≡ priority_or (task w (caller w p)).priority n =
        ap (λ t. priority_or (task v t).priority n) (caller_same Part part S v w p own g) ∙ ap (λ (r : TaskRecord). priority_or r.priority n)
        (g.values (OfTask (at (caller w p))) h.0) in
        ap first (reads.ready v.order w.order v.tasks w.tasks q (priority_or (task v (caller v p)).priority n) ready g.parts ∙ ap (k.ready w.order w.tasks q) priority)

    rotation_alike : (q r : Option Proc) (n : ℤ) → q ≡ r → ReadsReady k S w p (unwrap_or r p) n → Rows (rotation k v p q n) (rotation k w p r n)
    unfolding rotation
    rotation_alike q r n e h =
        let goal : unwrap_or q p ≡ unwrap_or r p = ap (λ o. unwrap_or o p) e in
        rows_effect _ _ refl (ap is_some e) (ap (λ (f : Frame). is_priority_or_zero f.limits n) g.shape) refl
        (subst (λ x. Does (rotate k v (rotated k v p x n), done) (rotate k w (rotated k w p (unwrap_or r p) n), done)) (sym goal)
        (subst (λ t. Does (rotate k v t, done) (rotate k w (rotated k w p (unwrap_or r p) n), done)) (sym (rotated_same (unwrap_or r p) n h.0 h.1))
        (rotates (rotated k w p (unwrap_or r p) n) h.2, refl)))

    rotation_there : (q r : Option Proc) (n : ℤ) → q ≡ r → ReadsReady k S w p (unwrap_or r p) n → Rows (rotation_in_handler k v p q n) (rotation_in_handler k w p r n)
    unfolding rotation_in_handler
    rotation_there q r n e h =
        let a = rotation_alike q r n e h in
        rows_in_handler Part part S _ _
        (rows_effect _ _ a.rule a.known (ap (λ (f : Frame). is_priority_or_zero f.limits n && not (is_zero n)) g.shape) a.errors a.effect)

    processors_named : (q : ℤ) → processor_named v q ≡ processor_named w q
    processors_named q = ap (λ (f : Frame). option_map as_proc (number_within f.processors q)) g.shape

    task_told_alike : Rows (system_row k v p system.GetTid) (system_row k w p system.GetTid)
    task_told_alike = plain_row _ _ (g, ap (λ (c : Processor). with_value (pos (unwrap_or (option_map (λ (t : Task). t.number) c.running) 0))) here)

    pub system_alike : (c : SystemCall) → ReadsSystem k S w p c → Rows (system_row k v p c) (system_row k w p c)
    system_alike (system.RotRdq n) h = rotation_alike (Some p) (Some p) n refl h
    system_alike (system.IrotRdq n) h = rotation_there (Some p) (Some p) n refl h
    system_alike (system.MrotRdq n q) h = rotation_alike _ _ n (processors_named q) h
    system_alike (system.ImrotRdq n q) h = rotation_there _ _ n (processors_named q) h
    system_alike system.GetTid h = task_told_alike
    system_alike system.IgetTid h = rows_in_handler Part part S _ _ task_told_alike
    system_alike system.GetPid h = plain_row _ _ (g, refl)
    system_alike system.IgetPid h = rows_in_handler Part part S _ _ (plain_row _ _ (g, refl))
    system_alike system.LocCpu h = rows_locked Part part S _ _ (plain_row _ _ (lock_alike true, refl))
    system_alike system.IlocCpu h = rows_in_handler Part part S _ _ (rows_locked Part part S _ _ (plain_row _ _ (lock_alike true, refl)))
    system_alike system.UnlCpu h = unlocks h
    system_alike system.IunlCpu h = rows_in_handler Part part S _ _ (unlocks h)
    system_alike system.DisDsp h = plain_row _ _ (disable_alike true, refl)
    system_alike system.EnaDsp h = plain_row _ _ (disable_alike false, refl)
    system_alike system.SnsCtx h = senses _ _ (ap is_some handlers_same)
    system_alike system.SnsLoc h = senses _ _ (ap (λ (c : Processor). c.locked) here)
    system_alike system.SnsDsp h = senses _ _ (ap (λ (c : Processor). c.disabled) here)
    system_alike system.SnsDpn h = senses _ _ held_same

    -- Spin locks.

    locks_named : (id : ℤ) → object_named v.holders id ≡ object_named w.holders id
    locks_named id = ap (λ (f : Frame). option_map as_object (number_within f.holders id)) g.shape

    taken_alike : (l : Object) → Agrees (taken v p l) (taken w p l)
    taken_alike l = agree_lock Part part S (with_lock v p true) (with_lock w p true) l (Some p) (Some p) refl (lock_alike true)

    unlocked_alike : Agrees (unlocked v p) (unlocked w p)
    unlocked_alike = agree_freed Part part S (with_lock v p false) (with_lock w p false) p (lock_alike false)

    locks : (id : ℤ) → S (OfLock (there (lock_named w id))) → Rows (loc_spn v p id) (loc_spn w p id)
    unfolding loc_spn
    locks id h =
        on_objects _ _ (λ y l. []) (λ y l. if is_some (holder y l) then (y, plain answer.Spin) else (taken y p l, done)) (locks_named id) refl
        (if_alike Does (is_some (holder v (lock_named w id))) (is_some (holder w (lock_named w id))) (ap is_some (g.values (OfLock (there (lock_named w id))) h))
        (g, refl) (taken_alike (lock_named w id), refl))

    tries : (id : ℤ) → S (OfLock (there (lock_named w id))) → Rows (try_spn v p id) (try_spn w p id)
    unfolding try_spn
    tries id h =
        on_objects _ _ (λ y l. (is_some (holder y l), code.ObjectState) ∷ []) (λ y l. (taken y p l, done)) (locks_named id)
        (ap (λ o. (is_some o, code.ObjectState) ∷ []) (g.values (OfLock (there (lock_named w id))) h)) (taken_alike (lock_named w id), refl)

    frees : (id : ℤ) → S (OfLock (there (lock_named w id))) → Rows (unl_spn v p id) (unl_spn w p id)
    unfolding unl_spn
    frees id h =
        rows_locked Part part S _ _ (on_objects _ _ (λ y l. (not (is_at p (holder y l)), code.IllegalUse) ∷ []) (λ y l. (unlocked y p, done)) (locks_named id)
        (ap (λ o. (not (is_at p o), code.IllegalUse) ∷ []) (g.values (OfLock (there (lock_named w id))) h)) (unlocked_alike, refl))

    pub spin_alike : (c : SpinCall) → ReadsSpin k S w p c → Rows (spin_row v p c) (spin_row w p c)
    spin_alike (spin.LocSpn id) h = locks id h
    spin_alike (spin.IlocSpn id) h = rows_in_handler Part part S _ _ (locks id h)
    spin_alike (spin.TrySpn id) h = tries id h
    spin_alike (spin.ItrySpn id) h = rows_in_handler Part part S _ _ (tries id h)
    spin_alike (spin.UnlSpn id) h = frees id h
    spin_alike (spin.IunlSpn id) h = rows_in_handler Part part S _ _ (frees id h)

    pub return_alike : Rows (ret_hdr v p) (ret_hdr w p)
    unfolding ret_hdr
    return_alike =
        rows_in_handler Part part S _ _ (rows_locked Part part S _ _ (plain_row _ _ (
          agree_due Part part S (unlocked v p) (unlocked w p) p _ _ (ap (λ (hs : List Runner). rest hs) (unlocked_alike.values (DueOn (on p)) own.due)) unlocked_alike,
          refl,
        )))

    pub row_alike : (c : Call) → ReadsCall k S w p c → Rows (row_of k v p c) (row_of k w p c)
    row_alike (calls.Task c) h = task_alike Part part S k reads v w p own g c h
    row_alike (calls.Sync c) h = sync_alike Part part S k reads v w p own g c h
    row_alike (calls.Buffer c) h = buffer_alike c h
    row_alike (calls.Time c) h = time_alike c h
    row_alike (calls.System c) h = system_alike c h
    row_alike (calls.Spin c) h = spin_alike c h
    row_alike calls.RetHdr h = return_alike
