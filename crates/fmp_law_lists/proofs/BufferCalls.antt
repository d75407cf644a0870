-- The calls on data queues and pools do the same on lists and on numbers. What a data queue contains is in no order of tasks.
use Rattle.std.proofs.Common.{ℕ, ℤ, ◌≤◌, ◌||◌, not, Bool, true, false, [], ◌∷◌, ◌++◌, length, refl, ap, Option, Some, None}
use Rattle.std.specs.Prelude.{if◌then◌else◌, is_some, nat_lt, unwrap_or}
use Rattle.fmp_codes.specs.Numbers.{as_object}
use Rattle.fmp_codes.specs.declared.numbers.Proc.{Proc}
use Rattle.fmp_codes.specs.declared.numbers.Task.{Task}
use Rattle.fmp_codes.specs.declared.numbers.Object.{Object}
use Rattle.fmp_codes.specs.declared.calls.BufferCall.{BufferCall}
use Rattle.fmp_codes.specs.declared.calls.BufferCall.TheVariants as call
use Rattle.fmp_codes.specs.declared.codes.Code.TheVariants as code
use Rattle.fmp_rules.specs.declared.machine.Context.{Context}
use Rattle.fmp_rules.specs.declared.machine.Context.TheVariants as context
use Rattle.fmp_rules.specs.declared.machine.Wait.TheVariants as wait
use Rattle.fmp_rules.specs.declared.machine.QueueKind.TheVariants as kind
use Rattle.fmp_rules.specs.World.{World, task, first, rest}
use Rattle.fmp_rules.specs.Objects.{data_queue, values, free_block}
use Rattle.fmp_rules.specs.Arrivals.{State, numbered}
use Rattle.fmp_rules.specs.Tasks.{make_ready}
use Rattle.fmp_rules.specs.Arguments.{object_named, forever}
use Rattle.fmp_rules.specs.Rows.{called, done, done_or_wait}
use Rattle.fmp_rules.specs.BufferCalls.{with_values, sent, tsnd_dtq, psnd_dtq, forced, fsnd_dtq, offered, received, trcv_dtq, prcv_dtq, with_handed, given, tget_mpf, pget_mpf, block_of, returned, rel_mpf, buffer_row}
use Rattle.fmp_law_safety.specs.Safe.{IsNumberOf, Safe}
use Rattle.fmp_law_safety.proofs.Calls.{from}
use Rattle.fmp_kernel_order.specs.Queues.{Queues, listed}
use Rattle.fmp_law_lists.specs.Stands.{with_order, AreListsOf, Matches}
use Rattle.fmp_law_lists.proofs.Words.{by_tests}
use Rattle.fmp_law_lists.proofs.Matching.{matches, released, called_matches}
use Rattle.fmp_law_lists.proofs.ObjectValues.{keeps_handed}
use Rattle.fmp_law_lists.proofs.Waiting.{object_within, same_queue, by_first, same_checks, in_place, does_or_waits}
use Rattle.fmp_law_lists.proofs.Releases.{freed}

module _ (m : State) (q : Queues) (s : AreListsOf q m) where
  abbrev w : World Queues
  w = with_order m q

  module _ (d : Object) where
    -- a place is free, or by its first receiver something can be sent
    abbrev may_send : Option Task → Bool
    may_send r = is_some r || nat_lt (length (values m d)) (data_queue m d).capacity

    abbrev may_receive : Option Task → Bool
    may_receive t = is_some (first (values m d)) || is_some t

    sends_last : (v : ℤ) → Matches (sent listed w d v None) (sent numbered m d v None)
    sends_last v = matches (with_values m d (values m d ++ v ∷ [])) q s done

    sends_to : (v : ℤ) (t : Task) → t.number ≤ length m.tasks → Matches (sent listed w d v (Some t)) (sent numbered m d v (Some t))
    sends_to v t within = released m q s t within code.Accepted (Some v)

    forces : (v : ℤ) → Matches (forced w d v) (forced m d v)
    forces v = matches (with_values m d (rest (values m d) ++ v ∷ [])) q s _

    receives_first : Matches (received listed w d None) (received numbered m d None)
    receives_first = matches (with_values m d (rest (values m d))) q s _

    receives_from : (t : Task) → t.number ≤ length m.tasks → Matches (received listed w d (Some t)) (received numbered m d (Some t))
    receives_from t within =
        matches (with_values (make_ready numbered m t) d (rest (values m d ++ offered (task m t).wait))) (make_ready listed w t).order (freed m q s t within) _

  gives : (i : Object) (b : ℕ) → Matches (given w i b) (given m i b)
  gives i b = matches (with_handed m i b true) q (keeps_handed m q s i b true) _

  module _ (safe : Safe numbered m) (p : Proc) (there : IsNumberOf m.processors p.number) where
    -- Data queues.

    snd : (id v timeout : ℤ) → Matches (called w p (tsnd_dtq listed w p id v timeout)) (called m p (tsnd_dtq numbered m p id v timeout))
    unfolding tsnd_dtq
    snd id v timeout =
        let d : Object = unwrap_or (object_named m.data_queues id) (as_object 1) in
        called_matches m q s p (tsnd_dtq listed w p id v timeout) (tsnd_dtq numbered m p id v timeout) refl
        (λ a.
        let known = in_place m kind.Send d (object_within m.data_queues id a.known) in
        by_first m q s kind.Receive d
        (λ r. done_or_wait listed w p (may_send d r) (sent listed w d v r) (wait.Send d v) timeout) (λ r. done_or_wait numbered m p (may_send d r) (sent numbered m d v r) (wait.Send d v) timeout)
        (does_or_waits m q s safe p there a.rule (may_send d None) _ _ (wait.Send d v) timeout known (sends_last d v))
        (λ t within. does_or_waits m q s safe p there a.rule (may_send d (Some t)) _ _ (wait.Send d v) timeout known (sends_to d v t within)))

    psnd : (c : Context) (id v : ℤ) → Matches (called w p (from c (psnd_dtq listed w id v))) (called m p (from c (psnd_dtq numbered m id v)))
    unfolding psnd_dtq
    psnd c id v =
        let d : Object = unwrap_or (object_named m.data_queues id) (as_object 1) in
        called_matches m q s p (from c (psnd_dtq listed w id v)) (from c (psnd_dtq numbered m id v))
        (same_checks m q s p (from c (psnd_dtq listed w id v)) (from c (psnd_dtq numbered m id v)) refl refl refl
        (ap (λ ts. (not (may_send d (first ts)), code.TimedOut) ∷ []) (same_queue m q s kind.Receive d)))
        (λ a. by_first m q s kind.Receive d (sent listed w d v) (sent numbered m d v) (sends_last d v) (sends_to d v))

    fsnd : (c : Context) (id v : ℤ) → Matches (called w p (from c (fsnd_dtq listed w id v))) (called m p (from c (fsnd_dtq numbered m id v)))
    unfolding fsnd_dtq
    fsnd c id v =
        let d : Object = unwrap_or (object_named m.data_queues id) (as_object 1) in
        called_matches m q s p (from c (fsnd_dtq listed w id v)) (from c (fsnd_dtq numbered m id v)) refl
        (λ a. by_first m q s kind.Receive d
        (λ r. if may_send d r then sent listed w d v r else forced w d v) (λ r. if may_send d r then sent numbered m d v r else forced m d v)
        (by_tests Matches (may_send d None) _ _ _ _ (λ _. sends_last d v) (λ _. forces d v))
        (λ t within. sends_to d v t within))

    rcv : (id timeout : ℤ) → Matches (called w p (trcv_dtq listed w p id timeout)) (called m p (trcv_dtq numbered m p id timeout))
    unfolding trcv_dtq
    rcv id timeout =
        let d : Object = unwrap_or (object_named m.data_queues id) (as_object 1) in
        called_matches m q s p (trcv_dtq listed w p id timeout) (trcv_dtq numbered m p id timeout) refl
        (λ a.
        let known = in_place m kind.Receive d (object_within m.data_queues id a.known) in
        by_first m q s kind.Send d
        (λ t. done_or_wait listed w p (may_receive d t) (received listed w d t) (wait.Receive d) timeout) (λ t. done_or_wait numbered m p (may_receive d t) (received numbered m d t) (wait.Receive d) timeout)
        (does_or_waits m q s safe p there a.rule (may_receive d None) _ _ (wait.Receive d) timeout known (receives_first d))
        (λ t within. does_or_waits m q s safe p there a.rule (may_receive d (Some t)) _ _ (wait.Receive d) timeout known (receives_from d t within)))

    prcv : (id : ℤ) → Matches (called w p (prcv_dtq listed w id)) (called m p (prcv_dtq numbered m id))
    unfolding prcv_dtq
    prcv id =
        let d : Object = unwrap_or (object_named m.data_queues id) (as_object 1) in
        called_matches m q s p (prcv_dtq listed w id) (prcv_dtq numbered m id)
        (same_checks m q s p (prcv_dtq listed w id) (prcv_dtq numbered m id) refl refl refl
        (ap (λ ts. (not (may_receive d (first ts)), code.TimedOut) ∷ []) (same_queue m q s kind.Send d)))
        (λ a. by_first m q s kind.Send d (received listed w d) (received numbered m d) (receives_first d) (receives_from d))

    -- Pools.

    get : (id timeout : ℤ) → Matches (called w p (tget_mpf listed w p id timeout)) (called m p (tget_mpf numbered m p id timeout))
    unfolding tget_mpf
    get id timeout =
        let i : Object = unwrap_or (object_named m.pools id) (as_object 1) in
        let b : ℕ = unwrap_or (free_block m i) 0 in
        called_matches m q s p (tget_mpf listed w p id timeout) (tget_mpf numbered m p id timeout) refl
        (λ a. does_or_waits m q s safe p there a.rule (is_some (free_block m i)) (given w i b) (given m i b) (wait.Pool i) timeout
        (in_place m kind.Pool i (object_within m.pools id a.known)) (gives i b))

    pget : (id : ℤ) → Matches (called w p (pget_mpf w id)) (called m p (pget_mpf m id))
    unfolding pget_mpf
    pget id =
        let i : Object = unwrap_or (object_named m.pools id) (as_object 1) in
        called_matches m q s p (pget_mpf w id) (pget_mpf m id) refl (λ a. gives i (unwrap_or (free_block m i) 0))

    rel : (id b : ℤ) → Matches (called w p (rel_mpf listed w id b)) (called m p (rel_mpf numbered m id b))
    unfolding rel_mpf
    rel id b =
        let i : Object = unwrap_or (object_named m.pools id) (as_object 1) in
        called_matches m q s p (rel_mpf listed w id b) (rel_mpf numbered m id b) refl
        (λ a. by_first m q s kind.Pool i (returned listed w i (block_of b)) (returned numbered m i (block_of b))
        (matches (with_handed m i (block_of b) false) q (keeps_handed m q s i (block_of b) false) done) (λ t within. released m q s t within code.Accepted _))

    pub buffer_matches : (c : BufferCall) → Matches (called w p (buffer_row listed w p c)) (called m p (buffer_row numbered m p c))
    unfolding psnd_dtq fsnd_dtq
    buffer_matches (call.SndDtq id v) = snd id v forever
    buffer_matches (call.TsndDtq id v timeout) = snd id v timeout
    buffer_matches (call.PsndDtq id v) = psnd context.Task id v
    buffer_matches (call.IpsndDtq id v) = psnd context.Handler id v
    buffer_matches (call.FsndDtq id v) = fsnd context.Task id v
    buffer_matches (call.IfsndDtq id v) = fsnd context.Handler id v
    buffer_matches (call.RcvDtq id) = rcv id forever
    buffer_matches (call.TrcvDtq id timeout) = rcv id timeout
    buffer_matches (call.PrcvDtq id) = prcv id
    buffer_matches (call.GetMpf id) = get id forever
    buffer_matches (call.TgetMpf id timeout) = get id timeout
    buffer_matches (call.PgetMpf id) = pget id
    buffer_matches (call.RelMpf id b) = rel id b
