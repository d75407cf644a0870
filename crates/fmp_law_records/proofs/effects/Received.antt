-- Which value each call receives from a data queue is what is told.
use Rattle.std.proofs.Common.{◌≡◌, ◌≤◌, ℤ, pos, Bool, true, false, ◌||◌, ◌&&◌, List, [], ◌∷◌, refl, sym, ap, ◌∙◌, subst, Option, Some, None}
use Rattle.std.specs.Prelude.{◌++◌, is_some, unwrap_or, option_map}
use Rattle.std.specs.Option.{option_or}
use Rattle.std.proofs.lemmas.Bool.{cond_both, false≢true, not-false}
use Rattle.fmp_codes.specs.Numbers.{as_object}
use Rattle.fmp_codes.specs.declared.numbers.Proc.{Proc}
use Rattle.fmp_codes.specs.declared.numbers.Task.{Task}
use Rattle.fmp_codes.specs.declared.numbers.Object.{Object}
use Rattle.fmp_codes.specs.declared.calls.Call.{Call}
use Rattle.fmp_codes.specs.declared.calls.Call.TheVariants as call
use Rattle.fmp_codes.specs.declared.calls.BufferCall.{BufferCall}
use Rattle.fmp_codes.specs.declared.calls.BufferCall.TheVariants as buffer
use Rattle.fmp_codes.specs.declared.records.Event.{Event}
use Rattle.fmp_codes.specs.declared.records.Event.TheVariants as event
use Rattle.fmp_codes.specs.declared.records.Record.{Record}
use Rattle.fmp_setup.specs.Setup.{Setup}
use Rattle.fmp_setup.specs.Valid.{IsValid}
use Rattle.fmp_rules.specs.Effects.{Effect}
use Rattle.fmp_rules.specs.declared.machine.Wait.{Wait}
use Rattle.fmp_rules.specs.declared.machine.Wait.TheVariants as wait
use Rattle.fmp_rules.specs.declared.machine.QueueKind.TheVariants as kind
use Rattle.fmp_rules.specs.World.{task, first}
use Rattle.fmp_rules.specs.Objects.{values}
use Rattle.fmp_rules.specs.Ordering.{is_in, waits_in}
use Rattle.fmp_rules.specs.Arrivals.{State, numbered}
use Rattle.fmp_rules.specs.Arguments.{forever, is_zero, object_named}
use Rattle.fmp_rules.specs.Rows.{Row, called, done_or_wait}
use Rattle.fmp_rules.specs.BufferCalls.{offered, sender, can_receive, received, trcv_dtq, prcv_dtq, buffer_row}
use Rattle.fmp_rules.specs.Tick.{ticked}
use Rattle.fmp_rules.specs.Step.{row_of, step, replay, answers}
use Rattle.fmp_rules.specs.Boot.{booted}
use Rattle.fmp_law_safety.specs.Runs.{processor_of, AreOn}
use Rattle.fmp_law_safety.proofs.Calls.{Accepts}
use Rattle.fmp_law_safety.proofs.Listed.{numbered_lists}
use Rattle.fmp_law_safety.proofs.Queues.{first_waits}
use Rattle.fmp_law_balance.specs.Accepted.{is_accepted, accepted_value}
use Rattle.fmp_law_balance.proofs.Called.{AllRefuse, not_accepted, by_called}
use Rattle.fmp_law_records.proofs.counts.Ready.{ready_after}
use Rattle.fmp_law_balance.specs.Waits.Asked.{OpenWait}
use Rattle.fmp_law_balance.proofs.waits.Events.{by_event}
use Rattle.fmp_law_balance.proofs.Words.{head_same}
use Rattle.fmp_law_records.specs.Served.{Places, is_priority, places_by, places_at_boot}
use Rattle.fmp_law_records.proofs.Places.{ordered_as}
use Rattle.fmp_law_records.specs.Refusals.Meanings.{object_of}
use Rattle.fmp_law_records.specs.Refusals.Found.{to_send}
use Rattle.fmp_law_records.proofs.refusals.Configured.{object_is}
use Rattle.fmp_law_records.specs.Effects.Losses.{values_reported, oldest}
use Rattle.fmp_law_records.specs.Effects.Releases.{next_sender, waiting_reported}
use Rattle.fmp_law_records.specs.Effects.Received.{is_receive, value_of, value_to_send, sent_by, received_from, received_reported, IsReceivedReported}
use Rattle.fmp_law_records.proofs.effects.Losses.{values_after_all}
use Rattle.fmp_law_records.proofs.effects.Queues.{queue_same}
use Rattle.fmp_law_records.proofs.effects.Releases.{send_in}
use Rattle.fmp_law_records.proofs.effects.ReleasesRuns.{waits_after_all, placed_after_all, priorities_after_all}

-- The first of the values, and of those with the one that a sender brings.

first_or : (vs : List ℤ) (o : Option ℤ) → is_some (first vs) ≡ true → Some (unwrap_or (first vs) (pos 0)) ≡ option_or (oldest vs) o
first_or [] o e = absurd (false≢true e)
first_or (v ∷ vs) o e = refl

brought_first : (d : Object) (z : Wait) → is_in kind.Send d z ≡ true → Some (unwrap_or (first (offered (Some z))) (pos 0)) ≡ value_of z
brought_first d (wait.Send e v) is = refl
brought_first d z is = absurd (false≢true is)

first_with : (vs : List ℤ) (d : Object) (o : Option OpenWait) → waits_in kind.Send d (option_map (λ y. y.wait) o) ≡ true →
    Some (unwrap_or (first (vs ++ offered (option_map (λ y. y.wait) o))) (pos 0)) ≡ option_or (oldest vs) (value_to_send o)
first_with (v ∷ vs) d o is = refl
first_with [] d None is = absurd (false≢true is)
first_with [] d (Some o) is = brought_first d o.wait is

either_left : (b : Bool) → (b || false) ≡ true → b ≡ true
either_left true e = refl
either_left false e = e

-- where a call is accepted it answers this value
abbrev Gives : Option ℤ → State × Effect → Type 0
Gives v did = is_accepted did.1.answer ≡ true → accepted_value did.1.answer ≡ v

module _ (c : Setup) (records : List Record) where
  abbrev x : Places
  x = places_by c records (places_at_boot c)

  module _ (m : State) (kept : (d : Object) → values m d ≡ values_reported records d) (waits : (t : Task) → (task m t).wait ≡ option_map (λ y. y.wait) (x.waits t))
      (senders : (d : Object) → sender numbered m d ≡ next_sender c x d) (p : Proc) where
    received_gives : (d : Object) (o : Option Task) → (is_some (first (values m d)) || is_some o) ≡ true →
        ((t : Task) → o ≡ Some t → waits_in kind.Send d (task m t).wait ≡ true) →
        accepted_value (received numbered m d o).1.answer ≡ option_or (oldest (values m d)) (sent_by x o)
    received_gives d None can waiting = first_or (values m d) None (either_left (is_some (first (values m d))) can)
    received_gives d (Some t) can waiting =
        ap (λ z. Some (unwrap_or (first (values m d ++ offered z)) (pos 0))) (waits t)
        ∙ first_with (values m d) d (x.waits t) (ap (waits_in kind.Send d) (sym (waits t)) ∙ waiting t refl)

    from_queue : (d : Object) → can_receive numbered m d ≡ true → Gives (received_from c records d) (received numbered m d (sender numbered m d))
    from_queue d can accepted =
        received_gives d (sender numbered m d) can (first_waits numbered m (numbered_lists m) kind.Send d)
        ∙ ap (λ vs. option_or (oldest vs) (sent_by x (sender numbered m d))) (kept d)
        ∙ ap (λ o. option_or (oldest (values_reported records d)) (sent_by x o)) (senders d)

    at_once : (v : Option ℤ) (can : Bool) (did : State × Effect) (z : Wait) (timeout : ℤ) →
        (can ≡ true → Gives v did) → Gives v (done_or_wait numbered m p can did z timeout)
    at_once v can did z timeout gives =
        cond_both can did _ (Gives v) gives
        (λ _. cond_both (is_zero timeout) _ _ (Gives v) (λ _ none. absurd (false≢true none)) (λ _ none. absurd (false≢true none)))

    abbrev d_of : ℤ → Object
    d_of id = unwrap_or (object_named m.data_queues id) (as_object 1)

    -- an accepted call on the queue of a number
    call_gives : (id : ℤ) (row : Row _) → AllRefuse row.errors → (row.known ≡ true → is_some (object_named m.data_queues id) ≡ true) →
        (Accepts m p row → Gives (received_from c records (d_of id)) row.effect) → Gives (received_from c records (object_of id)) (called m p row)
    call_gives id row codes known gives =
        by_called m p (Gives (received_from c records (object_of id))) row codes
        (λ code refuses_ accepted. absurd (false≢true (sym (not_accepted code refuses_) ∙ accepted)))
        (λ a. subst (λ (d : Object). Gives (received_from c records d) row.effect) (object_is m.data_queues id (known a.known)) (gives a))

    abbrev Receives : Call → Type 0
    Receives y =
        let a = (called m p (row_of numbered m p y)).1.answer in
        is_receive (event.Call p y) && is_accepted a ≡ true → accepted_value a ≡ received_reported c records (event.Call p y)

    receives_buffer : (y : BufferCall) → Receives (call.Buffer y)
    unfolding trcv_dtq prcv_dtq
    receives_buffer (buffer.RcvDtq id) =
        call_gives id (buffer_row numbered m p (buffer.RcvDtq id)) tt (λ known. known)
        (λ a. at_once (received_from c records (d_of id)) (can_receive numbered m (d_of id)) _ (wait.Receive (d_of id)) forever (from_queue (d_of id)))
    receives_buffer (buffer.TrcvDtq id timeout) =
        call_gives id (buffer_row numbered m p (buffer.TrcvDtq id timeout)) tt (λ known. known)
        (λ a. at_once (received_from c records (d_of id)) (can_receive numbered m (d_of id)) _ (wait.Receive (d_of id)) timeout (from_queue (d_of id)))
    receives_buffer (buffer.PrcvDtq id) =
        call_gives id (buffer_row numbered m p (buffer.PrcvDtq id)) (refl, tt) (λ known. known) (λ a. from_queue (d_of id) (not-false _ a.errors.0))
    receives_buffer y = λ none. absurd (false≢true none)

    receives_call : (y : Call) → Receives y
    receives_call (call.Buffer y) = receives_buffer y
    receives_call y = λ none. absurd (false≢true none)

-- an idle processor receives nothing
idle_receives : (c : Setup) (records : List Record) (p : Proc) (y : Call) → is_receive (event.Call p y) && false ≡ true → None ≡ received_reported c records (event.Call p y)
idle_receives c records p y none = absurd (false≢true (sym (never (is_receive (event.Call p y))) ∙ none))
  where
    never : (b : Bool) → (b && false) ≡ false
    never true = refl
    never false = refl

pub received_values_reported : (c : Setup) (events : List Event) → IsValid c → AreOn c.processors events → (e : Event) → (processor_of e).number ≤ c.processors →
    IsReceivedReported c (answers numbered (booted c) events) (step numbered (replay numbered (booted c) events) e).1
unfolding ticked
received_values_reported c events valid on e within =
    let m : State = replay numbered (booted c) events in
    let records : List Record = answers numbered (booted c) events in
    let x : Places = places_by c records (places_at_boot c) in
    let ready = ready_after c valid events on in
    let senders : (d : Object) → sender numbered m d ≡ next_sender c x d = λ d.
    ap first
    (queue_same c m x (placed_after_all c events valid on) (waits_after_all c events valid on) (priorities_after_all c events valid on) ready.tasks ready.sound.few_tasks
    kind.Send d (to_send d) (send_in d))
    ∙ sym (head_same (waiting_reported c x (is_priority (ordered_as c kind.Send d)) (to_send d))) in
    by_event numbered m (λ v r. IsReceivedReported c records r) (λ v cs r y ps h. h)
    (λ p y. receives_call c records m (values_after_all c events valid on) (λ t. (waits_after_all c events valid on t).0.wait) senders p y)
    (λ p y. idle_receives c records p y) (λ p none. absurd (false≢true none)) (λ p none. absurd (false≢true none)) (λ p none. absurd (false≢true none))
    (λ p a no none. absurd (false≢true none)) e
