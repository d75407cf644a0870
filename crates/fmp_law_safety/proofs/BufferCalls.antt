-- The calls on data queues and pools keep a state safe, and tell only of what there is.
use Rattle.std.proofs.Common.{◌≡◌, ℕ, ℤ, pos, negsuc, ◌+◌, ◌-◌, ◌<◌, ◌≤◌, ◌==◌, ◌^◌, Bool, true, false, ◌&&◌, ◌||◌, List, [], ◌∷◌, ◌++◌, length, refl, sym, ap, ◌∙◌, arith, lit≤, Option, Some, None, ⊎_elim}
use Rattle.std.specs.Prelude.{All, is_some, is_none, unwrap_or, position, take, not, slice_index_or, nat_lt, nat_le, option_map}
use Rattle.std.proofs.lemmas.Bool.{both_ways, cond_both, and_parts, or_parts, not-false, false≢true, cases_lt, ltb-true, ltb-false, leb-true, eqb-false}
use Rattle.std.proofs.lemmas.List.{length-take, get_or_past, length-append}
use Rattle.std.proofs.lemmas.List.Elements.{All-nil, All-cons, All-tail, All-append}
use Rattle.std.proofs.lemmas.List.Quantifiers.{position-Some}
use Rattle.fmp_codes.specs.Numbers.{as_object}
use Rattle.fmp_codes.specs.Records.{IsWithin, ValueFits}
use Rattle.fmp_codes.specs.declared.numbers.Proc.{Proc}
use Rattle.fmp_codes.specs.declared.numbers.Task.{Task}
use Rattle.fmp_codes.specs.declared.numbers.Object.{Object}
use Rattle.fmp_codes.specs.declared.calls.Call.TheVariants as calls
use Rattle.fmp_codes.specs.declared.calls.BufferCall.{BufferCall}
use Rattle.fmp_codes.specs.declared.calls.BufferCall.TheVariants as call
use Rattle.fmp_codes.specs.declared.codes.Code.TheVariants as code
use Rattle.fmp_codes.specs.declared.records.Answer.TheVariants as answer
use Rattle.fmp_calls.specs.Arguments.{CallInBits}
use Rattle.fmp_rules.specs.Effects.{Effect}
use Rattle.fmp_rules.specs.declared.machine.Pool.{Pool}
use Rattle.fmp_rules.specs.declared.machine.Context.{Context}
use Rattle.fmp_rules.specs.declared.machine.Context.TheVariants as context
use Rattle.fmp_rules.specs.declared.machine.Wait.{Wait}
use Rattle.fmp_rules.specs.declared.machine.Wait.TheVariants as wait
use Rattle.fmp_rules.specs.declared.machine.QueueKind.TheVariants as kind
use Rattle.fmp_rules.specs.World.{World, task, first, rest}
use Rattle.fmp_rules.specs.Objects.{data_queue, values, pool, free_block}
use Rattle.fmp_rules.specs.Ordering.{Ordering, waits_in, queue}
use Rattle.fmp_rules.specs.Tasks.{make_ready}
use Rattle.fmp_rules.specs.Rows.{done, called}
use Rattle.fmp_rules.specs.Arguments.{object_named, forever}
use Rattle.fmp_rules.specs.BufferCalls.{with_values, receiver, sender, can_send, sent, tsnd_dtq, psnd_dtq, forced, fsnd_dtq, can_receive, offered, received, trcv_dtq, prcv_dtq, with_handed, given, tget_mpf, pget_mpf, is_handed, block_of, returned, rel_mpf, buffer_row}
use Rattle.fmp_law_safety.specs.Safe.{IsNumberOf, MayWait, Safe}
use Rattle.fmp_law_safety.specs.Counts.{Counts, IsReleaseOf, HasCounts}
use Rattle.fmp_law_safety.proofs.Items.{item_holds, all_after}
use Rattle.fmp_law_safety.proofs.Rests.{MayBegin}
use Rattle.fmp_law_safety.proofs.RestsObjects.{rests_values, rests_handed}
use Rattle.fmp_law_safety.proofs.Keeps.{Occupied, KeepsOthers, keeps_then, keeps_objects}
use Rattle.fmp_law_safety.proofs.Queues.{Lists, nobody_waits, first_waits, none_there}
use Rattle.fmp_law_safety.proofs.Calls.{from, Accepts, keeps_called, occupied_at}
use Rattle.fmp_law_safety.proofs.KeepsWords.{keeps_make_ready, keeps_done_or_wait}
use Rattle.fmp_law_safety.proofs.Counted.{counts_objects}
use Rattle.fmp_law_safety.proofs.Tells.{Tells, tells_plain, queued_number, counts_ready, tells_first, tells_done_or_wait}

-- an argument that names an object gives the number of one
object_within : {X : Type 0} (xs : List X) (id : ℤ) → is_some (object_named xs id) ≡ true → IsNumberOf xs (unwrap_or (object_named xs id) (as_object 1)).number
object_within xs (pos n) e =
    cond_both (nat_le 1 n && nat_le n (length xs)) (Some n) None (λ (o : Option ℕ). is_some (option_map as_object o) ≡ true → IsNumberOf xs (unwrap_or (option_map as_object o) (as_object 1)).number)
    (λ b _. let both = and_parts (nat_le 1 n) (nat_le n (length xs)) b in let least : 1 ≤ n = leb-true _ _ both.0 in let most : n ≤ length xs = leb-true _ _ both.1 in (omega (arith, least), omega (arith, least, most)))
    (λ _ none. absurd (false≢true none)) e
object_within xs (negsuc n) e = absurd (false≢true e)

length_more : (xs : List ℤ) (v : ℤ) → length (xs ++ v ∷ []) ≡ length xs + 1
length_more xs v = length-append xs (v ∷ [])

length_rest : {X : Type 0} (xs : List X) → length (rest xs) ≡ length xs - 1
length_rest [] = refl
length_rest (x ∷ xs) = omega arith

-- what a sender offers is one value
offers_one : (d : Object) (a : Option Wait) → waits_in kind.Send d a ≡ true → length (offered a) ≡ 1
offers_one d None e = absurd (false≢true e)
offers_one d (Some (wait.Send o v)) e = refl
offers_one d (Some wait.Sleep) e = absurd (false≢true e)
offers_one d (Some wait.Delay) e = absurd (false≢true e)
offers_one d (Some (wait.Semaphore o)) e = absurd (false≢true e)
offers_one d (Some (wait.Eventflag o x m)) e = absurd (false≢true e)
offers_one d (Some (wait.Receive o)) e = absurd (false≢true e)
offers_one d (Some (wait.Pool o)) e = absurd (false≢true e)

empty_without_first : {X : Type 0} (xs : List X) → is_some (first xs) ≡ false → xs ≡ []
empty_without_first [] e = refl
empty_without_first (x ∷ xs) e = absurd (false≢true (sym e))

module _ {Q : Type 0} (w : World Q) (p : Proc) (o : Occupied w p) where
  -- a data queue has other contents: full where somebody waits to send, and empty where somebody waits to receive
  keeps_values : (d : Object) (vs : List ℤ) →
      ((t : Task) → waits_in kind.Send d (task w t).wait ≡ true → length (values w d) ≡ (data_queue w d).capacity → length vs ≡ (data_queue w d).capacity) →
      ((t : Task) → waits_in kind.Receive d (task w t).wait ≡ true → MayWait w (wait.Receive d) → vs ≡ []) →
      (IsNumberOf w.data_queues d.number → length (values w d) ≤ (data_queue w d).capacity → length vs ≤ (data_queue w d).capacity) → KeepsOthers w (with_values w d vs) p
  keeps_values d vs sending receiving range =
      keeps_objects w p w.semaphores w.eventflags (with_values w d vs).contents w.pools w.cyclics w.cyclics_left w.alarms w.alarms_left o (rests_values w d vs sending receiving range)
      (λ r c h. h) (λ a h. h)

  -- a block of a pool is handed out or is free again, where nobody waits
  keeps_handed : (m : Object) (b : ℕ) (handed : Bool) → ((t : Task) → waits_in kind.Pool m (task w t).wait ≡ true → free_block w m ≡ None → ⊥) → KeepsOthers w (with_handed w m b handed) p
  keeps_handed m b handed none =
      keeps_objects w p w.semaphores w.eventflags w.contents (with_handed w m b handed).pools w.cyclics w.cyclics_left w.alarms w.alarms_left o (rests_handed w m b handed none)
      (λ r c h. h) (λ a h. h)

  keeps_given : (m : Object) → is_some (free_block w m) ≡ true → KeepsOthers w (given w m (unwrap_or (free_block w m) 0)).0 p
  keeps_given m free = keeps_handed m (unwrap_or (free_block w m) 0) true (λ t waits e. false≢true (sym (ap is_some e) ∙ free))

module _ {Q : Type 0} (k : Ordering Q) (w : World Q) (l : Lists k w) (p : Proc) (s : Safe k w) (within : IsNumberOf w.processors p.number) where
  occupied : Occupied w p
  occupied = occupied_at w p (s.processors p within)

  module _ (d : Object) where
    keeps_sent : (v : ℤ) (t : Option Task) → receiver k w d ≡ t → (is_some t || nat_lt (length (values w d)) (data_queue w d).capacity) ≡ true → KeepsOthers w (sent k w d v t).0 p
    keeps_sent v None e room =
        let free : length (values w d) < (data_queue w d).capacity = ltb-true _ _ room in
        keeps_values w p occupied d (values w d ++ v ∷ []) (λ t _ full. absurd (omega (arith, free, full)))
        (λ t waits _. absurd (both_ways _ (nobody_waits k w l kind.Receive d (ap is_none e) t) waits)) (λ _ _. omega (arith, free, length_more (values w d) v))
    keeps_sent v (Some t) e room = keeps_make_ready k w p occupied t

    -- where nothing can be sent, nobody waits to receive and the queue is full
    no_receiver : can_send k w d ≡ false → (t : Task) → waits_in kind.Receive d (task w t).wait ≡ false
    no_receiver e = nobody_waits k w l kind.Receive d (none_there _ (or_parts (is_some (receiver k w d)) _ e).0)

    is_full : can_send k w d ≡ false → IsNumberOf w.data_queues d.number → length (values w d) ≡ (data_queue w d).capacity
    is_full e i =
        let most : length (values w d) ≤ (data_queue w d).capacity = s.in_range.contents d i in
        let least : (data_queue w d).capacity ≤ length (values w d) = ltb-false _ _ (or_parts (is_some (receiver k w d)) _ e).1 in
        omega (arith, most, least)

    keeps_forced : (v : ℤ) → can_send k w d ≡ false → ((data_queue w d).capacity == 0) ≡ false → IsNumberOf w.data_queues d.number → KeepsOthers w (forced w d v).0 p
    keeps_forced v e some i =
        let full : length (values w d) ≡ (data_queue w d).capacity = is_full e i in
        let still : length (rest (values w d) ++ v ∷ []) ≡ (data_queue w d).capacity =
        let more = length_more (rest (values w d)) v in let less = length_rest (values w d) in let positive = eqb-false _ _ some in omega (arith, full, more, less, positive) in
        keeps_values w p occupied d (rest (values w d) ++ v ∷ []) (λ t _ _. still) (λ t waits _. absurd (both_ways _ (no_receiver e t) waits)) (λ _ _. omega (arith, still))

    keeps_received : (t : Option Task) → sender k w d ≡ t → KeepsOthers w (received k w d t).0 p
    keeps_received None e =
        keeps_values w p occupied d (rest (values w d)) (λ t waits _. absurd (both_ways _ (nobody_waits k w l kind.Send d (ap is_none e) t) waits))
        (λ t waits may. ap rest may.0) (λ _ most. omega (arith, most, length_rest (values w d)))
    keeps_received (Some t) e =
        let vs : List ℤ = values w d ++ offered (task w t).wait in
        let sends : waits_in kind.Send d (task w t).wait ≡ true = first_waits k w l kind.Send d t e in
        let same : length (rest vs) ≡ length (values w d) =
        let less = length_rest vs in let more = length-append (values w d) (offered (task w t).wait) in let one = offers_one d (task w t).wait sends in omega (arith, less, more, one) in
        keeps_then w p (with_values w d (rest vs)) _ refl
        (keeps_values w p occupied d (rest vs) (λ u _ full. same ∙ full) (λ u _ may. absurd (both_ways _ (may.1 t) sends)) (λ _ most. rw same most))
        (keeps_make_ready k (with_values w d (rest vs)) p (record { held = occupied.held; disabled = occupied.disabled }) t)

    -- where nothing can be received, the queue is empty and nobody waits to send
    nothing_there : can_receive k w d ≡ false → MayBegin w (wait.Receive d)
    nothing_there e =
        let parts = or_parts (is_some (first (values w d))) (is_some (sender k w d)) e in
        ((empty_without_first (values w d) parts.0, nobody_waits k w l kind.Send d (none_there _ parts.1)), tt)

  keeps_snd : (id v timeout : ℤ) → KeepsOthers w (called w p (tsnd_dtq k w p id v timeout)).0 p
  unfolding tsnd_dtq
  keeps_snd id v timeout =
      let d : Object = unwrap_or (object_named w.data_queues id) (as_object 1) in
      keeps_called w p (tsnd_dtq k w p id v timeout) occupied
      (λ a. keeps_done_or_wait k w p s within (can_send k w d) (sent k w d v (receiver k w d)) (wait.Send d v) timeout a.rule a.proper
      (keeps_sent d v (receiver k w d) refl) (λ e. (is_full d e (object_within w.data_queues id a.known), no_receiver d e)))

  keeps_psnd : (c : Context) (id v : ℤ) → KeepsOthers w (called w p (from c (psnd_dtq k w id v))).0 p
  unfolding psnd_dtq
  keeps_psnd c id v =
      let d : Object = unwrap_or (object_named w.data_queues id) (as_object 1) in
      keeps_called w p (from c (psnd_dtq k w id v)) occupied (λ a. keeps_sent d v (receiver k w d) refl (not-false _ a.errors.0))

  keeps_fsnd : (c : Context) (id v : ℤ) → KeepsOthers w (called w p (from c (fsnd_dtq k w id v))).0 p
  unfolding fsnd_dtq
  keeps_fsnd c id v =
      let d : Object = unwrap_or (object_named w.data_queues id) (as_object 1) in
      keeps_called w p (from c (fsnd_dtq k w id v)) occupied
      (λ a. cond_both (can_send k w d) (sent k w d v (receiver k w d)) (forced w d v) (λ (did : World Q × Effect). KeepsOthers w did.0 p) (keeps_sent d v (receiver k w d) refl)
      (λ e. keeps_forced d v e a.errors.0 (object_within w.data_queues id a.known)))

  keeps_rcv : (id timeout : ℤ) → KeepsOthers w (called w p (trcv_dtq k w p id timeout)).0 p
  unfolding trcv_dtq
  keeps_rcv id timeout =
      let d : Object = unwrap_or (object_named w.data_queues id) (as_object 1) in
      keeps_called w p (trcv_dtq k w p id timeout) occupied
      (λ a. keeps_done_or_wait k w p s within (can_receive k w d) (received k w d (sender k w d)) (wait.Receive d) timeout a.rule a.proper
      (λ _. keeps_received d (sender k w d) refl) (nothing_there d))

  keeps_prcv : (id : ℤ) → KeepsOthers w (called w p (prcv_dtq k w id)).0 p
  unfolding prcv_dtq
  keeps_prcv id =
      let d : Object = unwrap_or (object_named w.data_queues id) (as_object 1) in
      keeps_called w p (prcv_dtq k w id) occupied (λ a. keeps_received d (sender k w d) refl)

  keeps_get : (id timeout : ℤ) → KeepsOthers w (called w p (tget_mpf k w p id timeout)).0 p
  unfolding tget_mpf
  keeps_get id timeout =
      let m : Object = unwrap_or (object_named w.pools id) (as_object 1) in
      keeps_called w p (tget_mpf k w p id timeout) occupied
      (λ a. keeps_done_or_wait k w p s within (is_some (free_block w m)) (given w m (unwrap_or (free_block w m) 0)) (wait.Pool m) timeout a.rule a.proper
      (keeps_given w p occupied m) (λ e. (no_block (free_block w m) e, tt)))
    where
      no_block : (b : Option ℕ) → is_some b ≡ false → b ≡ None
      no_block None e = refl
      no_block (Some n) e = absurd (false≢true (sym e))

  keeps_pget : (id : ℤ) → KeepsOthers w (called w p (pget_mpf w id)).0 p
  unfolding pget_mpf
  keeps_pget id =
      let m : Object = unwrap_or (object_named w.pools id) (as_object 1) in
      keeps_called w p (pget_mpf w id) occupied (λ a. keeps_given w p occupied m (some_block (free_block w m) a.errors.0))
    where
      some_block : (b : Option ℕ) → is_none b ≡ false → is_some b ≡ true
      some_block None e = absurd (false≢true (sym e))
      some_block (Some n) e = refl

  keeps_returned : (m : Object) (b : ℕ) (t : Option Task) → first (queue k w kind.Pool m) ≡ t → KeepsOthers w (returned k w m b t).0 p
  keeps_returned m b None e = keeps_handed w p occupied m b false (λ t waits _. both_ways _ (nobody_waits k w l kind.Pool m (ap is_none e) t) waits)
  keeps_returned m b (Some t) e = keeps_make_ready k w p occupied t

  keeps_rel_mpf : (id b : ℤ) → KeepsOthers w (called w p (rel_mpf k w id b)).0 p
  unfolding rel_mpf
  keeps_rel_mpf id b =
      let m : Object = unwrap_or (object_named w.pools id) (as_object 1) in
      keeps_called w p (rel_mpf k w id b) occupied (λ a. keeps_returned m (block_of b) (first (queue k w kind.Pool m)) refl)

  pub keeps_buffer : (c : BufferCall) → KeepsOthers w (called w p (buffer_row k w p c)).0 p
  unfolding psnd_dtq fsnd_dtq
  keeps_buffer (call.SndDtq id v) = keeps_snd id v forever
  keeps_buffer (call.TsndDtq id v timeout) = keeps_snd id v timeout
  keeps_buffer (call.PsndDtq id v) = keeps_psnd context.Task id v
  keeps_buffer (call.IpsndDtq id v) = keeps_psnd context.Handler id v
  keeps_buffer (call.FsndDtq id v) = keeps_fsnd context.Task id v
  keeps_buffer (call.IfsndDtq id v) = keeps_fsnd context.Handler id v
  keeps_buffer (call.RcvDtq id) = keeps_rcv id forever
  keeps_buffer (call.TrcvDtq id timeout) = keeps_rcv id timeout
  keeps_buffer (call.PrcvDtq id) = keeps_prcv id
  keeps_buffer (call.GetMpf id) = keeps_get id forever
  keeps_buffer (call.TgetMpf id timeout) = keeps_get id timeout
  keeps_buffer (call.PgetMpf id) = keeps_pget id
  keeps_buffer (call.RelMpf id b) = keeps_rel_mpf id b

-- ---- what they tell

-- the object that an argument names, where it names one
abbrev the : Option Object → Object
the o = unwrap_or o (as_object 1)

module _ {Q : Type 0} (n : Counts) (w : World Q) (h : HasCounts n w) where
  counts_values : (d : Object) (vs : List ℤ) → All (IsWithin (2 ^ 63)) vs → HasCounts n (with_values w d vs)
  counts_values d vs e =
      counts_objects n w h w.waits_left w.semaphores w.eventflags (with_values w d vs).contents w.pools w.cyclics w.cyclics_left w.alarms w.alarms_left w.due refl h.in_bits.patterns
      (all_after [] w.contents d.number vs (All (IsWithin (2 ^ 63))) (λ _. e) h.in_bits.contents) h.in_bits.blocks refl refl h.due

  counts_handed : (m : Object) (b : ℕ) (handed : Bool) → HasCounts n (with_handed w m b handed)
  counts_handed m b handed =
      counts_objects n w h w.waits_left w.semaphores w.eventflags w.contents (with_handed w m b handed).pools w.cyclics w.cyclics_left w.alarms w.alarms_left w.due refl h.in_bits.patterns h.in_bits.contents
      (all_after _ w.pools m.number _ (λ (y : Pool). y.setup.blocks ≤ 64) (λ e. e) h.in_bits.blocks) refl refl h.due

  values_fit : (d : Object) → All (IsWithin (2 ^ 63)) (values w d)
  values_fit d = item_holds (All (IsWithin (2 ^ 63))) [] w.contents d.number (All-nil (IsWithin (2 ^ 63))) h.in_bits.contents

  few_blocks : (m : Object) → (pool w m).setup.blocks ≤ 64
  few_blocks m = item_holds (λ (y : Pool). y.setup.blocks ≤ 64) _ w.pools m.number (lit≤ tt) h.in_bits.blocks

-- Values and blocks.

rest_fits : (vs : List ℤ) → All (IsWithin (2 ^ 63)) vs → All (IsWithin (2 ^ 63)) (rest vs)
rest_fits [] e = e
rest_fits (v ∷ vs) e = All-tail (IsWithin (2 ^ 63)) v vs e

first_fits : (vs : List ℤ) → All (IsWithin (2 ^ 63)) vs → ValueFits (first vs)
first_fits [] e = tt
first_fits (v ∷ vs) e = e 0 v (omega arith)

oldest_fits : (vs : List ℤ) → All (IsWithin (2 ^ 63)) vs → IsWithin (2 ^ 63) (unwrap_or (first vs) (pos 0))
oldest_fits [] e = omega arith
oldest_fits (v ∷ vs) e = e 0 v (omega arith)

offer_fits : (a : Option Wait) → ((d : Object) (v : ℤ) → a ≡ Some (wait.Send d v) → IsWithin (2 ^ 63) v) → All (IsWithin (2 ^ 63)) (offered a)
offer_fits (Some (wait.Send d v)) e = All-cons (IsWithin (2 ^ 63)) v [] (e d v refl) (All-nil (IsWithin (2 ^ 63)))
offer_fits None e = All-nil (IsWithin (2 ^ 63))
offer_fits (Some wait.Sleep) e = All-nil (IsWithin (2 ^ 63))
offer_fits (Some wait.Delay) e = All-nil (IsWithin (2 ^ 63))
offer_fits (Some (wait.Semaphore s)) e = All-nil (IsWithin (2 ^ 63))
offer_fits (Some (wait.Eventflag f x m)) e = All-nil (IsWithin (2 ^ 63))
offer_fits (Some (wait.Receive d)) e = All-nil (IsWithin (2 ^ 63))
offer_fits (Some (wait.Pool m)) e = All-nil (IsWithin (2 ^ 63))

free_below : (most : ℕ) (handed : List Bool) → most ≤ 64 → unwrap_or (position not (take most handed)) 0 ≤ 64
free_below most handed few = go (position not (take most handed)) refl
  where
    go : (o : Option ℕ) → position not (take most handed) ≡ o → unwrap_or o 0 ≤ 64
    go None e = lit≤ tt
    go (Some b) e = let below = (position-Some not (take most handed) b false e).0 in let taken = length-take most handed in omega (arith, few, below, taken)

is_within : (xs : List Bool) (b : ℕ) → slice_index_or xs b false ≡ true → b < length xs
is_within xs b e = ⊎_elim (λ (i : b < length xs). i) (λ (i : length xs ≤ b). absurd (false≢true (sym (get_or_past xs b false i) ∙ e))) (cases_lt b (length xs))

module _ {Q : Type 0} (k : Ordering Q) (n : Counts) (w : World Q) (h : HasCounts n w) (l : Lists k w) (p : Proc) where
  tells_did : (v : World Q) → HasCounts n v → Tells n (v, done)
  tells_did v i = tells_plain n v (answer.Done code.Accepted None) i tt

  module _ (d : Object) where
    tells_sent : (v : ℤ) → IsWithin (2 ^ 63) v → (t : Option Task) → receiver k w d ≡ t → Tells n (sent k w d v t)
    tells_sent v fits None e =
        tells_did _ (counts_values n w h d (values w d ++ v ∷ []) (All-append (IsWithin (2 ^ 63)) (values w d) (v ∷ []) (values_fit n w h d) (All-cons (IsWithin (2 ^ 63)) v [] fits (All-nil (IsWithin (2 ^ 63))))))
    tells_sent v fits (Some t) e = tells_first n w h k l kind.Receive d t code.Accepted (Some v) e fits

    tells_forced : (v : ℤ) → IsWithin (2 ^ 63) v → Tells n (forced w d v)
    tells_forced v fits = record {
      counts =
          counts_values n w h d (rest (values w d) ++ v ∷ [])
          (All-append (IsWithin (2 ^ 63)) (rest (values w d)) (v ∷ []) (rest_fits (values w d) (values_fit n w h d)) (All-cons (IsWithin (2 ^ 63)) v [] fits (All-nil (IsWithin (2 ^ 63)))));
      answer = tt;
      releases = All-nil (IsReleaseOf n);
      few = lit≤ tt;
      lost = first_fits (values w d) (values_fit n w h d);
    }

    tells_received : (t : Option Task) → sender k w d ≡ t → Tells n (received k w d t)
    tells_received None e =
        tells_plain n _ (answer.Done code.Accepted (Some _)) (counts_values n w h d (rest (values w d)) (rest_fits (values w d) (values_fit n w h d))) (oldest_fits (values w d) (values_fit n w h d))
    tells_received (Some t) e =
        let vs : List ℤ = values w d ++ offered (task w t).wait in
        let fit : All (IsWithin (2 ^ 63)) vs = All-append (IsWithin (2 ^ 63)) (values w d) (offered (task w t).wait) (values_fit n w h d) (offer_fits (task w t).wait (h.in_bits.offers t)) in
        record {
          counts = counts_values n (make_ready k w t) (counts_ready n w h k t) d (rest vs) (rest_fits vs fit);
          answer = oldest_fits vs fit;
          releases = All-cons (IsReleaseOf n) _ [] (queued_number n w h kind.Send d t (first_waits k w l kind.Send d t e), tt) (All-nil (IsReleaseOf n));
          few = lit≤ tt;
          lost = tt;
        }

  tells_tsnd : (id v timeout : ℤ) → IsWithin (2 ^ 63) v → Tells n (tsnd_dtq k w p id v timeout).effect
  unfolding tsnd_dtq
  tells_tsnd id v timeout fits =
      let d : Object = the (object_named w.data_queues id) in
      tells_done_or_wait n w h k p (can_send k w d) (sent k w d v (receiver k w d)) (wait.Send d v) timeout (λ _. tells_sent d v fits (receiver k w d) refl) fits

  tells_fsnd : (id v : ℤ) → IsWithin (2 ^ 63) v → Tells n (fsnd_dtq k w id v).effect
  unfolding fsnd_dtq
  tells_fsnd id v fits =
      let d : Object = the (object_named w.data_queues id) in
      cond_both (can_send k w d) (sent k w d v (receiver k w d)) (forced w d v) (Tells n) (λ _. tells_sent d v fits (receiver k w d) refl) (λ _. tells_forced d v fits)

  tells_trcv : (id timeout : ℤ) → Tells n (trcv_dtq k w p id timeout).effect
  unfolding trcv_dtq
  tells_trcv id timeout =
      let d : Object = the (object_named w.data_queues id) in
      tells_done_or_wait n w h k p (can_receive k w d) (received k w d (sender k w d)) (wait.Receive d) timeout (λ _. tells_received d (sender k w d) refl) tt

  -- ---- pools

  tells_given : (m : Object) → Tells n (given w m (unwrap_or (free_block w m) 0))
  tells_given m =
      let b : ℕ = unwrap_or (free_block w m) 0 in
      let few = few_blocks n w h m in
      let below : b ≤ 64 = free_below (pool w m).setup.blocks (pool w m).handed few in
      tells_plain n _ (answer.Done code.Accepted (Some (pos b))) (counts_handed n w h m b true) (omega (arith, below))

  tells_tget : (id timeout : ℤ) → Tells n (tget_mpf k w p id timeout).effect
  unfolding tget_mpf
  tells_tget id timeout =
      let m : Object = the (object_named w.pools id) in
      tells_done_or_wait n w h k p (is_some (free_block w m)) (given w m (unwrap_or (free_block w m) 0)) (wait.Pool m) timeout (λ _. tells_given m) tt

  tells_returned : (m : Object) (b : ℕ) (t : Option Task) → b ≤ 64 → first (queue k w kind.Pool m) ≡ t → Tells n (returned k w m b t)
  tells_returned m b None below e = tells_did _ (counts_handed n w h m b false)
  tells_returned m b (Some t) below e = tells_first n w h k l kind.Pool m t code.Accepted (Some (pos b)) e (omega (arith, below))

  tells_rel_mpf : (id b : ℤ) → is_handed w (the (object_named w.pools id)) b ≡ true → Tells n (rel_mpf k w id b).effect
  unfolding rel_mpf
  tells_rel_mpf id b e =
      let m : Object = the (object_named w.pools id) in
      tells_returned m (block_of b) (first (queue k w kind.Pool m)) (handed_below m b e) refl
    where
      handed_below : (m : Object) (b : ℤ) → is_handed w m b ≡ true → block_of b ≤ 64
      handed_below m (pos b) e =
          let few = few_blocks n w h m in
          let within = is_within (take (pool w m).setup.blocks (pool w m).handed) b e in
          let most = length-take (pool w m).setup.blocks (pool w m).handed in omega (arith, few, within, most)
      handed_below m (negsuc b) e = lit≤ tt

  pub tells_buffer : (c : BufferCall) → CallInBits (calls.Buffer c) → Accepts w p (buffer_row k w p c) → Tells n (buffer_row k w p c).effect
  unfolding psnd_dtq prcv_dtq pget_mpf rel_mpf
  tells_buffer (call.SndDtq id v) fits a = tells_tsnd id v forever fits.1.0
  tells_buffer (call.TsndDtq id v timeout) fits a = tells_tsnd id v timeout fits.1.0
  tells_buffer (call.PsndDtq id v) fits a = tells_sent (the (object_named w.data_queues id)) v fits.1.0 _ refl
  tells_buffer (call.IpsndDtq id v) fits a = tells_sent (the (object_named w.data_queues id)) v fits.1.0 _ refl
  tells_buffer (call.FsndDtq id v) fits a = tells_fsnd id v fits.1.0
  tells_buffer (call.IfsndDtq id v) fits a = tells_fsnd id v fits.1.0
  tells_buffer (call.RcvDtq id) fits a = tells_trcv id forever
  tells_buffer (call.TrcvDtq id timeout) fits a = tells_trcv id timeout
  tells_buffer (call.PrcvDtq id) fits a = tells_received (the (object_named w.data_queues id)) _ refl
  tells_buffer (call.GetMpf id) fits a = tells_tget id forever
  tells_buffer (call.TgetMpf id timeout) fits a = tells_tget id timeout
  tells_buffer (call.PgetMpf id) fits a = tells_given (the (object_named w.pools id))
  tells_buffer (call.RelMpf id b) fits a = tells_rel_mpf id b a.proper
