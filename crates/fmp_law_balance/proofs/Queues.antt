-- Data queues: what was put in is what came out, followed by what is there.
use Rattle.std.proofs.Common.{◌≡◌, ◌≤◌, ◌==◌, ℤ, pos, Bool, true, false, ◌||◌, List, [], ◌∷◌, ◌++◌, length, flat_map, refl, sym, ap, ◌∙◌, arith, Option, Some, None}
use Rattle.std.specs.Prelude.{if◌then◌else◌, is_some, nat_lt, unwrap_or, option_to_list, filter_map}
use Rattle.std.proofs.lemmas.Bool.{cond_both, cond-false, eqb-true, eqb-false, ltb-false, or_parts, not-false, false≢true, true≢false}
use Rattle.std.proofs.lemmas.List.{append-nil}
use Rattle.fmp_codes.specs.Numbers.{as_object}
use Rattle.fmp_codes.specs.declared.numbers.Proc.{Proc}
use Rattle.fmp_codes.specs.declared.numbers.Task.{Task}
use Rattle.fmp_codes.specs.declared.numbers.Object.{Object}
use Rattle.fmp_codes.specs.declared.calls.Call.{Call}
use Rattle.fmp_codes.specs.declared.calls.Call.TheVariants as call
use Rattle.fmp_codes.specs.declared.calls.SyncCall.TheVariants as sync
use Rattle.fmp_codes.specs.declared.calls.BufferCall.{BufferCall}
use Rattle.fmp_codes.specs.declared.calls.BufferCall.TheVariants as buffer
use Rattle.fmp_codes.specs.declared.codes.Code.{Code}
use Rattle.fmp_codes.specs.declared.codes.Code.TheVariants as code
use Rattle.fmp_codes.specs.declared.records.Answer.{Answer}
use Rattle.fmp_codes.specs.declared.records.Answer.TheVariants as answer
use Rattle.fmp_codes.specs.declared.records.Event.{Event}
use Rattle.fmp_codes.specs.declared.records.Event.TheVariants as event
use Rattle.fmp_codes.specs.declared.records.Record.{Record}
use Rattle.fmp_codes.proofs.Same.{objects_same}
use Rattle.fmp_rules.specs.Effects.{Effect}
use Rattle.fmp_rules.specs.declared.machine.QueueKind.{QueueKind}
use Rattle.fmp_rules.specs.declared.machine.QueueKind.TheVariants as kind
use Rattle.fmp_rules.specs.declared.machine.Wait.{Wait}
use Rattle.fmp_rules.specs.declared.machine.Wait.TheVariants as wait
use Rattle.fmp_rules.specs.World.{World, task, first, rest, runner_of}
use Rattle.fmp_rules.specs.Objects.{data_queue, values}
use Rattle.fmp_rules.specs.Ordering.{Ordering, queue, waits_in, begin_wait}
use Rattle.fmp_rules.specs.Tasks.{make_ready}
use Rattle.fmp_rules.specs.Rows.{called, refused, plain, done_or_wait, wait_for, in_handler}
use Rattle.fmp_rules.specs.Arguments.{caller, object_named, is_zero, forever, ticks_of}
use Rattle.fmp_rules.specs.BufferCalls.{with_values, receiver, sender, can_send, sent, forced, can_receive, offered, received, tsnd_dtq, psnd_dtq, fsnd_dtq, trcv_dtq, prcv_dtq, buffer_row}
use Rattle.fmp_rules.specs.Tick.{tick}
use Rattle.fmp_rules.specs.Step.{row_of, step}
use Rattle.fmp_law_safety.specs.Safe.{IsNumberOf, MayWait}
use Rattle.fmp_law_safety.proofs.Items.{item_same, item_other}
use Rattle.fmp_law_balance.specs.Accepted.{is_accepted, accepted_value, names}
use Rattle.fmp_law_balance.specs.Queues.{sends, receives, last_sent, put_by_send, put_by, out_by}
use Rattle.fmp_law_balance.proofs.Objects.{object_known, by_object}
use Rattle.fmp_law_balance.proofs.Called.{refuses, by_called, not_accepted}
use Rattle.fmp_law_balance.proofs.LeavesCalls.{leaves_call}
use Rattle.fmp_law_balance.proofs.Ticks.{leaves_tick}
use Rattle.fmp_law_balance.proofs.Steps.{report, by_step}

-- the first in a queue waits in it
abbrev pub WaitersWait : {Q : Type 0} → Ordering Q → Type 0
WaitersWait {Q} k = (w : World Q) (x : QueueKind) (o : Object) (t : Task) → first (queue k w x o) ≡ Some t → waits_in x o (task w t).wait ≡ true

-- who waits in the queue to receive, and in that to send
pub waits_to_receive : (o : Object) (a : Option Wait) → waits_in kind.Receive o a ≡ true → a ≡ Some (wait.Receive o)
waits_to_receive o (Some (wait.Receive d)) e = ap (λ (x : Object). Some (wait.Receive x)) (objects_same d o (eqb-true d.number o.number e))
waits_to_receive o (Some wait.Sleep) e = absurd (false≢true e)
waits_to_receive o _ e = absurd (false≢true e)

pub waits_to_send : (o : Object) (a : Option Wait) → waits_in kind.Send o a ≡ true → (x : ℤ) × (a ≡ Some (wait.Send o x))
waits_to_send o (Some (wait.Send d x)) e = (x, ap (λ (i : Object). Some (wait.Send i x)) (objects_same d o (eqb-true d.number o.number e)))
waits_to_send o (Some wait.Sleep) e = absurd (false≢true e)
waits_to_send o _ e = absurd (false≢true e)

-- The first of some values, and the others.

first_and_rest : (vs : List ℤ) → is_some (first vs) ≡ true → vs ≡ (unwrap_or (first vs) (pos 0) ∷ []) ++ rest vs
first_and_rest [] e = absurd (false≢true e)
first_and_rest (v ∷ vs) e = refl

first_and_rest_of : (vs : List ℤ) (x : ℤ) → vs ++ x ∷ [] ≡ (unwrap_or (first (vs ++ x ∷ [])) (pos 0) ∷ []) ++ rest (vs ++ x ∷ [])
first_and_rest_of [] x = refl
first_and_rest_of (v ∷ vs) x = refl

first_lost : (vs : List ℤ) (x : ℤ) → 1 ≤ length vs → vs ++ x ∷ [] ≡ (option_to_list (first vs) ++ []) ++ (rest vs ++ x ∷ [])
first_lost [] x e = absurd (omega (arith, e))
first_lost (v ∷ vs) x e = refl

-- nothing is put in by what is not accepted, and nothing comes out
no_put : (v : Option ℤ) (a : Answer) → is_accepted a ≡ false → put_by_send v a ≡ []
no_put None a e = refl
no_put (Some x) a e = cond-false (is_accepted a) (x ∷ []) [] e

no_value : (a : Answer) → is_accepted a ≡ false → option_to_list (accepted_value a) ≡ []
no_value (answer.Done code.Accepted v) e = absurd (true≢false e)
no_value _ e = refl

module _ {Q : Type 0} (earlier : List Record) (w : World Q) (d : Object) where
  -- from w to v, where this is told after those earlier
  abbrev pub Moves : World Q → Record → Type 0
  Moves v r = values w d ++ put_by d earlier r ≡ out_by d r ++ values v d

  -- the contents stay, and nothing is told of the queue
  pub untouched : (v : World Q) → v.contents ≡ w.contents → values w d ++ [] ≡ values v d
  untouched v e = append-nil (values w d) ∙ ap (λ (xs : List (List ℤ)). values (record w { contents = xs }) d) (sym e)

  nothing_moved : (v : World Q) (r : Record) → v.contents ≡ w.contents → is_accepted r.answer ≡ false → Moves v r
  nothing_moved v r same e =
      let none : put_by d earlier r ≡ [] =
      cond_both (receives d r.event) _ _ (λ xs. xs ≡ []) (λ _. cond-false (is_accepted r.answer) (flat_map (λ x. last_sent d x.task earlier) r.releases) [] e)
      (λ _. no_put (sends d r.event) r.answer e) in
      let neither : out_by d r ≡ [] = cond_both (receives d r.event) _ _ (λ xs. xs ≡ []) (λ _. no_value r.answer e)
      (λ _. cond_both (is_some (sends d r.event)) _ _ (λ xs. xs ≡ []) (λ _. cond-false (is_accepted r.answer) (option_to_list r.lost ++ filter_map (λ y. y.value) r.releases) [] e) (λ _. refl)) in
      rw (none, neither) (untouched v same)

-- what is so before an event
pub record Before {Q : Type 0} (earlier : List Record) (w : World Q) : Type 0 where
  pub waits : (t : Task) (x : Wait) → (task w t).wait ≡ Some x → MayWait w x
  pub count : length w.contents ≡ length w.data_queues
  pub few : length w.data_queues ≤ 32
  pub sent : (d : Object) (t : Task) (x : ℤ) → (task w t).wait ≡ Some (wait.Send d x) → last_sent d t earlier ≡ x ∷ []

module _ {Q : Type 0} (k : Ordering Q) (wait_there : WaitersWait k) (earlier : List Record) (w : World Q) (b : Before earlier w) (p : Proc) (o : Object)
    (within : IsNumberOf w.data_queues o.number) where
  values_here : (v : World Q) (vs : List ℤ) → v.contents ≡ w.contents → values (with_values v o vs) o ≡ vs
  values_here v vs e =
      let most : o.number ≤ length v.contents = rw (e, b.count) within.1 in
      item_same [] v.contents o.number vs within.0 most

  values_there : (v : World Q) (d : Object) (vs : List ℤ) → v.contents ≡ w.contents → (o.number ≡ d.number → ⊥) → values w d ++ [] ≡ values (with_values v o vs) d
  values_there v d vs e n =
      append-nil (values w d) ∙ ap (λ (xs : List (List ℤ)). values (record w { contents = xs }) d) (sym e)
      ∙ sym (item_other [] v.contents o.number vs d.number d.least o.least (λ i. n (sym i)))

  -- what a send of x does, to this queue or to another
  abbrev Send : ℤ → World Q × Effect → Object → Bool → Type 0
  Send x did d same =
      values w d ++ put_by_send (if same then Some x else None) did.1.answer
      ≡ (if is_some (if◌then◌else◌ {A = Option ℤ} same (Some x) None) then (if is_accepted did.1.answer then option_to_list did.1.lost ++ filter_map (λ y. y.value) did.1.releases else []) else [])
      ++ values did.0 d

  -- where somebody waits to receive, the queue is empty
  empty : (t : Task) → receiver k w o ≡ Some t → values w o ≡ []
  empty t e = (b.waits t (wait.Receive o) (waits_to_receive o (task w t).wait (wait_there w kind.Receive o t e))).0

  sent_law : (x : ℤ) (t : Option Task) → receiver k w o ≡ t → (d : Object) → Send x (sent k w o x t) d (o.number == d.number)
  sent_law x None e d =
      by_object (Send x (sent k w o x None)) o d (sym (values_here w (values w o ++ x ∷ []) refl)) (λ n. values_there w d (values w o ++ x ∷ []) refl n)
  sent_law x (Some t) e d =
      by_object (Send x (sent k w o x (Some t))) o d (rw (empty t e) refl) (λ n. append-nil (values w d))

  forced_law : (x : ℤ) → ((data_queue w o).capacity == 0) ≡ false → can_send k w o ≡ false → (d : Object) → Send x (forced w o x) d (o.number == d.number)
  forced_law x some full d =
      let parts = or_parts (is_some (receiver k w o)) (nat_lt (length (values w o)) (data_queue w o).capacity) full in
      let most : (data_queue w o).capacity ≤ length (values w o) = ltb-false (length (values w o)) (data_queue w o).capacity parts.1 in
      let least : 1 ≤ length (values w o) = omega (arith, most, eqb-false (data_queue w o).capacity 0 some) in
      by_object (Send x (forced w o x)) o d (rw (values_here w (rest (values w o) ++ x ∷ []) refl) (first_lost (values w o) x least))
      (λ n. values_there w d (rest (values w o) ++ x ∷ []) refl n)

  -- what a call does that receives, from this queue or from another
  abbrev Receive : World Q × Effect → Object → Bool → Type 0
  Receive did d same =
      values w d ++ (if same then (if is_accepted did.1.answer then flat_map (λ x. last_sent d x.task earlier) did.1.releases else []) else [])
      ≡ (if same then option_to_list (accepted_value did.1.answer) else []) ++ values did.0 d

  received_law : can_receive k w o ≡ true → (t : Option Task) → sender k w o ≡ t → (d : Object) → Receive (received k w o t) d (o.number == d.number)
  received_law can None e d =
      let some : is_some (first (values w o)) ≡ true = first_there (is_some (first (values w o))) (sender k w o) e can in
      by_object (Receive (received k w o None)) o d (append-nil (values w o) ∙ rw (values_here w (rest (values w o)) refl) (first_and_rest (values w o) some))
      (λ n. values_there w d (rest (values w o)) refl n)
    where
      first_there : (c : Bool) (s : Option Task) → s ≡ None → (c || is_some s) ≡ true → c ≡ true
      first_there true s i h = refl
      first_there false s i h = absurd (false≢true (sym (ap is_some i) ∙ h))
  received_law can (Some t) e d =
      let waits = waits_to_send o (task w t).wait (wait_there w kind.Send o t e) in
      let vs : List ℤ = values w o ++ offered (task w t).wait in
      let is : vs ≡ values w o ++ waits.0 ∷ [] = ap (λ (a : Option Wait). values w o ++ offered a) waits.1 in
      by_object (Receive (received k w o (Some t))) o d
      (rw (b.sent o t waits.0 waits.1, values_here (make_ready k w t) (rest vs) refl, is) (first_and_rest_of (values w o) waits.0))
      (λ n. values_there (make_ready k w t) d (rest vs) refl n)

module _ {Q : Type 0} (k : Ordering Q) (wait_there : WaitersWait k) (earlier : List Record) (w : World Q) (b : Before earlier w) (p : Proc) (d : Object) where
  abbrev named_by : ℤ → Object
  named_by id = unwrap_or (object_named w.data_queues id) (as_object 1)

  abbrev CallMoves : Call → World Q × Effect → Type 0
  CallMoves c did = Moves earlier w d did.0 (report (event.Call p c) (runner_of w p) did.1)

  refused_moves : (c : Call) (x : Code) → refuses x ≡ true → CallMoves c (w, refused x)
  refused_moves c x e = nothing_moved earlier w d w (report (event.Call p c) (runner_of w p) (refused x)) refl (not_accepted x e)

  -- a wait begins, or the timeout was 0
  wait_moves : (c : Call) (t : Task) (x : Wait) (timeout : ℤ) → CallMoves c (wait_for k w t x timeout)
  wait_moves c t x timeout =
      cond_both (is_zero timeout) _ _ (CallMoves c) (λ _. refused_moves c code.TimedOut refl)
      (λ _. nothing_moved earlier w d (begin_wait k w t x (ticks_of timeout)) (report (event.Call p c) (runner_of w p) (plain answer.Wait)) refl refl)

  abbrev SendBy : ℤ → ℤ → World Q × Effect → Type 0
  SendBy id x did =
      values w d ++ put_by_send (if names d id then Some x else None) did.1.answer
      ≡ (if is_some (if◌then◌else◌ {A = Option ℤ} (names d id) (Some x) None) then (if is_accepted did.1.answer then option_to_list did.1.lost ++ filter_map (λ y. y.value) did.1.releases else []) else [])
      ++ values did.0 d

  abbrev ReceiveBy : ℤ → World Q × Effect → Type 0
  ReceiveBy id did =
      values w d ++ (if names d id then (if is_accepted did.1.answer then flat_map (λ x. last_sent d x.task earlier) did.1.releases else []) else [])
      ≡ (if names d id then option_to_list (accepted_value did.1.answer) else []) ++ values did.0 d

  sends_law : (id x : ℤ) → is_some (object_named w.data_queues id) ≡ true → SendBy id x (sent k w (named_by id) x (receiver k w (named_by id)))
  sends_law id x known =
      let o = object_known w.data_queues id b.few known in
      rw (o.names d) (sent_law k wait_there earlier w b p (named_by id) o.within x (receiver k w (named_by id)) refl d)

  forces_law : (id x : ℤ) → is_some (object_named w.data_queues id) ≡ true → ((data_queue w (named_by id)).capacity == 0) ≡ false →
      SendBy id x (if can_send k w (named_by id) then sent k w (named_by id) x (receiver k w (named_by id)) else forced w (named_by id) x)
  forces_law id x known some =
      let o = object_known w.data_queues id b.few known in
      cond_both (can_send k w (named_by id)) _ _ (SendBy id x) (λ _. sends_law id x known)
      (λ full. rw (o.names d) (forced_law k wait_there earlier w b p (named_by id) o.within x some full d))

  receives_law : (id : ℤ) → is_some (object_named w.data_queues id) ≡ true → can_receive k w (named_by id) ≡ true →
      ReceiveBy id (received k w (named_by id) (sender k w (named_by id)))
  receives_law id known can =
      let o = object_known w.data_queues id b.few known in
      rw (o.names d) (received_law k wait_there earlier w b p (named_by id) o.within can (sender k w (named_by id)) refl d)

  -- by the names of the calls

  moves_send : (id x timeout : ℤ) (c : Call) → (SendBy id x (sent k w (named_by id) x (receiver k w (named_by id))) → CallMoves c (sent k w (named_by id) x (receiver k w (named_by id)))) →
      is_some (object_named w.data_queues id) ≡ true →
      CallMoves c (done_or_wait k w p (can_send k w (named_by id)) (sent k w (named_by id) x (receiver k w (named_by id))) (wait.Send (named_by id) x) timeout)
  moves_send id x timeout c same known =
      cond_both (can_send k w (named_by id)) _ _ (CallMoves c) (λ _. same (sends_law id x known)) (λ _. wait_moves c (caller w p) (wait.Send (named_by id) x) timeout)

  moves_receive : (id timeout : ℤ) (c : Call) →
      (ReceiveBy id (received k w (named_by id) (sender k w (named_by id))) → CallMoves c (received k w (named_by id) (sender k w (named_by id)))) →
      is_some (object_named w.data_queues id) ≡ true →
      CallMoves c (done_or_wait k w p (can_receive k w (named_by id)) (received k w (named_by id) (sender k w (named_by id))) (wait.Receive (named_by id)) timeout)
  moves_receive id timeout c same known =
      cond_both (can_receive k w (named_by id)) _ _ (CallMoves c) (λ can. same (receives_law id known can)) (λ _. wait_moves c (caller w p) (wait.Receive (named_by id)) timeout)

  moves_buffer : (c : BufferCall) → CallMoves (call.Buffer c) (called w p (buffer_row k w p c))
  unfolding tsnd_dtq psnd_dtq fsnd_dtq trcv_dtq prcv_dtq
  moves_buffer (buffer.SndDtq id x) =
      let c = call.Buffer (buffer.SndDtq id x) in
      by_called w p (CallMoves c) (tsnd_dtq k w p id x forever) tt (refused_moves c) (λ a. moves_send id x forever c (λ h. h) a.known)
  moves_buffer (buffer.TsndDtq id x timeout) =
      let c = call.Buffer (buffer.TsndDtq id x timeout) in
      by_called w p (CallMoves c) (tsnd_dtq k w p id x timeout) tt (refused_moves c) (λ a. moves_send id x timeout c (λ h. h) a.known)
  moves_buffer (buffer.PsndDtq id x) =
      let c = call.Buffer (buffer.PsndDtq id x) in
      by_called w p (CallMoves c) (psnd_dtq k w id x) (refl, tt) (refused_moves c) (λ a. sends_law id x a.known)
  moves_buffer (buffer.IpsndDtq id x) =
      let c = call.Buffer (buffer.IpsndDtq id x) in
      by_called w p (CallMoves c) (in_handler (psnd_dtq k w id x)) (refl, tt) (refused_moves c) (λ a. sends_law id x a.known)
  moves_buffer (buffer.FsndDtq id x) =
      let c = call.Buffer (buffer.FsndDtq id x) in
      by_called w p (CallMoves c) (fsnd_dtq k w id x) (refl, tt) (refused_moves c) (λ a. forces_law id x a.known a.errors.0)
  moves_buffer (buffer.IfsndDtq id x) =
      let c = call.Buffer (buffer.IfsndDtq id x) in
      by_called w p (CallMoves c) (in_handler (fsnd_dtq k w id x)) (refl, tt) (refused_moves c) (λ a. forces_law id x a.known a.errors.0)
  moves_buffer (buffer.RcvDtq id) =
      let c = call.Buffer (buffer.RcvDtq id) in
      by_called w p (CallMoves c) (trcv_dtq k w p id forever) tt (refused_moves c) (λ a. moves_receive id forever c (λ h. h) a.known)
  moves_buffer (buffer.TrcvDtq id timeout) =
      let c = call.Buffer (buffer.TrcvDtq id timeout) in
      by_called w p (CallMoves c) (trcv_dtq k w p id timeout) tt (refused_moves c) (λ a. moves_receive id timeout c (λ h. h) a.known)
  moves_buffer (buffer.PrcvDtq id) =
      let c = call.Buffer (buffer.PrcvDtq id) in
      by_called w p (CallMoves c) (prcv_dtq k w id) (refl, tt) (refused_moves c) (λ a. receives_law id a.known (not-false _ a.errors.0))
  moves_buffer c = untouched earlier w d (called w p (buffer_row k w p c)).0 (leaves_call k w p (call.Buffer c)).contents

  moves_call : (c : Call) → CallMoves c (called w p (row_of k w p c))
  moves_call (call.Buffer c) = moves_buffer c
  moves_call (call.Sync (sync.SigSem id)) = untouched earlier w d (called w p (row_of k w p (call.Sync (sync.SigSem id)))).0 (leaves_call k w p (call.Sync (sync.SigSem id))).contents
  moves_call (call.Sync c) = untouched earlier w d (called w p (row_of k w p (call.Sync c))).0 (leaves_call k w p (call.Sync c)).contents
  moves_call c = untouched earlier w d (called w p (row_of k w p c)).0 (leaves_call k w p c).contents

-- each step keeps what was put in beside what came out
pub moves_step : {Q : Type 0} (k : Ordering Q) → WaitersWait k → (earlier : List Record) (w : World Q) → Before earlier w → (d : Object) (e : Event) →
    Moves earlier w d (step k w e).0 (step k w e).1
moves_step k wait_there earlier w b d e =
    by_step k w (Moves earlier w d) (λ v cs r x ps h. h) (λ p c. moves_call k wait_there earlier w b p d c)
    (λ p c none. nothing_moved earlier w d w (report (event.Call p c) (runner_of w p) (plain answer.Idle)) refl refl)
    (λ p. untouched earlier w d (tick k w p).0 (leaves_tick k w p).contents) (λ e r a no_call no_e. nothing_moved earlier w d w (report e r (plain a)) refl no_e) e
