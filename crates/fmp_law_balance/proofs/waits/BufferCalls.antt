-- What the calls on data queues and pools do to the waits, and what is told of it.
use Rattle.std.proofs.Common.{◌≡◌, ◌≤◌, length, pos, negsuc, ◌++◌, ℤ, inl, true, false, List, [], ◌∷◌, refl, sym, ap, ◌∙◌, subst, Option, Some, None}
use Rattle.std.specs.Prelude.{is_some, unwrap_or, if◌then◌else◌}
use Rattle.std.proofs.lemmas.Bool.{cond_both, cond-true, false≢true}
use Rattle.fmp_codes.specs.Numbers.{as_object}
use Rattle.fmp_codes.specs.declared.numbers.Proc.{Proc}
use Rattle.fmp_codes.specs.declared.numbers.Task.{Task}
use Rattle.fmp_codes.specs.declared.numbers.Object.{Object}
use Rattle.fmp_codes.specs.declared.calls.Call.TheVariants as calls
use Rattle.fmp_codes.specs.declared.calls.BufferCall.{BufferCall}
use Rattle.fmp_codes.specs.declared.calls.BufferCall.TheVariants as call
use Rattle.fmp_codes.specs.declared.codes.Code.TheVariants as code
use Rattle.fmp_codes.specs.declared.records.Event.TheVariants as event
use Rattle.fmp_rules.specs.Effects.{Effect}
use Rattle.fmp_rules.specs.declared.machine.Wait.TheVariants as wait
use Rattle.fmp_rules.specs.declared.machine.QueueKind.TheVariants as kind
use Rattle.fmp_rules.specs.World.{World, task, runner_of, first, rest}
use Rattle.fmp_rules.specs.Objects.{values, free_block}
use Rattle.fmp_rules.specs.Ordering.{Ordering, queue}
use Rattle.fmp_rules.specs.Tasks.{make_ready}
use Rattle.fmp_rules.specs.Rows.{in_handler, called}
use Rattle.fmp_rules.specs.Arguments.{object_named, forever}
use Rattle.fmp_rules.specs.BufferCalls.{offered, block_of, with_values, with_handed, receiver, sender, can_send, sent, forced, can_receive, received, given, is_handed, returned, tsnd_dtq, psnd_dtq, fsnd_dtq, trcv_dtq, prcv_dtq, tget_mpf, pget_mpf, rel_mpf, buffer_row}
use Rattle.fmp_law_safety.specs.Safe.{Safe}
use Rattle.fmp_law_safety.proofs.Calls.{Accepts, from_task}
use Rattle.fmp_law_safety.proofs.Queues.{Lists, first_waits}
use Rattle.fmp_law_balance.specs.Accepted.{names}
use Rattle.fmp_law_balance.specs.Pools.{returns}
use Rattle.fmp_law_balance.specs.Queues.{sends, receives}
use Rattle.fmp_law_balance.proofs.Called.{by_called}
use Rattle.fmp_law_balance.proofs.Steps.{report as record_of}
use Rattle.fmp_law_balance.proofs.Queues.{waits_to_receive, waits_to_send}
use Rattle.fmp_setup.specs.Setup.{Setup}
use Rattle.fmp_law_balance.specs.Waits.Asked.{asked}
use Rattle.fmp_law_balance.specs.Waits.Waits.{OpenWaits}
use Rattle.fmp_law_balance.specs.Waits.Releases.{Gives}
use Rattle.fmp_law_balance.proofs.waits.Named.{asked_named, names_itself, waits_for_block}
use Rattle.fmp_law_balance.proofs.waits.Words.{IsKept}
use Rattle.fmp_law_balance.proofs.waits.Follows.{Sound, CallFollows, follows_beside, refused_follows, done_follows, release_follows, done_or_waits_follow}

module _ {Q : Type 0} (config : Setup) (k : Ordering Q) (w : World Q) (lists : Lists k w) (s : Safe k w) (sound : Sound config w) (pending : OpenWaits) (report : (t : Task) → IsKept config w t (pending t)) (p : Proc) where
  abbrev Ends : BufferCall → World Q × Effect → Type 0
  Ends c did = CallFollows config k w pending report p (calls.Buffer c) did

  abbrev queue_of : ℤ → Object
  queue_of id = unwrap_or (object_named w.data_queues id) (as_object 1)

  abbrev pool_of : ℤ → Object
  pool_of id = unwrap_or (object_named w.pools id) (as_object 1)

  -- what an argument gives to what it names
  itself_named : {X A : Type 0} (xs : List X) (id : ℤ) (x : A) → length xs ≤ 32 → is_some (object_named xs id) ≡ true →
      (if names (unwrap_or (object_named xs id) (as_object 1)) id then Some x else None) ≡ Some x
  itself_named xs id x few known = cond-true (names (unwrap_or (object_named xs id) (as_object 1)) id) (Some x) None (names_itself xs id few known)

  -- a receiver gets the value, or it goes last
  sent_ends : (c : BufferCall) (d : Object) (x : ℤ) → sends d (event.Call p (calls.Buffer c)) ≡ Some x → (t : Option Task) → receiver k w d ≡ t → Ends c (sent k w d x t)
  sent_ends c d x is None e = done_follows config k w pending report p (calls.Buffer c) (with_values w d (values w d ++ x ∷ [])) None None (λ u. (refl, refl)) report (refl, refl, refl, refl)
  sent_ends c d x is (Some t) e =
      release_follows config k w pending report p (calls.Buffer c) t code.Accepted (Some x) None (wait.Receive d) (λ u. (refl, refl)) (waits_to_receive d (task w t).wait (first_waits k w lists kind.Receive d t e))
      (λ a same. inl (record { accepted = refl; code = refl; given = subst (λ y. Gives (event.Call p (calls.Buffer c)) t y (Some x)) (sym same) (ap is_some is, sym is) }))

  sends_or_waits : (c : BufferCall) (id x timeout : ℤ) → Accepts w p (tsnd_dtq k w p id x timeout) → is_some (object_named w.data_queues id) ≡ true →
      asked p (calls.Buffer c) ≡ asked p (calls.Buffer (call.TsndDtq id x timeout)) → sends (queue_of id) (event.Call p (calls.Buffer c)) ≡ Some x → Ends c (tsnd_dtq k w p id x timeout).effect
  unfolding tsnd_dtq
  sends_or_waits c id x timeout a known same is =
      let d = queue_of id in
      done_or_waits_follow config k w pending report p s sound (calls.Buffer c) (can_send k w d) (sent k w d x (receiver k w d)) (wait.Send d x) timeout (from_task w p false true a.rule)
      (same ∙ asked_named w.data_queues (λ o. wait.Send o x) id timeout p sound.few.data_queues known) (λ _. sent_ends c d x is (receiver k w d) refl)

  forced_ends : (c : BufferCall) (d : Object) (x : ℤ) → sends d (event.Call p (calls.Buffer c)) ≡ Some x → Ends c (if can_send k w d then sent k w d x (receiver k w d) else forced w d x)
  forced_ends c d x is =
      cond_both (can_send k w d) (sent k w d x (receiver k w d)) (forced w d x) (Ends c) (λ _. sent_ends c d x is (receiver k w d) refl)
      (λ _. done_follows config k w pending report p (calls.Buffer c) (with_values w d (rest (values w d) ++ x ∷ [])) None (first (values w d)) (λ u. (refl, refl)) report (refl, refl, refl, refl))

  -- a sender's value is taken in, or a value is answered
  received_ends : (c : BufferCall) (d : Object) → receives d (event.Call p (calls.Buffer c)) ≡ true → (t : Option Task) → sender k w d ≡ t → Ends c (received k w d t)
  received_ends c d is None e = done_follows config k w pending report p (calls.Buffer c) (with_values w d (rest (values w d))) _ None (λ u. (refl, refl)) report (refl, refl, refl, refl)
  received_ends c d is (Some t) e =
      let waits = waits_to_send d (task w t).wait (first_waits k w lists kind.Send d t e) in
      let vs : List ℤ = values w d ++ offered (task w t).wait in
      follows_beside config w pending (make_ready k w t) (with_values (make_ready k w t) d (rest vs)) (record_of (event.Call p (calls.Buffer c)) (runner_of w p) (received k w d (Some t)).1)
      (release_follows config k w pending report p (calls.Buffer c) t code.Accepted None (Some (unwrap_or (first vs) (pos 0))) (wait.Send d waits.0) (λ u. (refl, refl)) waits.1
      (λ a same. inl (record { accepted = refl; code = refl; given = subst (λ y. Gives (event.Call p (calls.Buffer c)) t y None) (sym same) (is, refl) })))
      refl refl refl refl

  receives_or_waits : (c : BufferCall) (id timeout : ℤ) → Accepts w p (trcv_dtq k w p id timeout) → is_some (object_named w.data_queues id) ≡ true →
      asked p (calls.Buffer c) ≡ asked p (calls.Buffer (call.TrcvDtq id timeout)) → receives (queue_of id) (event.Call p (calls.Buffer c)) ≡ true → Ends c (trcv_dtq k w p id timeout).effect
  unfolding trcv_dtq
  receives_or_waits c id timeout a known same is =
      let d = queue_of id in
      done_or_waits_follow config k w pending report p s sound (calls.Buffer c) (can_receive k w d) (received k w d (sender k w d)) (wait.Receive d) timeout (from_task w p false true a.rule)
      (same ∙ asked_named w.data_queues (λ o. wait.Receive o) id timeout p sound.few.data_queues known) (λ _. received_ends c d is (sender k w d) refl)

  gets_or_waits : (c : BufferCall) (id timeout : ℤ) → Accepts w p (tget_mpf k w p id timeout) → is_some (object_named w.pools id) ≡ true →
      asked p (calls.Buffer c) ≡ asked p (calls.Buffer (call.TgetMpf id timeout)) → Ends c (tget_mpf k w p id timeout).effect
  unfolding tget_mpf
  gets_or_waits c id timeout a known same =
      let m = pool_of id in
      done_or_waits_follow config k w pending report p s sound (calls.Buffer c) (is_some (free_block w m)) (given w m (unwrap_or (free_block w m) 0)) (wait.Pool m) timeout (from_task w p false true a.rule)
      (same ∙ asked_named w.pools (λ o. wait.Pool o) id timeout p sound.few.pools known)
      (λ _. done_follows config k w pending report p (calls.Buffer c) (with_handed w m (unwrap_or (free_block w m) 0) true) _ None (λ u. (refl, refl)) report (refl, refl, refl, refl))

  -- a block that may be given back is one of a number
  block_itself : (m : Object) (b : ℤ) → is_handed w m b ≡ true → pos (block_of b) ≡ b
  block_itself m (pos n) e = refl
  block_itself m (negsuc n) e = absurd (false≢true e)

  -- the first waiter gets the block, or it is free
  returned_ends : (c : BufferCall) (m : Object) (b : ℤ) → returns m (event.Call p (calls.Buffer c)) ≡ Some b → pos (block_of b) ≡ b → (t : Option Task) → first (queue k w kind.Pool m) ≡ t →
      Ends c (returned k w m (block_of b) t)
  returned_ends c m b is block None e = done_follows config k w pending report p (calls.Buffer c) (with_handed w m (block_of b) false) None None (λ u. (refl, refl)) report (refl, refl, refl, refl)
  returned_ends c m b is block (Some t) e =
      release_follows config k w pending report p (calls.Buffer c) t code.Accepted (Some (pos (block_of b))) None (wait.Pool m) (λ u. (refl, refl)) (waits_for_block m (task w t).wait (first_waits k w lists kind.Pool m t e))
      (λ a same.
      inl (record {
        accepted = refl;
        code = refl;
        given = subst (λ y. Gives (event.Call p (calls.Buffer c)) t y (Some (pos (block_of b)))) (sym same) (ap is_some is, ap Some block ∙ sym is);
      }))

  pub follows_buffer : (c : BufferCall) → Ends c (called w p (buffer_row k w p c))
  unfolding tsnd_dtq psnd_dtq fsnd_dtq trcv_dtq prcv_dtq tget_mpf pget_mpf rel_mpf
  follows_buffer (call.SndDtq id x) =
      let c = call.SndDtq id x in
      by_called w p (Ends c) (tsnd_dtq k w p id x forever) tt (refused_follows config k w pending report p (calls.Buffer c))
      (λ a. sends_or_waits c id x forever a a.known refl (itself_named w.data_queues id x sound.few.data_queues a.known))
  follows_buffer (call.TsndDtq id x timeout) =
      let c = call.TsndDtq id x timeout in
      by_called w p (Ends c) (tsnd_dtq k w p id x timeout) tt (refused_follows config k w pending report p (calls.Buffer c))
      (λ a. sends_or_waits c id x timeout a a.known refl (itself_named w.data_queues id x sound.few.data_queues a.known))
  follows_buffer (call.PsndDtq id x) =
      let c = call.PsndDtq id x in
      by_called w p (Ends c) (psnd_dtq k w id x) (refl, tt) (refused_follows config k w pending report p (calls.Buffer c))
      (λ a. sent_ends c (queue_of id) x (itself_named w.data_queues id x sound.few.data_queues a.known) _ refl)
  follows_buffer (call.IpsndDtq id x) =
      let c = call.IpsndDtq id x in
      by_called w p (Ends c) (in_handler (psnd_dtq k w id x)) (refl, tt) (refused_follows config k w pending report p (calls.Buffer c))
      (λ a. sent_ends c (queue_of id) x (itself_named w.data_queues id x sound.few.data_queues a.known) _ refl)
  follows_buffer (call.FsndDtq id x) =
      let c = call.FsndDtq id x in
      by_called w p (Ends c) (fsnd_dtq k w id x) (refl, tt) (refused_follows config k w pending report p (calls.Buffer c))
      (λ a. forced_ends c (queue_of id) x (itself_named w.data_queues id x sound.few.data_queues a.known))
  follows_buffer (call.IfsndDtq id x) =
      let c = call.IfsndDtq id x in
      by_called w p (Ends c) (in_handler (fsnd_dtq k w id x)) (refl, tt) (refused_follows config k w pending report p (calls.Buffer c))
      (λ a. forced_ends c (queue_of id) x (itself_named w.data_queues id x sound.few.data_queues a.known))
  follows_buffer (call.RcvDtq id) =
      let c = call.RcvDtq id in
      by_called w p (Ends c) (trcv_dtq k w p id forever) tt (refused_follows config k w pending report p (calls.Buffer c))
      (λ a. receives_or_waits c id forever a a.known refl (names_itself w.data_queues id sound.few.data_queues a.known))
  follows_buffer (call.TrcvDtq id timeout) =
      let c = call.TrcvDtq id timeout in
      by_called w p (Ends c) (trcv_dtq k w p id timeout) tt (refused_follows config k w pending report p (calls.Buffer c))
      (λ a. receives_or_waits c id timeout a a.known refl (names_itself w.data_queues id sound.few.data_queues a.known))
  follows_buffer (call.PrcvDtq id) =
      let c = call.PrcvDtq id in
      by_called w p (Ends c) (prcv_dtq k w id) (refl, tt) (refused_follows config k w pending report p (calls.Buffer c))
      (λ a. received_ends c (queue_of id) (names_itself w.data_queues id sound.few.data_queues a.known) _ refl)
  follows_buffer (call.GetMpf id) =
      let c = call.GetMpf id in
      by_called w p (Ends c) (tget_mpf k w p id forever) tt (refused_follows config k w pending report p (calls.Buffer c)) (λ a. gets_or_waits c id forever a a.known refl)
  follows_buffer (call.TgetMpf id timeout) =
      let c = call.TgetMpf id timeout in
      by_called w p (Ends c) (tget_mpf k w p id timeout) tt (refused_follows config k w pending report p (calls.Buffer c)) (λ a. gets_or_waits c id timeout a a.known refl)
  follows_buffer (call.PgetMpf id) =
      let c = call.PgetMpf id in
      by_called w p (Ends c) (pget_mpf w id) (refl, tt) (refused_follows config k w pending report p (calls.Buffer c))
      (λ a. done_follows config k w pending report p (calls.Buffer c) (with_handed w (pool_of id) (unwrap_or (free_block w (pool_of id)) 0) true) _ None (λ u. (refl, refl)) report (refl, refl, refl, refl))
  follows_buffer (call.RelMpf id b) =
      let c = call.RelMpf id b in
      by_called w p (Ends c) (rel_mpf k w id b) tt (refused_follows config k w pending report p (calls.Buffer c))
      (λ a. returned_ends c (pool_of id) b (itself_named w.pools id b sound.few.pools a.known) (block_itself (pool_of id) b a.proper) _ refl)
