-- What the calls on semaphores and eventflags do to the waits, and what is told of it.
use Rattle.std.proofs.Common.{◌≡◌, ℕ, ◌-◌, ℤ, inl, inr, true, false, List, [], ◌∷◌, refl, sym, ap, ◌∙◌, subst, Option, Some, None}
use Rattle.std.specs.Prelude.{option_map, if◌then◌else◌, is_some, nat_lt, unwrap_or}
use Rattle.std.proofs.lemmas.List.{length-set}
use Rattle.std.proofs.lemmas.List.Elements.{All-nil, All-cons}
use Rattle.std.proofs.Math.Bool.{or-false}
use Rattle.fmp_codes.specs.Numbers.{as_object}
use Rattle.fmp_codes.specs.declared.numbers.Proc.{Proc}
use Rattle.fmp_codes.specs.declared.numbers.Task.{Task}
use Rattle.fmp_codes.specs.declared.numbers.Object.{Object}
use Rattle.fmp_codes.specs.declared.calls.Call.TheVariants as calls
use Rattle.fmp_codes.specs.declared.calls.Mode.{Mode}
use Rattle.fmp_codes.specs.declared.calls.SyncCall.{SyncCall}
use Rattle.fmp_codes.specs.declared.calls.SyncCall.TheVariants as call
use Rattle.fmp_codes.specs.declared.codes.Code.TheVariants as code
use Rattle.fmp_codes.specs.declared.records.Answer.TheVariants as answer
use Rattle.fmp_codes.specs.declared.records.Event.{Event}
use Rattle.fmp_codes.specs.declared.records.Event.TheVariants as event
use Rattle.fmp_rules.specs.Effects.{Effect}
use Rattle.fmp_rules.specs.declared.machine.Wait.{Wait}
use Rattle.fmp_rules.specs.declared.machine.Wait.TheVariants as wait
use Rattle.fmp_rules.specs.declared.machine.QueueKind.TheVariants as kind
use Rattle.fmp_codes.specs.declared.records.Record.{Record}
use Rattle.fmp_law_balance.proofs.Steps.{report as record_of}
use Rattle.fmp_rules.specs.World.{World, task, first, runner_of}
use Rattle.fmp_rules.specs.Objects.{semaphore, eventflag, holds}
use Rattle.fmp_rules.specs.Ordering.{Ordering, queue, waits_in}
use Rattle.fmp_rules.specs.Rows.{in_handler, called}
use Rattle.fmp_rules.specs.Arguments.{object_named, forever}
use Rattle.fmp_rules.specs.SyncCalls.{with_count, with_pattern, signal, counted, answered, served, accepted_with, sig_sem, twai_sem, pol_sem, set_flg, clr_flg, twai_flg, pol_flg, sync_row}
use Rattle.fmp_law_safety.specs.Safe.{Safe}
use Rattle.fmp_law_safety.proofs.Calls.{Accepts, from_task}
use Rattle.fmp_law_safety.proofs.Queues.{IsAmong, Lists, first_waits}
use Rattle.fmp_law_balance.specs.Semaphores.{signals}
use Rattle.fmp_law_balance.proofs.Called.{by_called}
use Rattle.fmp_setup.specs.Setup.{Setup}
use Rattle.fmp_law_balance.specs.Waits.Asked.{asked}
use Rattle.fmp_law_balance.specs.Waits.Waits.{OpenWaits, is_released, lasts}
use Rattle.fmp_law_balance.specs.Waits.Releases.{sets, Gives}
use Rattle.fmp_law_balance.proofs.waits.Named.{names_itself, asked_named, waits_for_semaphore, waits_for_flag}
use Rattle.fmp_law_balance.proofs.waits.Words.{IsKept}
use Rattle.fmp_law_balance.proofs.waits.Follows.{Sound, CallFollows, lasts_same, refused_follows, done_follows, release_follows, done_or_waits_follow}
use Rattle.fmp_law_balance.proofs.waits.Several.{AreForFlag, served_reported, served_counts, served_once, served_fit}

wait_of_flag : Object → Option Wait → Object
wait_of_flag other (Some (wait.Eventflag f y m)) = f
wait_of_flag other _ = other

module _ {Q : Type 0} (config : Setup) (k : Ordering Q) (w : World Q) (lists : Lists k w) (s : Safe k w) (sound : Sound config w) (pending : OpenWaits) (report : (t : Task) → IsKept config w t (pending t)) (p : Proc) where
  abbrev Ends : SyncCall → World Q × Effect → Type 0
  Ends c did = CallFollows config k w pending report p (calls.Sync c) did

  abbrev semaphore_of : ℤ → Object
  semaphore_of id = unwrap_or (object_named w.semaphores id) (as_object 1)

  abbrev flag_of : ℤ → Object
  flag_of id = unwrap_or (object_named w.eventflags id) (as_object 1)

  -- the first waiter gets the unit, or the count rises
  signal_ends : (c : SyncCall) (o : Object) → signals o (event.Call p (calls.Sync c)) ≡ true → (t : Option Task) → first (queue k w kind.Semaphore o) ≡ t → Ends c (signal k w o t)
  signal_ends c o named None e = done_follows config k w pending report p (calls.Sync c) _ None None (λ t. (refl, refl)) report (refl, refl, refl, refl)
  signal_ends c o named (Some t) e =
      release_follows config k w pending report p (calls.Sync c) t code.Accepted None None (wait.Semaphore o) (λ u. (refl, refl)) (waits_for_semaphore o (task w t).wait (first_waits k w lists kind.Semaphore o t e))
      (λ a is. inl (record { accepted = refl; code = refl; given = subst (λ y. Gives (event.Call p (calls.Sync c)) t y None) (sym is) (named, refl) }))

  takes_or_waits : (c : SyncCall) (id timeout : ℤ) → Accepts w p (twai_sem k w p id timeout) → is_some (object_named w.semaphores id) ≡ true →
      asked p (calls.Sync c) ≡ asked p (calls.Sync (call.TwaiSem id timeout)) → Ends c (twai_sem k w p id timeout).effect
  unfolding twai_sem
  takes_or_waits c id timeout a known same =
      let o = semaphore_of id in
      done_or_waits_follow config k w pending report p s sound (calls.Sync c) (nat_lt 0 (semaphore w o).count) (counted w o) (wait.Semaphore o) timeout (from_task w p false true a.rule)
      (same ∙ asked_named w.semaphores (λ x. wait.Semaphore x) id timeout p sound.few.semaphores known)
      (λ _. done_follows config k w pending report p (calls.Sync c) (with_count w o _) None None (λ t. (refl, refl)) report (refl, refl, refl, refl))

  -- the pattern of a flag is another
  pattern_ends : (c : SyncCall) (f : Object) (x : ℕ) (value : Option ℤ) → CallFollows config k w pending report p (calls.Sync c) (with_pattern w f x, record { answer = answer.Done code.Accepted value; releases = []; lost = None })
  pattern_ends c f x value = done_follows config k w pending report p (calls.Sync c) (with_pattern w f x) value None (λ t. (refl, refl)) report (refl, refl, length-set w.eventflags (f.number - 1) _, refl)

  flag_or_waits : (c : SyncCall) (id : ℤ) (x : ℕ) (m : Mode) (timeout : ℤ) → Accepts w p (twai_flg k w p id x m timeout) → is_some (object_named w.eventflags id) ≡ true →
      asked p (calls.Sync c) ≡ asked p (calls.Sync (call.TwaiFlg id x m timeout)) → Ends c (twai_flg k w p id x m timeout).effect
  unfolding twai_flg
  flag_or_waits c id x m timeout a known same =
      let f = flag_of id in
      done_or_waits_follow config k w pending report p s sound (calls.Sync c) (holds (eventflag w f).pattern x m) (answered w f) (wait.Eventflag f x m) timeout (from_task w p false true a.rule)
      (same ∙ asked_named w.eventflags (λ g. wait.Eventflag g x m) id timeout p sound.few_eventflags known)
      (λ _. pattern_ends c f _ _)

  -- who is in the queue of a flag waits for it
  are_for_flag : (f : Object) → AreForFlag w f (queue k w kind.Eventflag f)
  unfolding wait_of_flag
  are_for_flag f = go (queue k w kind.Eventflag f) (λ t i. lists.only_waiting kind.Eventflag f t i)
    where
      one : (t : Task) → waits_in kind.Eventflag f (task w t).wait ≡ true → (g : Object) (y : ℕ) (m : Mode) → (task w t).wait ≡ Some (wait.Eventflag g y m) → g ≡ f
      one t there g y m e =
          let parts = waits_for_flag f (task w t).wait there in
          ap (wait_of_flag g) (sym e ∙ parts.2)

      go : (ts : List Task) → ((t : Task) → IsAmong t ts → waits_in kind.Eventflag f (task w t).wait ≡ true) → AreForFlag w f ts
      go [] there = All-nil (λ t. (g : Object) (y : ℕ) (m : Mode) → (task w t).wait ≡ Some (wait.Eventflag g y m) → g ≡ f)
      go (t ∷ ts) there = All-cons (λ t. (g : Object) (y : ℕ) (m : Mode) → (task w t).wait ≡ Some (wait.Eventflag g y m) → g ≡ f) t ts (one t (there t (inl refl))) (go ts (λ u i. there u (inr i)))

  set_ends : (c : SyncCall) (f : Object) (x : ℕ) → sets f (event.Call p (calls.Sync c)) ≡ true → Ends c (accepted_with (served k w f x (queue k w kind.Eventflag f)))
  set_ends c f x set =
      let ts : List Task = queue k w kind.Eventflag f in
      let did = served k w f x ts in
      let e : Event = event.Call p (calls.Sync c) in
      let r : Record = record_of e (runner_of w p) (accepted_with did).1 in
      record {
        report = λ t.
            subst (λ x. IsKept config did.0 t (if x then None else option_map (lasts config t r) (pending t))) (sym (or-false (is_released t did.1)))
            (subst (λ o. IsKept config did.0 t (if is_released t did.1 then None else o)) (sym (lasts_same config t r (λ q. refl) (λ q. refl) (pending t))) (served_reported config k f w pending report x ts t));
        fits = served_fit config k f e set w pending report x ts (are_for_flag f);
        once = served_once config k f w x ts;
        counts = served_counts config k f w x ts;
      }

  pub follows_sync : (c : SyncCall) → Ends c (called w p (sync_row k w p c))
  unfolding sig_sem twai_sem pol_sem set_flg clr_flg twai_flg pol_flg
  follows_sync (call.SigSem id) =
      let c = call.SigSem id in
      by_called w p (Ends c) (sig_sem k w id) (refl, tt) (refused_follows config k w pending report p (calls.Sync c)) (λ a. signal_ends c (semaphore_of id) (names_itself w.semaphores id sound.few.semaphores a.known) _ refl)
  follows_sync (call.IsigSem id) =
      let c = call.IsigSem id in
      by_called w p (Ends c) (in_handler (sig_sem k w id)) (refl, tt) (refused_follows config k w pending report p (calls.Sync c)) (λ a. signal_ends c (semaphore_of id) (names_itself w.semaphores id sound.few.semaphores a.known) _ refl)
  follows_sync (call.WaiSem id) =
      let c = call.WaiSem id in
      by_called w p (Ends c) (twai_sem k w p id forever) tt (refused_follows config k w pending report p (calls.Sync c)) (λ a. takes_or_waits c id forever a a.known refl)
  follows_sync (call.TwaiSem id timeout) =
      let c = call.TwaiSem id timeout in
      by_called w p (Ends c) (twai_sem k w p id timeout) tt (refused_follows config k w pending report p (calls.Sync c)) (λ a. takes_or_waits c id timeout a a.known refl)
  follows_sync (call.PolSem id) =
      let c = call.PolSem id in
      by_called w p (Ends c) (pol_sem w id) (refl, tt) (refused_follows config k w pending report p (calls.Sync c)) (λ a. done_follows config k w pending report p (calls.Sync c) (with_count w (semaphore_of id) _) None None (λ t. (refl, refl)) report (refl, refl, refl, refl))
  follows_sync (call.SetFlg id x) =
      let c = call.SetFlg id x in
      by_called w p (Ends c) (set_flg k w id x) tt (refused_follows config k w pending report p (calls.Sync c)) (λ a. set_ends c (flag_of id) _ (names_itself w.eventflags id sound.few_eventflags a.known))
  follows_sync (call.IsetFlg id x) =
      let c = call.IsetFlg id x in
      by_called w p (Ends c) (in_handler (set_flg k w id x)) tt (refused_follows config k w pending report p (calls.Sync c)) (λ a. set_ends c (flag_of id) _ (names_itself w.eventflags id sound.few_eventflags a.known))
  follows_sync (call.ClrFlg id x) =
      let c = call.ClrFlg id x in
      by_called w p (Ends c) (clr_flg w id x) tt (refused_follows config k w pending report p (calls.Sync c)) (λ a. pattern_ends c (flag_of id) _ None)
  follows_sync (call.WaiFlg id x m) =
      let c = call.WaiFlg id x m in
      by_called w p (Ends c) (twai_flg k w p id x m forever) (refl, tt) (refused_follows config k w pending report p (calls.Sync c)) (λ a. flag_or_waits c id x m forever a a.known refl)
  follows_sync (call.TwaiFlg id x m timeout) =
      let c = call.TwaiFlg id x m timeout in
      by_called w p (Ends c) (twai_flg k w p id x m timeout) (refl, tt) (refused_follows config k w pending report p (calls.Sync c)) (λ a. flag_or_waits c id x m timeout a a.known refl)
  follows_sync (call.PolFlg id x m) =
      let c = call.PolFlg id x m in
      by_called w p (Ends c) (pol_flg k w id x m) (refl, (refl, tt)) (refused_follows config k w pending report p (calls.Sync c)) (λ a. pattern_ends c (flag_of id) _ _)
