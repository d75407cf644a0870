-- The calls on semaphores and eventflags do the same on lists and on numbers.
use Rattle.std.proofs.Common.{ℕ, ℤ, ◌+◌, ◌-◌, not, ◌&&◌, List, [], ◌∷◌, length, refl, ap, subst, None}
use Rattle.std.specs.Prelude.{is_some, is_none, nat_le, nat_lt, unwrap_or, bit_and, bit_or}
use Rattle.fmp_codes.specs.Numbers.{as_object}
use Rattle.fmp_codes.specs.declared.numbers.Proc.{Proc}
use Rattle.fmp_codes.specs.declared.numbers.Task.{Task}
use Rattle.fmp_codes.specs.declared.numbers.Object.{Object}
use Rattle.fmp_codes.specs.declared.calls.Mode.{Mode}
use Rattle.fmp_codes.specs.declared.calls.SyncCall.{SyncCall}
use Rattle.fmp_codes.specs.declared.calls.SyncCall.TheVariants as call
use Rattle.fmp_codes.specs.declared.codes.Code.TheVariants as code
use Rattle.fmp_rules.specs.declared.machine.Context.{Context}
use Rattle.fmp_rules.specs.declared.machine.Context.TheVariants as context
use Rattle.fmp_rules.specs.declared.machine.Wait.TheVariants as wait
use Rattle.fmp_rules.specs.declared.machine.QueueKind.TheVariants as kind
use Rattle.fmp_rules.specs.World.{World, task, first}
use Rattle.fmp_rules.specs.Objects.{semaphore, eventflag, holds}
use Rattle.fmp_rules.specs.Ordering.{queue}
use Rattle.fmp_rules.specs.Arrivals.{State, numbered}
use Rattle.fmp_rules.specs.Tasks.{make_ready}
use Rattle.fmp_rules.specs.Arguments.{object_named, forever}
use Rattle.fmp_rules.specs.Rows.{called, done}
use Rattle.fmp_rules.specs.SyncCalls.{with_count, signal, counted, sig_sem, twai_sem, pol_sem, with_pattern, is_met, cleared, served, accepted_with, set_flg, clr_flg, answered, twai_flg, pol_flg, sync_row}
use Rattle.fmp_law_safety.specs.Safe.{IsNumberOf, Safe}
use Rattle.fmp_law_safety.proofs.Calls.{from}
use Rattle.fmp_kernel_order.specs.Queues.{Queues, listed}
use Rattle.fmp_law_lists.specs.Stands.{with_order, AreListsOf, Matches}
use Rattle.fmp_law_lists.proofs.Words.{by_tests}
use Rattle.fmp_law_lists.proofs.Matching.{matches, released, called_matches}
use Rattle.fmp_law_lists.proofs.ObjectValues.{keeps_count, keeps_pattern}
use Rattle.fmp_law_lists.proofs.Waiting.{object_within, same_queue, waiter_within, by_first, same_checks, in_place, does_or_waits}
use Rattle.fmp_law_lists.proofs.Releases.{Frees, frees_none, frees_and, AllWithin, all_within, freed, still_within}

-- the waiters of a flag are served, as they were at the beginning
serves : (f : Object) (ts : List Task) (m : State) (q : Queues) (x : ℕ) → AreListsOf q m → AllWithin (length m.tasks) ts → Frees (served listed (with_order m q) f x ts) (served numbered m f x ts)
serves f [] m q x s a = frees_none (with_pattern m f x) q (keeps_pattern m q s f x)
serves f (t ∷ ts) m q x s a =
    by_tests Frees (is_met x (task m t).wait) _ _ _ _
    (λ _. frees_and _ _ _ (serves f ts (make_ready numbered m t) (make_ready listed (with_order m q) t).order (cleared m f x) (freed m q s t a.0) (still_within m t ts a.1)))
    (λ _. serves f ts m q x s a.1)

module _ (m : State) (q : Queues) (s : AreListsOf q m) (safe : Safe numbered m) (p : Proc) (there : IsNumberOf m.processors p.number) where
  abbrev w : World Queues
  w = with_order m q

  -- Semaphores.

  sig : (c : Context) (id : ℤ) → Matches (called w p (from c (sig_sem listed w id))) (called m p (from c (sig_sem numbered m id)))
  unfolding sig_sem
  sig c id =
      let o : Object = unwrap_or (object_named m.semaphores id) (as_object 1) in
      called_matches m q s p (from c (sig_sem listed w id)) (from c (sig_sem numbered m id))
      (same_checks m q s p (from c (sig_sem listed w id)) (from c (sig_sem numbered m id)) refl refl refl
      (ap (λ ts. (is_none (first ts) && nat_le (semaphore m o).setup.most (semaphore m o).count, code.QueueOverflow) ∷ []) (same_queue m q s kind.Semaphore o)))
      (λ a. by_first m q s kind.Semaphore o (signal listed w o) (signal numbered m o)
      (matches (with_count m o ((semaphore m o).count + 1)) q (keeps_count m q s o _) done) (λ t within. released m q s t within code.Accepted None))

  counts : (o : Object) → Matches (counted w o) (counted m o)
  counts o = matches (with_count m o ((semaphore m o).count - 1)) q (keeps_count m q s o _) done

  wai_sem : (id timeout : ℤ) → Matches (called w p (twai_sem listed w p id timeout)) (called m p (twai_sem numbered m p id timeout))
  unfolding twai_sem
  wai_sem id timeout =
      let o : Object = unwrap_or (object_named m.semaphores id) (as_object 1) in
      called_matches m q s p (twai_sem listed w p id timeout) (twai_sem numbered m p id timeout) refl
      (λ a. does_or_waits m q s safe p there a.rule (nat_lt 0 (semaphore m o).count) (counted w o) (counted m o) (wait.Semaphore o) timeout
      (in_place m kind.Semaphore o (object_within m.semaphores id a.known)) (counts o))

  pol : (id : ℤ) → Matches (called w p (pol_sem w id)) (called m p (pol_sem m id))
  unfolding pol_sem
  pol id = called_matches m q s p (pol_sem w id) (pol_sem m id) refl (λ a. counts (unwrap_or (object_named m.semaphores id) (as_object 1)))

  -- Eventflags.

  set : (c : Context) (id : ℤ) (pattern : ℕ) → Matches (called w p (from c (set_flg listed w id pattern))) (called m p (from c (set_flg numbered m id pattern)))
  unfolding set_flg
  set c id pattern =
      let f : Object = unwrap_or (object_named m.eventflags id) (as_object 1) in
      let x : ℕ = bit_or (eventflag m f).pattern pattern in
      called_matches m q s p (from c (set_flg listed w id pattern)) (from c (set_flg numbered m id pattern)) refl
      (λ a. subst (λ ts. Matches (accepted_with (served listed w f x (queue listed w kind.Eventflag f))) (accepted_with (served numbered m f x ts))) (same_queue m q s kind.Eventflag f)
      (let did = serves f (queue listed w kind.Eventflag f) m q x s (all_within (length m.tasks) (queue listed w kind.Eventflag f) (waiter_within m q s kind.Eventflag f)) in
      record { stands = did.stands; effect = ap (λ rs. record done { releases = rs }) did.releases }))

  clr : (id : ℤ) (pattern : ℕ) → Matches (called w p (clr_flg w id pattern)) (called m p (clr_flg m id pattern))
  unfolding clr_flg
  clr id pattern =
      let f : Object = unwrap_or (object_named m.eventflags id) (as_object 1) in
      called_matches m q s p (clr_flg w id pattern) (clr_flg m id pattern) refl
      (λ a. matches (with_pattern m f (bit_and (eventflag m f).pattern pattern)) q (keeps_pattern m q s f _) done)

  answers : (f : Object) → Matches (answered w f) (answered m f)
  answers f = matches (with_pattern m f (cleared m f (eventflag m f).pattern)) q (keeps_pattern m q s f _) _

  wai_flg : (id : ℤ) (pattern : ℕ) (x : Mode) (timeout : ℤ) → Matches (called w p (twai_flg listed w p id pattern x timeout)) (called m p (twai_flg numbered m p id pattern x timeout))
  unfolding twai_flg
  wai_flg id pattern x timeout =
      let f : Object = unwrap_or (object_named m.eventflags id) (as_object 1) in
      called_matches m q s p (twai_flg listed w p id pattern x timeout) (twai_flg numbered m p id pattern x timeout)
      (same_checks m q s p (twai_flg listed w p id pattern x timeout) (twai_flg numbered m p id pattern x timeout) refl refl refl
      (ap (λ ts. (not (eventflag m f).setup.many && is_some (first ts), code.IllegalUse) ∷ []) (same_queue m q s kind.Eventflag f)))
      (λ a. does_or_waits m q s safe p there a.rule (holds (eventflag m f).pattern pattern x) (answered w f) (answered m f) (wait.Eventflag f pattern x) timeout
      (in_place m kind.Eventflag f (object_within m.eventflags id a.known)) (answers f))

  pol_flag : (id : ℤ) (pattern : ℕ) (x : Mode) → Matches (called w p (pol_flg listed w id pattern x)) (called m p (pol_flg numbered m id pattern x))
  unfolding pol_flg
  pol_flag id pattern x =
      let f : Object = unwrap_or (object_named m.eventflags id) (as_object 1) in
      called_matches m q s p (pol_flg listed w id pattern x) (pol_flg numbered m id pattern x)
      (same_checks m q s p (pol_flg listed w id pattern x) (pol_flg numbered m id pattern x) refl refl refl
      (ap (λ ts. (not (eventflag m f).setup.many && is_some (first ts), code.IllegalUse) ∷ (not (holds (eventflag m f).pattern pattern x), code.TimedOut) ∷ []) (same_queue m q s kind.Eventflag f)))
      (λ a. answers f)

  pub sync_matches : (c : SyncCall) → Matches (called w p (sync_row listed w p c)) (called m p (sync_row numbered m p c))
  unfolding sig_sem set_flg
  sync_matches (call.SigSem id) = sig context.Task id
  sync_matches (call.IsigSem id) = sig context.Handler id
  sync_matches (call.WaiSem id) = wai_sem id forever
  sync_matches (call.TwaiSem id timeout) = wai_sem id timeout
  sync_matches (call.PolSem id) = pol id
  sync_matches (call.SetFlg id pattern) = set context.Task id pattern
  sync_matches (call.IsetFlg id pattern) = set context.Handler id pattern
  sync_matches (call.ClrFlg id pattern) = clr id pattern
  sync_matches (call.WaiFlg id pattern x) = wai_flg id pattern x forever
  sync_matches (call.TwaiFlg id pattern x timeout) = wai_flg id pattern x timeout
  sync_matches (call.PolFlg id pattern x) = pol_flag id pattern x
