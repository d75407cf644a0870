-- What the calls on semaphores and eventflags leave alone.
use Rattle.std.proofs.Common.{ℕ, ℤ, List, [], ◌∷◌, refl, Option, Some, None}
use Rattle.std.specs.Prelude.{nat_lt, unwrap_or}
use Rattle.std.proofs.lemmas.Bool.{cond_both}
use Rattle.fmp_codes.specs.Numbers.{as_object}
use Rattle.fmp_codes.specs.declared.numbers.Proc.{Proc}
use Rattle.fmp_codes.specs.declared.numbers.Task.{Task}
use Rattle.fmp_codes.specs.declared.numbers.Object.{Object}
use Rattle.fmp_codes.specs.declared.calls.Call.TheVariants as calls
use Rattle.fmp_codes.specs.declared.calls.SyncCall.{SyncCall}
use Rattle.fmp_codes.specs.declared.calls.SyncCall.TheVariants as call
use Rattle.fmp_codes.specs.declared.calls.Mode.{Mode}
use Rattle.fmp_codes.specs.declared.records.Release.{Release}
use Rattle.fmp_rules.specs.Effects.{Effect}
use Rattle.fmp_rules.specs.declared.machine.QueueKind.TheVariants as kind
use Rattle.fmp_rules.specs.declared.machine.Wait.TheVariants as wait
use Rattle.fmp_rules.specs.World.{World, task, first}
use Rattle.fmp_rules.specs.Objects.{semaphore, eventflag, holds}
use Rattle.fmp_rules.specs.Ordering.{Ordering, queue}
use Rattle.fmp_rules.specs.Tasks.{make_ready}
use Rattle.fmp_rules.specs.Rows.{done_or_wait}
use Rattle.fmp_rules.specs.Arguments.{caller, object_named, forever, is_zero, ticks_of}
use Rattle.fmp_rules.specs.SyncCalls.{sig_sem, twai_sem, pol_sem, signal, counted, set_flg, clr_flg, twai_flg, pol_flg, is_met, cleared, served, accepted_with, answered, sync_row}
use Rattle.fmp_law_balance.proofs.Leaving.{Leaves, leaves_all, leaves_then, leaves_others, leaves_ready, leaves_begin, leaves_done_or_wait}
use Rattle.fmp_law_balance.proofs.Apart.{Apart}

module _ {Q : Type 0} (k : Ordering Q) (w : World Q) (p : Proc) where
  leaves_signal : (s : Object) (t : Option Task) → Leaves w (record (signal k w s t).0 { semaphores = w.semaphores })
  leaves_signal s None = leaves_all w
  leaves_signal s (Some t) = leaves_ready k w t

  abbrev ButSemaphores : World Q × Effect → Type 0
  ButSemaphores did = Leaves w (record did.0 { semaphores = w.semaphores })

  leaves_taken_or_waits : (s : Object) (timeout : ℤ) → ButSemaphores (done_or_wait k w p (nat_lt 0 (semaphore w s).count) (counted w s) (wait.Semaphore s) timeout)
  leaves_taken_or_waits s timeout =
      cond_both (nat_lt 0 (semaphore w s).count) _ _ ButSemaphores (λ _. leaves_all w)
      (λ _. cond_both (is_zero timeout) _ _ ButSemaphores (λ _. leaves_all w) (λ _. leaves_begin k w (caller w p) (wait.Semaphore s) (ticks_of timeout) refl))

  abbrev semaphore_of : ℤ → Object
  semaphore_of id = unwrap_or (object_named w.semaphores id) (as_object 1)

  -- eventflags

  leaves_served : (v : World Q) (f : Object) (x : ℕ) (ts : List Task) → Leaves v (served k v f x ts).0
  leaves_served v f x [] = leaves_others v _ _ _ _ _ _ _
  leaves_served v f x (t ∷ ts) =
      cond_both (is_met x (task v t).wait) _ _ (λ (did : World Q × List Release). Leaves v did.0)
      (λ _. leaves_then v (make_ready k v t) _ (leaves_ready k v t) (leaves_served (make_ready k v t) f (cleared v f x) ts)) (λ _. leaves_served v f x ts)

  leaves_flag_wait : (f : Object) (pattern : ℕ) (m : Mode) (timeout : ℤ) →
      Leaves w (done_or_wait k w p (holds (eventflag w f).pattern pattern m) (answered w f) (wait.Eventflag f pattern m) timeout).0
  leaves_flag_wait f pattern m timeout =
      leaves_done_or_wait k w p (holds (eventflag w f).pattern pattern m) (answered w f) (wait.Eventflag f pattern m) timeout (leaves_others w _ _ _ _ _ _ _) refl

  abbrev flag_of : ℤ → Object
  flag_of id = unwrap_or (object_named w.eventflags id) (as_object 1)

  leaves_set : (f : Object) (x : ℕ) → Leaves w (accepted_with (served k w f x (queue k w kind.Eventflag f))).0
  leaves_set f x = leaves_served w f x (queue k w kind.Eventflag f)

  pub leaves_sync_call : (c : SyncCall) → Apart w (calls.Sync c) (sync_row k w p c).effect
  unfolding sig_sem twai_sem pol_sem set_flg clr_flg twai_flg pol_flg
  leaves_sync_call (call.SigSem id) = leaves_signal (semaphore_of id) (first (queue k w kind.Semaphore (semaphore_of id)))
  leaves_sync_call (call.IsigSem id) = leaves_signal (semaphore_of id) (first (queue k w kind.Semaphore (semaphore_of id)))
  leaves_sync_call (call.WaiSem id) = leaves_taken_or_waits (semaphore_of id) forever
  leaves_sync_call (call.TwaiSem id timeout) = leaves_taken_or_waits (semaphore_of id) timeout
  leaves_sync_call (call.PolSem id) = leaves_all w
  leaves_sync_call (call.SetFlg id x) = leaves_set (flag_of id) _
  leaves_sync_call (call.IsetFlg id x) = leaves_set (flag_of id) _
  leaves_sync_call (call.ClrFlg id x) = leaves_others w _ _ _ _ _ _ _
  leaves_sync_call (call.WaiFlg id x m) = leaves_flag_wait (flag_of id) x m forever
  leaves_sync_call (call.TwaiFlg id x m timeout) = leaves_flag_wait (flag_of id) x m timeout
  leaves_sync_call (call.PolFlg id x m) = leaves_others w _ _ _ _ _ _ _
