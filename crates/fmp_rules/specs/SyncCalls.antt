-- believed: see docs/PROOF.md, "What has to be believed"
-- The calls on semaphores and eventflags.
use Rattle.std.specs.Prelude.{ℕ, ℤ, pos, ◌+◌, ◌-◌, ◌&&◌, not, Bool, false, Option, None, Some, List, [], ◌∷◌, ◌==◌, nat_lt, nat_le, if◌then◌else◌, is_some, is_none}
use Rattle.std.specs.Prelude.{bit_and, bit_or}
use Rattle.fmp_codes.specs.declared.numbers.Proc.{Proc}
use Rattle.fmp_codes.specs.declared.numbers.Task.{Task}
use Rattle.fmp_codes.specs.declared.numbers.Object.{Object}
use Rattle.fmp_codes.specs.declared.calls.Mode.{Mode}
use Rattle.fmp_codes.specs.declared.calls.SyncCall.{SyncCall}
use Rattle.fmp_codes.specs.declared.calls.SyncCall.TheVariants as call
use Rattle.fmp_codes.specs.declared.codes.Code.TheVariants as code
use Rattle.fmp_codes.specs.declared.records.Release.{Release}
use Rattle.fmp_rules.specs.Effects.{Effect}
use Rattle.fmp_rules.specs.declared.machine.QueueKind.TheVariants as kind
use Rattle.fmp_rules.specs.declared.machine.Wait.{Wait}
use Rattle.fmp_rules.specs.declared.machine.Wait.TheVariants as wait
use Rattle.fmp_rules.specs.World.{World, task, with_item, first}
use Rattle.fmp_rules.specs.Objects.{semaphore, eventflag, holds}
use Rattle.fmp_rules.specs.Ordering.{Ordering, queue}
use Rattle.fmp_rules.specs.Tasks.{make_ready}
use Rattle.fmp_rules.specs.Rows.{Row, on_object, no_errors, in_handler, waiting, done_or_wait, release, done, with_value, and_release}
use Rattle.fmp_rules.specs.Arguments.{object_named, forever}

-- what a task waits for is set in x
abbrev pub is_met : ℕ → Option Wait → Bool
is_met x (Some (wait.Eventflag f pattern m)) = holds x pattern m
is_met x other = false

module _ {Q : Type 0} where
  abbrev pub with_count : World Q → Object → ℕ → World Q
  with_count w s n = record w { semaphores = with_item w.semaphores s.number (record (semaphore w s) { count = n }) }

  abbrev pub with_pattern : World Q → Object → ℕ → World Q
  with_pattern w f x = record w { eventflags = with_item w.eventflags f.number (record (eventflag w f) { pattern = x }) }

  -- the pattern x after a release
  abbrev pub cleared : World Q → Object → ℕ → ℕ
  cleared w f x = if (eventflag w f).setup.clears then 0 else x

  -- an accepted call with these releases
  abbrev pub accepted_with : (World Q × List Release) → World Q × Effect
  accepted_with did = (did.0, record done { releases = did.1 })

-- the queue of a flag is gone over once with the pattern x: who waits for what is set in x is released with x, which may clear it
abbrev pub served : {Q : Type 0} → Ordering Q → World Q → Object → ℕ → List Task → World Q × List Release
served k w f x [] = (with_pattern w f x, [])
served k w f x (t ∷ ts) =
    if is_met x (task w t).wait
    then and_release (record { task = t; code = code.Accepted; value = Some (pos x) }) (served k (make_ready k w t) f (cleared w f x) ts)
    else served k w f x ts

module _ {Q : Type 0} (w : World Q) where
  -- the count falls
  abbrev pub counted : Object → World Q × Effect
  counted s = (with_count w s ((semaphore w s).count - 1), done)

  unfoldable pub pol_sem : ℤ → Row Q
  pol_sem id = on_object (object_named w.semaphores id) (λ s. ((semaphore w s).count == 0, code.TimedOut) ∷ []) (λ s. counted s)

  -- the value is the pattern, which may be cleared
  abbrev pub answered : Object → World Q × Effect
  answered f = (with_pattern w f (cleared w f (eventflag w f).pattern), with_value (pos (eventflag w f).pattern))

  -- all other bits of the pattern are cleared
  unfoldable pub clr_flg : ℤ → ℕ → Row Q
  clr_flg id pattern = on_object (object_named w.eventflags id) no_errors (λ f. (with_pattern w f (bit_and (eventflag w f).pattern pattern), done))

module _ {Q : Type 0} (k : Ordering Q) (w : World Q) where
  -- Semaphores.

  -- the first waiter is released, or else the count rises
  abbrev pub signal : Object → Option Task → World Q × Effect
  signal s None = (with_count w s ((semaphore w s).count + 1), done)
  signal s (Some t) = release k w t code.Accepted None

  unfoldable pub sig_sem : ℤ → Row Q
  sig_sem id =
      on_object (object_named w.semaphores id)
      (λ s. (is_none (first (queue k w kind.Semaphore s)) && nat_le (semaphore w s).setup.most (semaphore w s).count, code.QueueOverflow) ∷ [])
      (λ s. signal s (first (queue k w kind.Semaphore s)))

  unfoldable pub twai_sem : Proc → ℤ → ℤ → Row Q
  twai_sem p id timeout =
      waiting timeout (on_object (object_named w.semaphores id) no_errors
      (λ s. done_or_wait k w p (nat_lt 0 (semaphore w s).count) (counted w s) (wait.Semaphore s) timeout))

  -- Eventflags.

  -- bits of the pattern are set, and the waiters are served
  unfoldable pub set_flg : ℤ → ℕ → Row Q
  set_flg id pattern =
      on_object (object_named w.eventflags id) no_errors
      (λ f. accepted_with (served k w f (bit_or (eventflag w f).pattern pattern) (queue k w kind.Eventflag f)))

  -- no other task may wait, since one does already
  abbrev pub is_taken : Object → Bool
  is_taken f = not (eventflag w f).setup.many && is_some (first (queue k w kind.Eventflag f))

  unfoldable pub twai_flg : Proc → ℤ → ℕ → Mode → ℤ → Row Q
  twai_flg p id pattern m timeout =
      waiting timeout (record (on_object (object_named w.eventflags id) (λ f. (is_taken f, code.IllegalUse) ∷ [])
      (λ f. done_or_wait k w p (holds (eventflag w f).pattern pattern m) (answered w f) (wait.Eventflag f pattern m) timeout))
      { proper = nat_lt 0 pattern })

  unfoldable pub pol_flg : ℤ → ℕ → Mode → Row Q
  pol_flg id pattern m =
      record (on_object (object_named w.eventflags id)
      (λ f. (is_taken f, code.IllegalUse) ∷ (not (holds (eventflag w f).pattern pattern m), code.TimedOut) ∷ [])
      (λ f. answered w f))
      { proper = nat_lt 0 pattern }

  abbrev pub sync_row : Proc → SyncCall → Row Q
  sync_row p (call.SigSem id) = sig_sem id
  sync_row p (call.IsigSem id) = in_handler (sig_sem id)
  sync_row p (call.WaiSem id) = twai_sem p id forever
  sync_row p (call.TwaiSem id timeout) = twai_sem p id timeout
  sync_row p (call.PolSem id) = pol_sem w id
  sync_row p (call.SetFlg id pattern) = set_flg id pattern
  sync_row p (call.IsetFlg id pattern) = in_handler (set_flg id pattern)
  sync_row p (call.ClrFlg id pattern) = clr_flg w id pattern
  sync_row p (call.WaiFlg id pattern m) = twai_flg p id pattern m forever
  sync_row p (call.TwaiFlg id pattern m timeout) = twai_flg p id pattern m timeout
  sync_row p (call.PolFlg id pattern m) = pol_flg id pattern m
