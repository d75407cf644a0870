-- believed: see docs/PROOF.md, "What has to be believed"
-- What records say of a semaphore.
use Rattle.std.specs.Prelude.{◌≡◌, ℕ, ◌+◌, Bool, false, List, if◌then◌else◌, length, map, sum_by}
use Rattle.fmp_codes.specs.declared.numbers.Object.{Object}
use Rattle.fmp_codes.specs.declared.calls.Call.TheVariants as call
use Rattle.fmp_codes.specs.declared.calls.SyncCall.TheVariants as sync
use Rattle.fmp_codes.specs.declared.records.Event.{Event}
use Rattle.fmp_codes.specs.declared.records.Event.TheVariants as event
use Rattle.fmp_codes.specs.declared.records.Record.{Record}
use Rattle.fmp_setup.specs.Setup.{Setup}
use Rattle.fmp_rules.specs.World.{World, item}
use Rattle.fmp_rules.specs.Objects.{semaphore}
use Rattle.fmp_law_balance.specs.Accepted.{is_accepted, one_if, names}

-- the event is a call that signals this semaphore
abbrev pub signals : Object → Event → Bool
signals s (event.Call p (call.Sync (sync.SigSem id))) = names s id
signals s (event.Call p (call.Sync (sync.IsigSem id))) = names s id
signals s other = false

-- it is a call that takes a unit of it
abbrev pub takes : Object → Event → Bool
takes s (event.Call p (call.Sync (sync.WaiSem id))) = names s id
takes s (event.Call p (call.Sync (sync.TwaiSem id timeout))) = names s id
takes s (event.Call p (call.Sync (sync.PolSem id))) = names s id
takes s other = false

-- the units that one record brings: one, if it is an accepted signal
abbrev pub brought : Object → Record → ℕ
brought s r = if signals s r.event then one_if (is_accepted r.answer) else 0

-- the units that it grants: one to the caller that took one, or one to each task that a signal released
abbrev pub granted : Object → Record → ℕ
granted s r =
    if takes s r.event then one_if (is_accepted r.answer)
    else if signals s r.event then (if is_accepted r.answer then length r.releases else 0)
    else 0

-- the count at boot and the units that were brought are the count now and the units that were granted
abbrev pub SemaphoreBalance : {Q : Type 0} → Setup → List Record → World Q → Object → Type 0
SemaphoreBalance c records w s =
    item 0 (map (λ x. x.initial) c.semaphores) s.number + sum_by (brought s) records ≡ (semaphore w s).count + sum_by (granted s) records
