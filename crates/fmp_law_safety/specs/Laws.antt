-- The laws of interrupts and of dispatching, of one step from an old state to a new one with its record.
use Rattle.std.specs.Prelude.{◌≡◌, ◌≢◌, ◌≤◌, Bool, true, false, None, length}
use Rattle.fmp_codes.specs.declared.numbers.Proc.{Proc}
use Rattle.fmp_codes.specs.declared.numbers.Task.{Task}
use Rattle.fmp_codes.specs.declared.numbers.Object.{Object}
use Rattle.fmp_codes.specs.declared.records.Event.{Event}
use Rattle.fmp_codes.specs.declared.records.Event.TheVariants as event
use Rattle.fmp_codes.specs.declared.codes.Code.TheVariants as code
use Rattle.fmp_codes.specs.declared.records.Answer.{Answer}
use Rattle.fmp_codes.specs.declared.records.Answer.TheVariants as answer
use Rattle.fmp_codes.specs.declared.records.Record.{Record}
use Rattle.fmp_setup.specs.Setup.{counts_for}
use Rattle.fmp_rules.specs.World.{World, item, task, processor, is_held}
use Rattle.fmp_rules.specs.Objects.{cyclic, alarm}
use Rattle.fmp_rules.specs.Tick.{counted_down, is_over}
use Rattle.fmp_rules.specs.Ordering.{Ordering, top}
use Rattle.fmp_rules.specs.Step.{tops, settle}
use Rattle.fmp_law_safety.specs.Safe.{Safe}
use Rattle.fmp_law_safety.specs.Runs.{processor_of}

-- an interrupt on a processor that is not held and has no request pending answers `none` and changes nothing
abbrev pub FindsNothing : {Q : Type 0} → Ordering Q → World Q → Event → Record → World Q → Type 0
FindsNothing k old (event.Ipi p) did new =
    Safe k old → p.number ≤ length old.processors → is_held old p ≡ false → (processor old p).latch ≡ false →
    (did.answer ≡ answer.Nothing) × (new ≡ old)
FindsNothing k old other did new = Unit {0}

-- an interrupt that answers `taken` leaves its processor not held and no request to it pending
abbrev pub TakesRequest : {Q : Type 0} → World Q → Event → Record → World Q → Type 0
TakesRequest old (event.Ipi p) did new =
    p.number ≤ length old.processors → did.answer ≡ answer.Taken → (is_held new p ≡ false) × ((processor new p).latch ≡ false)
TakesRequest old other did new = Unit {0}

-- the event was no call without a caller, no tick or interrupt that is held back, and no tick that does not count
pub record Settles (did : Record) : Type 0 where
  pub answered : did.answer ≢ answer.Idle
  pub taken : did.answer ≢ answer.Held
  pub counted : (p : Proc) → did.event ≡ event.Tick p → did.answer ≢ answer.Nothing

-- after an event that settles and leaves its processor not held, this runs its top and no request to it is pending
abbrev pub RunsTop : {Q : Type 0} → Ordering Q → World Q → Event → Record → World Q → Type 0
RunsTop k old e did new =
    Safe k old → (processor_of e).number ≤ length old.processors → Settles did → is_held new (processor_of e) ≡ false →
    ((processor new (processor_of e)).running ≡ top k new (processor_of e)) × ((processor new (processor_of e)).latch ≡ false)

-- the call did nothing: it was refused with a code other than E_OK, or it found its spin lock taken
abbrev pub is_refusal : Answer → Bool
is_refusal (answer.Done code.Accepted value) = false
is_refusal (answer.Done other value) = true
is_refusal answer.Spin = true
is_refusal other = false

-- a call that did nothing changes nothing but that its processor dispatches, as at the end of every event
abbrev pub OnlyDispatches : {Q : Type 0} → Ordering Q → World Q → Event → Record → World Q → Type 0
OnlyDispatches k old (event.Call p c) did new = is_refusal did.answer ≡ true → new ≡ settle k (tops k old) old p
OnlyDispatches k old other did new = Unit {0}

-- what reaches 0 at a tick on p are waits for which it counts, and cyclic handlers and alarms that are assigned to p, also under a global timer
pub record ServesItsOwn {Q : Type 0} (w : World Q) (p : Proc) : Type 0 where
  pub waits : (t : Task) → is_over (item None (counted_down w p).waits_left t.number) ≡ true → counts_for w.timer p (task w t).assigned ≡ true
  pub cyclics : (c : Object) → is_over (item None (counted_down w p).cyclics_left c.number) ≡ true → (cyclic w c).assigned.number ≡ p.number
  pub alarms : (a : Object) → is_over (item None (counted_down w p).alarms_left a.number) ≡ true → (alarm w a).assigned.number ≡ p.number
