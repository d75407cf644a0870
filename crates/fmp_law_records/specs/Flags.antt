-- What records say of the locked and the disabled state of a processor.
use Rattle.std.specs.Prelude.{◌≡◌, ℤ, pos, Bool, true, false, ◌&&◌, ◌==◌, Option, None, Some, List, [], ◌∷◌, if◌then◌else◌}
use Rattle.fmp_codes.specs.declared.numbers.Proc.{Proc}
use Rattle.fmp_codes.specs.declared.calls.Call.{Call}
use Rattle.fmp_codes.specs.declared.calls.Call.TheVariants as call
use Rattle.fmp_codes.specs.declared.calls.TaskCall.TheVariants as task
use Rattle.fmp_codes.specs.declared.calls.SystemCall.TheVariants as system
use Rattle.fmp_codes.specs.declared.calls.SpinCall.TheVariants as spin
use Rattle.fmp_codes.specs.declared.records.Answer.{Answer}
use Rattle.fmp_codes.specs.declared.records.Event.{Event}
use Rattle.fmp_codes.specs.declared.records.Event.TheVariants as event
use Rattle.fmp_codes.specs.declared.records.Record.{Record}
use Rattle.fmp_codes.specs.Records.{is_gone}
use Rattle.fmp_rules.specs.World as world
use Rattle.fmp_rules.specs.World.{World}
use Rattle.fmp_law_balance.specs.Accepted.{is_accepted, accepted_value}

-- the call that an event on this processor makes
abbrev pub call_on : Proc → Event → Option Call
call_on p (event.Call q c) = if q.number == p.number then Some c else None
call_on p other = None

-- it locks its processor
abbrev pub locks : Option Call → Bool
locks (Some (call.System system.LocCpu)) = true
locks (Some (call.System system.IlocCpu)) = true
locks (Some (call.Spin (spin.LocSpn id))) = true
locks (Some (call.Spin (spin.IlocSpn id))) = true
locks (Some (call.Spin (spin.TrySpn id))) = true
locks (Some (call.Spin (spin.ItrySpn id))) = true
locks other = false

-- it unlocks it
abbrev pub unlocks : Option Call → Bool
unlocks (Some (call.System system.UnlCpu)) = true
unlocks (Some (call.System system.IunlCpu)) = true
unlocks (Some (call.Spin (spin.UnlSpn id))) = true
unlocks (Some (call.Spin (spin.IunlSpn id))) = true
unlocks (Some call.RetHdr) = true
unlocks other = false

-- it ends its caller
abbrev pub leaves : Option Call → Answer → Bool
leaves (Some (call.Task task.ExtTsk)) a = is_gone a
leaves other a = false

-- whether its processor is locked after it, with this answer, where it was or not before
abbrev pub locked_with : Option Call → Answer → Bool → Bool
locked_with c a locked =
    if leaves c a then false
    else if locks c && is_accepted a then true
    else if unlocks c && is_accepted a then false
    else locked

abbrev pub disables : Option Call → Bool
disables (Some (call.System system.DisDsp)) = true
disables other = false

abbrev pub enables : Option Call → Bool
enables (Some (call.System system.EnaDsp)) = true
enables other = false

-- and whether its dispatching is disabled
abbrev pub disabled_with : Option Call → Answer → Bool → Bool
disabled_with c a disabled =
    if leaves c a then false
    else if disables c && is_accepted a then true
    else if enables c && is_accepted a then false
    else disabled

-- so it is of p after a record
abbrev pub locked_after : Proc → Record → Bool → Bool
locked_after p r locked = locked_with (call_on p r.event) r.answer locked

abbrev pub disabled_after : Proc → Record → Bool → Bool
disabled_after p r disabled = disabled_with (call_on p r.event) r.answer disabled

abbrev pub locked_by : Proc → List Record → Bool → Bool
locked_by p [] locked = locked
locked_by p (r ∷ rs) locked = locked_by p rs (locked_after p r locked)

abbrev pub disabled_by : Proc → List Record → Bool → Bool
disabled_by p [] disabled = disabled
disabled_by p (r ∷ rs) disabled = disabled_by p rs (disabled_after p r disabled)

-- a processor is locked, and its dispatching disabled, where the records say so
pub record AreFlagsReported {Q : Type 0} (records : List Record) (w : World Q) (p : Proc) : Type 0 where
  pub locked : (world.processor w p).locked ≡ locked_by p records false
  pub disabled : (world.processor w p).disabled ≡ disabled_by p records false

-- what a call asks of the state of its processor, where it is locked and disabled so
abbrev pub asked_of : Option Call → Bool → Bool → Option Bool
asked_of (Some (call.System system.SnsLoc)) locked disabled = Some locked
asked_of (Some (call.System system.SnsDsp)) locked disabled = Some disabled
asked_of other locked disabled = None

abbrev pub number_if : Bool → ℤ
number_if b = pos (if b then 1 else 0)

-- where p is locked and disabled so before a record, who asks on p is told it
abbrev pub TellsFlags : Proc → Bool → Bool → Record → Type 0
TellsFlags p locked disabled r = (b : Bool) → is_accepted r.answer ≡ true → asked_of (call_on p r.event) locked disabled ≡ Some b
    → accepted_value r.answer ≡ Some (number_if b)
