-- What records say of the life of a task: whether it is active, which activation is queued, and where it is assigned.
use Rattle.std.specs.Prelude.{◌≡◌, ℕ, ℤ, Bool, true, false, Option, None, Some, List, [], ◌∷◌, if◌then◌else◌, option_map, unwrap_or}
use Rattle.fmp_codes.specs.declared.numbers.Proc.{Proc}
use Rattle.fmp_codes.specs.declared.numbers.Task.{Task}
use Rattle.fmp_codes.specs.declared.calls.Call.TheVariants as call
use Rattle.fmp_codes.specs.declared.calls.TaskCall.TheVariants as task
use Rattle.fmp_codes.specs.declared.records.Event.{Event}
use Rattle.fmp_codes.specs.declared.records.Event.TheVariants as event
use Rattle.fmp_codes.specs.declared.records.Record.{Record}
use Rattle.fmp_codes.specs.declared.records.Runner.{Runner}
use Rattle.fmp_setup.specs.declared.setup.Class.{Class}
use Rattle.fmp_setup.specs.Setup.{Setup}
use Rattle.fmp_rules.specs.World as world
use Rattle.fmp_rules.specs.World.{World}
use Rattle.fmp_law_balance.specs.Accepted.{is_accepted}
use Rattle.fmp_law_balance.specs.Waits.Waits.{setup_of}
use Rattle.fmp_law_records.specs.Counts.Naming.{names_task}
use Rattle.fmp_law_records.specs.Counts.Lives.{activates, takes_back, ends}
use Rattle.fmp_law_records.specs.Handlers.{taken_to}

-- what the records say of it. A queued activation is for a processor that its call named, or for none
pub record LifeReported : Type 0 where
  pub active : Bool
  pub queued : Option (Option Proc)
  pub at : Proc

-- the processor that an activation names
abbrev pub activates_for : Event → Option ℤ
activates_for (event.Call p (call.Task (task.MactTsk id to))) = Some to
activates_for (event.Call p (call.Task (task.ImactTsk id to))) = Some to
activates_for other = None

-- the processor to which a call migrates this task
abbrev pub migrates_to : Task → Option Runner → Event → Option ℤ
migrates_to t r (event.Call p (call.Task (task.MigTsk id to))) = if names_task t r id then Some to else None
migrates_to t r other = None

-- after an activation for the processor that is named: a dormant task begins a life there, or where it is assigned if none is named,
-- and of an active one the activation is queued
abbrev pub life_activated : Class → Option ℤ → LifeReported → LifeReported
life_activated class to before =
    if before.active then record before { queued = Some (option_map (λ n. taken_to class (Some n) before.at) to) }
    else record before { active = true; at = taken_to class to before.at }

-- after an end: the queued activation begins another life, and without one the task is dormant
abbrev pub life_ended : Option (Option Proc) → Proc → LifeReported
life_ended None at = record { active = false; queued = None; at = at }
life_ended (Some to) at = record { active = true; queued = None; at = unwrap_or to at }

-- after a record
abbrev pub life_after : Class → Task → Record → LifeReported → LifeReported
life_after class t r before =
    if ends t r.runner r.answer r.event then life_ended before.queued before.at
    else if is_accepted r.answer then (
    if activates t r.runner r.event then life_activated class (activates_for r.event) before
    else if takes_back t r.runner r.event then record before { queued = None }
    else record before { at = taken_to class (migrates_to t r.runner r.event) before.at }
    )
    else before

abbrev pub life_by : Class → Task → List Record → LifeReported → LifeReported
life_by class t [] before = before
life_by class t (r ∷ rs) before = life_by class t rs (life_after class t r before)

abbrev pub life_at_boot : Setup → Task → LifeReported
life_at_boot c t = record { active = (setup_of c t).starts; queued = None; at = (setup_of c t).class.initial }

-- after these records of a run from boot
abbrev pub report_life : Setup → Task → List Record → LifeReported
report_life c t records = life_by (setup_of c t).class t records (life_at_boot c t)

-- how many activations are queued, and the processor of the one that is
abbrev pub queued_count : Option (Option Proc) → ℕ
queued_count None = 0
queued_count (Some to) = 1

abbrev pub queued_for : Option (Option Proc) → Option Proc
queued_for None = None
queued_for (Some to) = to

-- a task is active, its activations are queued, and it is assigned, as the records say
pub record IsLifeReported {Q : Type 0} (c : Setup) (records : List Record) (w : World Q) (t : Task) : Type 0 where
  pub active : (world.task w t).active ≡ (report_life c t records).active
  pub at : (world.task w t).assigned ≡ (report_life c t records).at
  pub activations : (world.task w t).activations ≡ queued_count (report_life c t records).queued
  pub kept : (world.task w t).kept ≡ queued_for (report_life c t records).queued
