-- What records say of the priority of a task.
use Rattle.std.specs.Prelude.{◌≡◌, ℤ, pos, Bool, true, false, ◌&&◌, ◌==◌, Option, None, Some, List, [], ◌∷◌, if◌then◌else◌}
use Rattle.std.specs.Option.{option_map_or}
use Rattle.fmp_law_balance.specs.Words.{natural_in}
use Rattle.fmp_codes.specs.Numbers.{as_pri}
use Rattle.fmp_codes.specs.declared.numbers.Task.{Task}
use Rattle.fmp_codes.specs.declared.numbers.Pri.{Pri}
use Rattle.fmp_codes.specs.declared.calls.Call.TheVariants as call
use Rattle.fmp_codes.specs.declared.calls.TaskCall.TheVariants as task
use Rattle.fmp_codes.specs.declared.records.Event.{Event}
use Rattle.fmp_codes.specs.declared.records.Event.TheVariants as event
use Rattle.fmp_codes.specs.declared.records.Record.{Record}
use Rattle.fmp_codes.specs.declared.records.Runner.{Runner}
use Rattle.fmp_setup.specs.Setup.{Setup}
use Rattle.fmp_rules.specs.World as world
use Rattle.fmp_rules.specs.World.{World}
use Rattle.fmp_law_balance.specs.Accepted.{is_accepted, accepted_value}
use Rattle.fmp_law_balance.specs.Waits.Waits.{setup_of}
use Rattle.fmp_law_records.specs.Counts.Naming.{names_task}
use Rattle.fmp_law_records.specs.Counts.Lives.{ends}

-- the priority that a call gives this task, where this runs: the argument, of which 0 is the initial one
abbrev pub given_by : Pri → ℤ → Pri
given_by initial id = option_map_or (λ n. if n == 0 then initial else as_pri n) (natural_in id) initial

abbrev pub gives_priority : Pri → Task → Option Runner → Event → Option Pri
gives_priority initial t r (event.Call p (call.Task (task.ChgPri id n))) = if names_task t r id then Some (given_by initial n) else None
gives_priority initial t r other = None

-- the event is a call that asks for the priority of this task
abbrev pub asks_priority : Task → Option Runner → Event → Bool
asks_priority t r (event.Call p (call.Task (task.GetPri id))) = names_task t r id
asks_priority t r other = false

abbrev pub given_or : Option Pri → Pri → Pri
given_or None before = before
given_or (Some x) before = x

-- the priority of a task with this initial one after a record, where it had another before: an end leaves it the initial one for
-- its next life, an accepted call gives it one, and nothing else does
abbrev pub priority_after : Pri → Task → Record → Pri → Pri
priority_after initial t r before =
    if ends t r.runner r.answer r.event then initial
    else if is_accepted r.answer then given_or (gives_priority initial t r.runner r.event) before
    else before

abbrev pub priority_by : Pri → Task → List Record → Pri → Pri
priority_by initial t [] before = before
priority_by initial t (r ∷ rs) before = priority_by initial t rs (priority_after initial t r before)

-- the priority of a task after these records of a run from boot
abbrev pub report_priority : Setup → Task → List Record → Pri
report_priority c t records = let initial = (setup_of c t).priority in priority_by initial t records initial

-- an active task has the priority that these records say
abbrev pub IsPriorityReported : {Q : Type 0} → Setup → List Record → World Q → Task → Type 0
IsPriorityReported c records w t = (world.task w t).active ≡ true → (world.task w t).priority ≡ report_priority c t records

-- who asks for the priority of t is told this one
abbrev pub TellsPriority : Task → Pri → Record → Type 0
TellsPriority t before r = (asks_priority t r.runner r.event && is_accepted r.answer) ≡ true → accepted_value r.answer ≡ Some (pos before.number)
