-- What records say of the suspension of a task.
use Rattle.std.specs.Prelude.{◌≡◌, Bool, true, false, ◌&&◌, ◌==◌, Option, Some, List, [], ◌∷◌, if◌then◌else◌}
use Rattle.fmp_codes.specs.declared.numbers.Task.{Task}
use Rattle.fmp_codes.specs.declared.calls.Call.TheVariants as call
use Rattle.fmp_codes.specs.declared.calls.TaskCall.TheVariants as task
use Rattle.fmp_codes.specs.declared.codes.Code.TheVariants as code
use Rattle.fmp_codes.specs.declared.records.Answer.{Answer}
use Rattle.fmp_codes.specs.declared.records.Answer.TheVariants as answer
use Rattle.fmp_codes.specs.declared.records.Event.{Event}
use Rattle.fmp_codes.specs.declared.records.Event.TheVariants as event
use Rattle.fmp_codes.specs.declared.records.Record.{Record}
use Rattle.fmp_codes.specs.declared.records.Runner.{Runner}
use Rattle.fmp_rules.specs.World as world
use Rattle.fmp_rules.specs.World.{World}
use Rattle.fmp_law_balance.specs.Accepted.{is_accepted}
use Rattle.fmp_law_balance.specs.Waits.Waits.{is_number_of}
use Rattle.fmp_law_records.specs.Counts.Naming.{names_task}
use Rattle.fmp_law_records.specs.Counts.Lives.{ends}

-- the event is a call that suspends this task, where this runs
abbrev pub suspends : Task → Option Runner → Event → Bool
suspends t r (event.Call p (call.Task (task.SusTsk id))) = names_task t r id
suspends t r other = false

-- it is a call that resumes it
abbrev pub resumes : Task → Event → Bool
resumes t (event.Call p (call.Task (task.RsmTsk id))) = is_number_of t id
resumes t other = false

-- whether a task is suspended after a record, where it was so or not before: an end leaves it not suspended, an accepted call
-- suspends or resumes it, and nothing else does
abbrev pub suspended_after : Task → Record → Bool → Bool
suspended_after t r suspended =
    if ends t r.runner r.answer r.event then false
    else if suspends t r.runner r.event && is_accepted r.answer then true
    else if resumes t r.event && is_accepted r.answer then false
    else suspended

-- whether it is so after these records
abbrev pub suspended_by : Task → List Record → Bool → Bool
suspended_by t [] suspended = suspended
suspended_by t (r ∷ rs) suspended = suspended_by t rs (suspended_after t r suspended)

-- a task is suspended where these records say so, and before them no task is
abbrev pub IsSuspensionReported : {Q : Type 0} → List Record → World Q → Task → Type 0
IsSuspensionReported records w t = (world.task w t).suspended ≡ suspended_by t records false

-- a call answered that a count is at its limit: the task is suspended already
abbrev pub is_overflow : Answer → Bool
is_overflow (answer.Done code.QueueOverflow value) = true
is_overflow other = false

-- from now on the processor of the event runs this task
abbrev pub begins_to_run : Task → Option (Option Task) → Bool
begins_to_run t (Some (Some u)) = t.number == u.number
begins_to_run t other = false

-- where a task is suspended before a record, or is not, this suspends it only if it is not and refuses that only if it is, resumes
-- it only if it is, and lets it begin to run only if it is not suspended then
pub record SuspensionFits (t : Task) (suspended : Bool) (r : Record) : Type 0 where
  pub begun : (suspends t r.runner r.event && is_accepted r.answer) ≡ true → suspended ≡ false
  pub twice : (suspends t r.runner r.event && is_overflow r.answer) ≡ true → suspended ≡ true
  pub ended : (resumes t r.event && is_accepted r.answer) ≡ true → suspended ≡ true
  pub runs : begins_to_run t r.run_change ≡ true → suspended_after t r suspended ≡ false
