-- What records say of the activations of a task.
use Rattle.std.specs.Prelude.{◌≡◌, ℕ, ℤ, pos, ◌+◌, Bool, false, ◌&&◌, Option, Some, List, if◌then◌else◌, map, sum_by}
use Rattle.fmp_codes.specs.declared.numbers.Task.{Task}
use Rattle.fmp_codes.specs.declared.calls.Call.TheVariants as call
use Rattle.fmp_codes.specs.declared.calls.TaskCall.TheVariants as task
use Rattle.fmp_codes.specs.declared.records.Answer.{Answer}
use Rattle.fmp_codes.specs.declared.records.Answer.TheVariants as answer
use Rattle.fmp_codes.specs.declared.records.Event.{Event}
use Rattle.fmp_codes.specs.declared.records.Event.TheVariants as event
use Rattle.fmp_codes.specs.declared.records.Record.{Record}
use Rattle.fmp_codes.specs.declared.records.Runner.{Runner}
use Rattle.fmp_codes.specs.Records.{is_gone}
use Rattle.fmp_setup.specs.Setup.{Setup}
use Rattle.fmp_rules.specs.World as world
use Rattle.fmp_rules.specs.World.{World, item}
use Rattle.fmp_law_balance.specs.Accepted.{is_accepted, accepted_value, one_if}
use Rattle.fmp_law_balance.specs.Queues.{is_task}
use Rattle.fmp_law_balance.specs.Waits.Waits.{is_number_of}
use Rattle.fmp_law_records.specs.Counts.Naming.{names_task}

-- the event is a call that activates this task, where this runs
abbrev pub activates : Task → Option Runner → Event → Bool
activates t r (event.Call p (call.Task (task.ActTsk id))) = names_task t r id
activates t r (event.Call p (call.Task (task.IactTsk id))) = is_number_of t id
activates t r (event.Call p (call.Task (task.MactTsk id to))) = names_task t r id
activates t r (event.Call p (call.Task (task.ImactTsk id to))) = is_number_of t id
activates t r other = false

-- how often one record activates it: once, if it is an accepted activation
abbrev pub activated : Task → Record → ℕ
activated t r = if activates t r.runner r.event then one_if (is_accepted r.answer) else 0

-- with this answer the event ends a life of this task: its own exit, or an accepted termination of it
abbrev pub ends : Task → Option Runner → Answer → Event → Bool
ends t r a (event.Call p (call.Task task.ExtTsk)) = is_gone a && is_task t r
ends t r a (event.Call p (call.Task (task.TerTsk id))) = is_accepted a && is_number_of t id
ends t r a other = false

-- how many of its lives one record ends
abbrev pub ended : Task → Record → ℕ
ended t r = one_if (ends t r.runner r.answer r.event)

-- the event is a call that takes back the queued activations of this task
abbrev pub takes_back : Task → Option Runner → Event → Bool
takes_back t r (event.Call p (call.Task (task.CanAct id))) = names_task t r id
takes_back t r other = false

-- a value, if it is one of 0 or more
abbrev pub amount : Option ℤ → ℕ
amount (Some (pos n)) = n
amount other = 0

-- how many activations of it one record takes back: so many as an accepted call answers
abbrev pub taken_back : Task → Record → ℕ
taken_back t r = if takes_back t r.runner r.event then amount (accepted_value r.answer) else 0

-- its activations, of which its start at boot is one, are the life that goes on, the queued ones, the lives that ended and
-- the activations that were taken back
abbrev pub ActivationBalance : {Q : Type 0} → Setup → List Record → World Q → Task → Type 0
ActivationBalance c records w t =
    one_if (item false (map (λ s. s.starts) c.tasks) t.number) + sum_by (activated t) records
    ≡ one_if (world.task w t).active + (world.task w t).activations + sum_by (ended t) records + sum_by (taken_back t) records
