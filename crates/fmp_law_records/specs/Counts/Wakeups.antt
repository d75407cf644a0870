-- What records say of the wakeups that are queued for a task.
use Rattle.std.specs.Prelude.{◌≡◌, ℕ, pos, ◌+◌, ◌-◌, ◌≤◌, Bool, true, false, ◌&&◌, Option, Some, List, [], ◌∷◌, if◌then◌else◌}
use Rattle.fmp_codes.specs.declared.numbers.Task.{Task}
use Rattle.fmp_codes.specs.declared.calls.Call.TheVariants as call
use Rattle.fmp_codes.specs.declared.calls.TaskCall.TheVariants as task
use Rattle.fmp_codes.specs.declared.records.Event.{Event}
use Rattle.fmp_codes.specs.declared.records.Event.TheVariants as event
use Rattle.fmp_codes.specs.declared.records.Record.{Record}
use Rattle.fmp_codes.specs.declared.records.Release.{Release}
use Rattle.fmp_codes.specs.declared.records.Runner.{Runner}
use Rattle.fmp_rules.specs.World as world
use Rattle.fmp_rules.specs.World.{World}
use Rattle.fmp_law_balance.specs.Accepted.{is_accepted, accepted_value}
use Rattle.fmp_law_balance.specs.Queues.{is_task}
use Rattle.fmp_law_balance.specs.Waits.Waits.{is_number_of}
use Rattle.fmp_law_records.specs.Counts.Naming.{names_task}
use Rattle.fmp_law_records.specs.Counts.Lives.{ends}

-- the event is a call by which this task, where it runs, takes a queued wakeup or else sleeps
abbrev pub sleeps : Task → Option Runner → Event → Bool
sleeps t r (event.Call p (call.Task task.SlpTsk)) = is_task t r
sleeps t r (event.Call p (call.Task (task.TslpTsk timeout))) = is_task t r
sleeps t r other = false

-- the event is a call that wakes this task up
abbrev pub wakes : Task → Option Runner → Event → Bool
wakes t r (event.Call p (call.Task (task.WupTsk id))) = names_task t r id
wakes t r (event.Call p (call.Task (task.IwupTsk id))) = is_number_of t id
wakes t r other = false

-- the event is a call that takes back the queued wakeups of this task
abbrev pub cancels : Task → Option Runner → Event → Bool
cancels t r (event.Call p (call.Task (task.CanWup id))) = names_task t r id
cancels t r other = false

abbrev pub releases_nobody : List Release → Bool
releases_nobody [] = true
releases_nobody other = false

-- the wakeups that are queued for a task after a record, where so many were before: its end and an accepted cancellation leave
-- none, an accepted sleep of its own takes one, and an accepted wakeup of it that released nobody brings one. That a task starts
-- needs no case, since none is queued then
abbrev pub queued_after : Task → Record → ℕ → ℕ
queued_after t r queued =
    if ends t r.runner r.answer r.event then 0
    else if cancels t r.runner r.event && is_accepted r.answer then 0
    else if sleeps t r.runner r.event && is_accepted r.answer then queued - 1
    else if wakes t r.runner r.event && is_accepted r.answer && releases_nobody r.releases then queued + 1
    else queued

-- those that are queued after these records
abbrev pub queued_by : Task → List Record → ℕ → ℕ
queued_by t [] queued = queued
queued_by t (r ∷ rs) queued = queued_by t rs (queued_after t r queued)

-- of a task that is active as many wakeups are queued as the records say, where none was queued before them
abbrev pub WakeupBalance : {Q : Type 0} → List Record → World Q → Task → Type 0
WakeupBalance records w t = (world.task w t).active ≡ true → (world.task w t).wakeups ≡ queued_by t records 0

-- where so many are queued for t, a record lets t take one only if there is one, and lets a cancellation answer this number
pub record TakesWhatIsQueued (t : Task) (queued : ℕ) (r : Record) : Type 0 where
  pub taken : (sleeps t r.runner r.event && is_accepted r.answer) ≡ true → 1 ≤ queued
  pub cancelled : (cancels t r.runner r.event && is_accepted r.answer) ≡ true → accepted_value r.answer ≡ Some (pos queued)
