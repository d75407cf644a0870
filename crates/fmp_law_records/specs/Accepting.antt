-- Which calls on a task are due, by what the records before them say of this task.
use Rattle.std.specs.Prelude.{◌≡◌, Bool, true, false, ◌&&◌, ◌||◌, ◌==◌, Option, List, is_some}
use Rattle.fmp_codes.specs.declared.numbers.Proc.{Proc}
use Rattle.fmp_codes.specs.declared.numbers.Task.{Task}
use Rattle.fmp_codes.specs.declared.calls.Call.TheVariants as call
use Rattle.fmp_codes.specs.declared.calls.TaskCall.{TaskCall}
use Rattle.fmp_codes.specs.declared.calls.TaskCall.TheVariants as tasks
use Rattle.fmp_codes.specs.declared.codes.Code.TheVariants as code
use Rattle.fmp_codes.specs.declared.records.Answer.{Answer}
use Rattle.fmp_codes.specs.declared.records.Answer.TheVariants as answer
use Rattle.fmp_codes.specs.declared.records.Event.{Event}
use Rattle.fmp_codes.specs.declared.records.Event.TheVariants as event
use Rattle.fmp_codes.specs.declared.records.Record.{Record}
use Rattle.fmp_codes.specs.declared.records.Runner.{Runner}
use Rattle.fmp_setup.specs.Setup.{Setup}
use Rattle.fmp_law_balance.specs.Accepted.{is_accepted}
use Rattle.fmp_law_balance.specs.Queues.{is_task}
use Rattle.fmp_law_balance.specs.Waits.Asked.{OpenWait}
use Rattle.fmp_law_balance.specs.Waits.Waits.{is_number_of, nobody_waits, after_records}
use Rattle.fmp_law_records.specs.Counts.Naming.{names_task}
use Rattle.fmp_law_records.specs.Suspensions.{suspended_by, is_overflow}
use Rattle.fmp_law_records.specs.Lives.{LifeReported, report_life}

-- what the records say of a task
pub record TaskReported : Type 0 where
  pub life : LifeReported
  pub suspended : Bool
  pub wait : Option OpenWait

-- after these records of a run from boot
abbrev pub report_task : Setup → Task → List Record → TaskReported
report_task c t records = record { life = report_life c t records; suspended = suspended_by t records false; wait = after_records c nobody_waits records t }

-- the task that the call is about, where this runs: the one that its argument names, or who makes it
abbrev pub is_about : Task → Option Runner → TaskCall → Bool
is_about t r (tasks.ActTsk id) = names_task t r id
is_about t r (tasks.IactTsk id) = is_number_of t id
is_about t r (tasks.MactTsk id to) = names_task t r id
is_about t r (tasks.ImactTsk id to) = is_number_of t id
is_about t r (tasks.CanAct id) = names_task t r id
is_about t r (tasks.MigTsk id to) = names_task t r id
is_about t r tasks.ExtTsk = is_task t r
is_about t r (tasks.TerTsk id) = is_number_of t id
is_about t r (tasks.ChgPri id n) = names_task t r id
is_about t r (tasks.GetPri id) = names_task t r id
is_about t r tasks.SlpTsk = is_task t r
is_about t r (tasks.TslpTsk timeout) = is_task t r
is_about t r (tasks.WupTsk id) = names_task t r id
is_about t r (tasks.IwupTsk id) = is_number_of t id
is_about t r (tasks.CanWup id) = names_task t r id
is_about t r (tasks.RelWai id) = is_number_of t id
is_about t r (tasks.IrelWai id) = is_number_of t id
is_about t r (tasks.SusTsk id) = names_task t r id
is_about t r (tasks.RsmTsk id) = is_number_of t id
is_about t r (tasks.DlyTsk time) = is_task t r

-- the state of the task suits the call, which is made on p: it is active, waits, is suspended or is assigned to p, as the call asks
abbrev pub suits : Proc → TaskCall → TaskReported → Bool
suits p (tasks.MigTsk id to) x = x.life.at.number == p.number
suits p (tasks.TerTsk id) x = x.life.active && x.life.at.number == p.number
suits p (tasks.ChgPri id n) x = x.life.active
suits p (tasks.GetPri id) x = x.life.active
suits p (tasks.WupTsk id) x = x.life.active
suits p (tasks.IwupTsk id) x = x.life.active
suits p (tasks.CanWup id) x = x.life.active
suits p (tasks.RelWai id) x = is_some x.wait
suits p (tasks.IrelWai id) x = is_some x.wait
suits p (tasks.SusTsk id) x = x.life.active
suits p (tasks.RsmTsk id) x = x.suspended
suits p other x = true

-- what the call asks for is there already: an activation is queued, or the task is suspended
abbrev pub is_full : TaskCall → TaskReported → Bool
is_full (tasks.ActTsk id) x = x.life.active && is_some x.life.queued
is_full (tasks.IactTsk id) x = x.life.active && is_some x.life.queued
is_full (tasks.MactTsk id to) x = x.life.active && is_some x.life.queued
is_full (tasks.ImactTsk id to) x = x.life.active && is_some x.life.queued
is_full (tasks.SusTsk id) x = x.suspended
is_full other x = false

-- of wakeups more than one can be queued
abbrev pub is_wakeup : TaskCall → Bool
is_wakeup (tasks.WupTsk id) = true
is_wakeup (tasks.IwupTsk id) = true
is_wakeup other = false

-- a call answered that the state of its object does not suit it
abbrev pub is_unsuited : Answer → Bool
is_unsuited (answer.Done code.ObjectState value) = true
is_unsuited other = false

-- where this is told of the task of a call that is made on p, the call is accepted only if the state of the task suits it and nothing
-- is full, is refused as unsuited only if it does not, and as one too many only if it does and it is full
pub record AnswerFits (p : Proc) (c : TaskCall) (before : TaskReported) (a : Answer) : Type 0 where
  pub suited : is_accepted a ≡ true → suits p c before ≡ true
  pub free : is_accepted a ≡ true → is_full c before ≡ false
  pub unsuited : is_unsuited a ≡ true → suits p c before ≡ false
  pub too_many : is_overflow a ≡ true → suits p c before ≡ true
  pub full : is_overflow a ≡ true → (is_wakeup c || is_full c before) ≡ true

-- so it is of an event that is a call on this task
abbrev pub EventFits : Task → TaskReported → Option Runner → Answer → Event → Type 0
EventFits t before r a (event.Call p (call.Task c)) = is_about t r c ≡ true → AnswerFits p c before a
EventFits t before r a other = Unit {0}

abbrev pub TaskCallFits : Task → TaskReported → Record → Type 0
TaskCallFits t before r = EventFits t before r.runner r.answer r.event
