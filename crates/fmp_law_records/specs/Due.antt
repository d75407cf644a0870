-- Which handlers are due on a processor, told by records alone.
use Rattle.std.specs.Prelude.{◌≡◌, Bool, true, false, ◌&&◌, ◌==◌, Option, Some, List, [], ◌∷◌, ◌++◌, if◌then◌else◌, map, drop}
use Rattle.fmp_codes.specs.declared.numbers.Proc.{Proc}
use Rattle.fmp_codes.specs.declared.numbers.Object.{Object}
use Rattle.fmp_codes.specs.declared.calls.Call.TheVariants as call
use Rattle.fmp_codes.specs.declared.records.Answer.{Answer}
use Rattle.fmp_codes.specs.declared.records.Event.{Event}
use Rattle.fmp_codes.specs.declared.records.Event.TheVariants as event
use Rattle.fmp_codes.specs.declared.records.Record.{Record}
use Rattle.fmp_codes.specs.declared.records.Runner.{Runner}
use Rattle.fmp_codes.specs.declared.records.Runner.TheVariants as runner
use Rattle.fmp_codes.specs.Records.{is_taken}
use Rattle.fmp_setup.specs.declared.setup.Timer.{Timer}
use Rattle.fmp_setup.specs.Setup.{Setup}
use Rattle.fmp_law_balance.specs.Words.{is_clocked_by}
use Rattle.fmp_rules.specs.World.{World, item}
use Rattle.fmp_law_balance.specs.Accepted.{is_accepted}
use Rattle.fmp_law_records.specs.Counts.Alarms.{is_last}
use Rattle.fmp_law_records.specs.Counts.Due.{by_number}
use Rattle.fmp_law_records.specs.Handlers.{HandlerReported, alarm_after, alarm_at_boot, cyclic_after, cyclic_reported_at_boot}

-- what the records say of the alarms, of the cyclic handlers, and of those that are due on one processor, the running one first
pub record HandlersReported : Type 0 where
  pub alarms : Object → HandlerReported
  pub cyclics : Object → HandlerReported
  pub due : List Runner

-- a tick on p takes the last one that is left of it
abbrev pub is_at_end : Timer → Proc → HandlerReported → Bool
is_at_end timer p report = is_clocked_by timer p report.at && is_last report.left

-- the handlers that a tick on p makes due there: the alarms and then the cyclic handlers, by number
abbrev pub made_due : Setup → Proc → HandlersReported → List Runner
made_due c p before =
    map runner.Alarm (by_number c.alarms (λ a. is_at_end c.timer p (before.alarms a)))
    ++ map runner.Cyclic (by_number c.cyclics (λ o. is_at_end c.timer p (before.cyclics o)))

-- a tick was taken on p
abbrev pub ticks_on : Proc → Answer → Event → Bool
ticks_on p a (event.Tick q) = is_taken a && (q.number == p.number)
ticks_on p a other = false

-- the handler that ran on p returned
abbrev pub returns_on : Proc → Answer → Event → Bool
returns_on p a (event.Call q call.RetHdr) = is_accepted a && (q.number == p.number)
returns_on p a other = false

-- the handlers that are due on p after a record: a tick puts those that it makes due last, and a return takes the first away
abbrev pub due_after : Setup → Proc → Record → HandlersReported → List Runner
due_after c p r before =
    if ticks_on p r.answer r.event then before.due ++ made_due c p before
    else if returns_on p r.answer r.event then drop 1 before.due
    else before.due

abbrev pub handlers_after : Setup → Proc → Record → HandlersReported → HandlersReported
handlers_after c p r before = record {
  alarms = λ a. alarm_after c a r (before.alarms a);
  cyclics = λ o. cyclic_after c o r (before.cyclics o);
  due = due_after c p r before;
}

-- after these records of a run from boot
abbrev pub handlers_by : Setup → Proc → List Record → HandlersReported → HandlersReported
handlers_by c p [] before = before
handlers_by c p (r ∷ rs) before = handlers_by c p rs (handlers_after c p r before)

abbrev pub handlers_at_boot : Setup → HandlersReported
handlers_at_boot c = record { alarms = alarm_at_boot c; cyclics = cyclic_reported_at_boot c; due = [] }

-- the handlers that are due on p, in their order, are those that the records say
abbrev pub AreDueReported : {Q : Type 0} → Setup → List Record → World Q → Proc → Type 0
AreDueReported c records w p = item [] w.due p.number ≡ (handlers_by c p records (handlers_at_boot c)).due

abbrev pub is_handler : Option Runner → Bool
is_handler (Some (runner.Alarm a)) = true
is_handler (Some (runner.Cyclic c)) = true
is_handler other = false

-- where these handlers are due, the first of them runs, and where none is no handler runs
abbrev pub RunsFirst : List Runner → Option Runner → Type 0
RunsFirst [] r = is_handler r ≡ false
RunsFirst (h ∷ hs) r = r ≡ Some h
