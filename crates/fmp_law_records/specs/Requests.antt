-- Whether a request is pending on a processor, told by records alone.
use Rattle.std.specs.Prelude.{◌≡◌, Bool, true, false, not, ◌&&◌, ◌||◌, ◌==◌, Option, List, [], ◌∷◌, if◌then◌else◌, is_some}
use Rattle.std.specs.List.{list_any}
use Rattle.fmp_codes.specs.declared.numbers.Proc.{Proc}
use Rattle.fmp_codes.specs.declared.records.Answer.{Answer}
use Rattle.fmp_codes.specs.declared.records.Answer.TheVariants as answer
use Rattle.fmp_codes.specs.declared.records.Event.{Event}
use Rattle.fmp_codes.specs.declared.records.Event.TheVariants as event
use Rattle.fmp_codes.specs.declared.records.Record.{Record}
use Rattle.fmp_codes.specs.declared.records.Runner.{Runner}
use Rattle.fmp_codes.specs.Records.{processor_of, is_taken}
use Rattle.fmp_setup.specs.Setup.{Setup, has_time}
use Rattle.fmp_rules.specs.World as world
use Rattle.fmp_rules.specs.World.{World}
use Rattle.fmp_law_records.specs.Flags.{locked_after, disabled_after}
use Rattle.fmp_law_records.specs.Due.{HandlersReported, handlers_after, handlers_at_boot}

-- what the records say of one processor: the handlers, its locked and its disabled state, and whether a request is pending
pub record ProcessorReported : Type 0 where
  pub handlers : HandlersReported
  pub locked : Bool
  pub disabled : Bool
  pub pending : Bool

abbrev pub some_due : List Runner → Bool
some_due [] = false
some_due (h ∷ hs) = true

-- its dispatching is held
abbrev pub is_held_reported : ProcessorReported → Bool
is_held_reported x = some_due x.handlers.due || x.locked || x.disabled

abbrev pub is_held_back : Answer → Bool
is_held_back answer.Held = true
is_held_back other = false

-- the event came to its end: somebody made the call, the tick was taken, or the interrupt was not held back
abbrev pub came_to_end : Option Runner → Answer → Event → Bool
came_to_end r a (event.Call p c) = is_some r
came_to_end r a (event.Tick p) = is_taken a
came_to_end r a (event.Ipi p) = not (is_held_back a)

-- it did so on p
abbrev pub ends_on : Proc → Record → Bool
ends_on p r = (processor_of r.event).number == p.number && came_to_end r.runner r.answer r.event

abbrev pub is_among : Proc → List Proc → Bool
is_among p ps = list_any (λ q. p.number == q.number) ps

-- whether a request is pending on p after a record that leaves p held or not, where one was pending before or not: it is from the
-- record that sends it until an event on p that comes to its end and leaves p not held
abbrev pub pending_after : Proc → Record → Bool → Bool → Bool
pending_after p r held pending = if is_among p r.requests then true else if ends_on p r && not held then false else pending

abbrev pub processor_after : Setup → Proc → Record → ProcessorReported → ProcessorReported
processor_after c p r before =
    let now : ProcessorReported = record before {
      handlers = handlers_after c p r before.handlers;
      locked = locked_after p r before.locked;
      disabled = disabled_after p r before.disabled;
    } in
    record now { pending = pending_after p r (is_held_reported now) before.pending }

-- after these records of a run from boot
abbrev pub processor_by : Setup → Proc → List Record → ProcessorReported → ProcessorReported
processor_by c p [] before = before
processor_by c p (r ∷ rs) before = processor_by c p rs (processor_after c p r before)

abbrev pub processor_at_boot : Setup → ProcessorReported
processor_at_boot c = record { handlers = handlers_at_boot c; locked = false; disabled = false; pending = false }

abbrev pub report_processor : Setup → Proc → List Record → ProcessorReported
report_processor c p records = processor_by c p records (processor_at_boot c)

-- a request is pending on p just where the records say
abbrev pub IsRequestReported : {Q : Type 0} → Setup → List Record → World Q → Proc → Type 0
IsRequestReported c records w p = (world.processor w p).latch ≡ (report_processor c p records).pending

-- where this is told of p, an interrupt on p is held back just where p is held, and else takes a request just where one is pending;
-- a tick on p that counts is held back just where p is locked or a handler is due there, and else taken
pub record SignalsFit (c : Setup) (p : Proc) (before : ProcessorReported) (r : Record) : Type 0 where
  pub interrupt_held : r.event ≡ event.Ipi p → is_held_back r.answer ≡ is_held_reported before
  pub interrupt_taken : r.event ≡ event.Ipi p → is_taken r.answer ≡ (before.pending && not (is_held_reported before))
  pub tick_held : r.event ≡ event.Tick p → is_held_back r.answer ≡ (has_time c.timer p && (before.locked || some_due before.handlers.due))
  pub tick_taken : r.event ≡ event.Tick p → is_taken r.answer ≡ (has_time c.timer p && not (before.locked || some_due before.handlers.due))
