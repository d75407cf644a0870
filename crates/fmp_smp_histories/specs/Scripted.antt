-- What the scripts ask of each processor, and histories that are made of that.
use Rattle.std.specs.Prelude.{◌≡◌, ◌⊎◌, ℕ, ◌-◌, Bool, not, ◌&&◌, List, take, Option, Some, None, option_map, unwrap_or, if◌then◌else◌, slice_get}
use Rattle.fmp_codes.specs.Records.{processor_of}
use Rattle.fmp_codes.specs.declared.numbers.Proc.{Proc}
use Rattle.fmp_codes.specs.declared.calls.Call.{Call}
use Rattle.fmp_codes.specs.declared.calls.Call.TheVariants as call
use Rattle.fmp_codes.specs.declared.calls.TaskCall.TheVariants as task_call
use Rattle.fmp_codes.specs.declared.records.Event.{Event}
use Rattle.fmp_codes.specs.declared.records.Event.TheVariants as event
use Rattle.fmp_codes.specs.declared.records.Runner.{Runner}
use Rattle.fmp_codes.specs.declared.records.Runner.TheVariants as runner
use Rattle.fmp_codes.specs.declared.records.Record.{Record}
use Rattle.fmp_text_scripts.specs.Scripts.{Steps, script_of_option}
use Rattle.fmp_setup.specs.Setup.{Setup}
use Rattle.fmp_rules.specs.World.{processor, runner_of, is_held}
use Rattle.fmp_rules.specs.Arrivals.{State}
use Rattle.fmp_smp_histories.specs.Histories.{state_after}
use Rattle.fmp_smp_histories.specs.Positions.{function_of, task_position, handler_position}

-- what a runner asks after the last step of its script: a task ends, and a handler returns
abbrev pub last_of : Runner → Call
last_of (runner.Task t) = call.Task task_call.ExtTsk
last_of other = call.RetHdr

-- what a runner asks at a position of its script
abbrev pub asked_at : Setup → List Steps → Runner → ℕ → Call
asked_at c scripts r n = unwrap_or (slice_get (script_of_option scripts (function_of c r)) n) (last_of r)

-- the position in its script of a runner on a processor
abbrev pub position_of : Setup → List Steps → Runner → Proc → List Record → ℕ
position_of c scripts (runner.Task t) p h = task_position c scripts t.number h
position_of c scripts other p h = handler_position c scripts p.number h

-- the call that a runner on a processor makes next
abbrev pub next_call : Setup → List Steps → List Record → Proc → Option Runner → Option Event
next_call c scripts h p None = None
next_call c scripts h p (Some r) = Some (event.Call p (asked_at c scripts r (position_of c scripts r p h)))

-- a request to a processor is pending, and nothing holds it back
abbrev pub is_asked : State → Proc → Bool
is_asked m p = (processor m p).latch && not (is_held m p)

-- the event that a processor picks after a history: an interrupt, or what its handler or else its task asks next.
-- While a handler is due dispatching is held, so a handler goes before a request, and a request before a task
abbrev pub choice : Setup → List Steps → List Record → Proc → Option Event
choice c scripts h p =
    if is_asked (state_after c h) p then Some (event.Ipi p) else next_call c scripts h p (runner_of (state_after c h) p)

abbrev pub IsTick : Event → Type 0
IsTick (event.Tick p) = Unit {0}
IsTick other = ⊥

-- an event is a tick, or what its processor picks after the history
abbrev pub IsScripted : Setup → List Steps → List Record → Event → Type 0
IsScripted c scripts h e = IsTick e ⊎ (choice c scripts h (processor_of e) ≡ Some e)

-- each record is of a tick, or of what its processor picked after those before it
abbrev pub Scripted : Setup → List Steps → List Record → Type 0
Scripted c scripts h = (k : ℕ) (r : Record) → slice_get h k ≡ Some r → IsScripted c scripts (take k h) r.event
