-- Where the scripts of tasks and handlers have come to, counted over a history.
use Rattle.std.specs.Prelude.{ℕ, ◌+◌, ◌-◌, ◌==◌, Bool, true, false, not, ◌&&◌, ◌||◌, List, [], ◌∷◌, Option, None, Some, option_map, if◌then◌else◌, slice_get}
use Rattle.std.specs.List.{fold}
use Rattle.fmp_codes.specs.Numbers.{as_task}
use Rattle.fmp_codes.specs.Records.{processor_of, is_gone, is_taken, is_call}
use Rattle.fmp_codes.specs.declared.calls.Call.{Call}
use Rattle.fmp_codes.specs.declared.calls.Call.TheVariants as call
use Rattle.fmp_codes.specs.declared.calls.TaskCall.TheVariants as task_call
use Rattle.fmp_codes.specs.declared.numbers.Task.{Task}
use Rattle.fmp_codes.specs.declared.records.Event.{Event}
use Rattle.fmp_codes.specs.declared.records.Event.TheVariants as event
use Rattle.fmp_codes.specs.declared.records.Answer.{Answer}
use Rattle.fmp_codes.specs.declared.records.Answer.TheVariants as answer
use Rattle.fmp_codes.specs.declared.records.Runner.{Runner}
use Rattle.fmp_codes.specs.declared.records.Runner.TheVariants as runner
use Rattle.fmp_codes.specs.declared.records.Record.{Record}
use Rattle.fmp_codes.specs.declared.records.Release.{Release}
use Rattle.fmp_text_scripts.specs.declared.ways.Way.{Way}
use Rattle.fmp_text_scripts.specs.Scripts.{Steps, ways_of_option}
use Rattle.fmp_text_scripts.specs.Ways.{onward}
use Rattle.fmp_setup.specs.Setup.{Setup}
use Rattle.fmp_rules.specs.Arguments.{number_within}
use Rattle.fmp_law_balance.specs.Accepted.{is_accepted}

-- ---- what a record says

-- the runner is the task of this number
abbrev pub is_task : ℕ → Option Runner → Bool
is_task n (Some (runner.Task t)) = t.number == n
is_task n other = false

abbrev pub is_handler : Option Runner → Bool
is_handler None = false
is_handler (Some (runner.Task t)) = false
is_handler (Some other) = true

abbrev pub is_spin : Answer → Bool
is_spin answer.Spin = true
is_spin other = false

-- the return of a handler
abbrev pub is_return : Call → Bool
is_return call.RetHdr = true
is_return other = false

-- the same, on the processor of this number
abbrev pub is_return_of : ℕ → Event → Bool
is_return_of n (event.Call p c) = is_return c && p.number == n
is_return_of n other = false

-- a tick of the processor of this number
abbrev pub is_tick_of : ℕ → Event → Bool
is_tick_of n (event.Tick p) = p.number == n
is_tick_of n other = false

-- a call that its caller is not to make again
abbrev pub is_made : Record → Bool
is_made r = is_call r.event && not (is_spin r.answer)

-- the task that a call is to terminate
abbrev pub target_of : Event → Option Task
target_of (event.Call p (call.Task (task_call.TerTsk id))) = option_map as_task (number_within 64 id)
target_of other = None

-- the task that an accepted call terminated
abbrev pub terminated : Event → Answer → Option Task
terminated e a = if is_accepted a then target_of e else None

abbrev pub has_number : ℕ → Option Task → Bool
has_number n None = false
has_number n (Some t) = t.number == n

-- ---- the ways of a runner's script

-- the number of the function of the task of a number, and of a task or a handler
abbrev pub main_of : Setup → ℕ → Option ℕ
main_of c n = option_map (λ s. s.main) (slice_get c.tasks (n - 1))

abbrev pub function_of : Setup → Runner → Option ℕ
function_of c (runner.Task t) = main_of c t.number
function_of c (runner.Alarm a) = option_map (λ s. s.handler) (slice_get c.alarms (a.number - 1))
function_of c (runner.Cyclic y) = option_map (λ s. s.handler) (slice_get c.cyclics (y.number - 1))

abbrev pub ways_of_task : Setup → List Steps → ℕ → List Way
ways_of_task c scripts n = ways_of_option scripts (main_of c n)

-- those of nobody are none
abbrev pub ways_of_runner : Setup → List Steps → Option Runner → List Way
ways_of_runner c scripts None = []
ways_of_runner c scripts (Some r) = ways_of_option scripts (function_of c r)

-- ---- the positions

-- the position after a call that was made, and after one that was not
abbrev pub past : Bool → ℕ → ℕ
past made n = if made then n + 1 else n

-- where a script goes on that has come after a call with this answer. What a call returned decides it at once; a call that waits leaves it open: the
-- script stands after it until the wait ends
abbrev pub answered : List Way → Answer → ℕ → ℕ
answered ways (answer.Done code value) at = onward ways at code value
answered ways other at = at

-- the position after a call that was made, or not, with this answer
abbrev pub called : List Way → Bool → Answer → ℕ → ℕ
called ways made a at = if made then answered ways a (at + 1) else at

-- the position of the task of this number after releases: the end of its wait decides where its script goes on after the call that made it wait
abbrev pub released : ℕ → List Way → List Release → ℕ → ℕ
released n ways [] at = at
released n ways (r ∷ rs) at = released n ways rs (if r.task.number == n then onward ways at r.code r.value else at)

-- the record ends the task of this number: it ended itself, or another terminated it
abbrev pub ends_task : ℕ → Record → Bool
ends_task n r = (is_task n r.runner && is_gone r.answer) || has_number n (terminated r.event r.answer)

-- the position of a task after one more record: the end of its wait and its calls count, and its own end begins anew
abbrev pub task_after : Setup → List Steps → ℕ → ℕ → Record → ℕ
task_after c scripts n at r =
    if ends_task n r then 0
    else called (ways_of_task c scripts n) (is_task n r.runner && is_made r) r.answer (released n (ways_of_task c scripts n) r.releases at)

-- after the record another handler may be due on the processor of this number
abbrev pub renews_handler : ℕ → Record → Bool
renews_handler n r = (is_tick_of n r.event && is_taken r.answer) || is_return_of n r.event

-- the position of the handler on a processor after one more record: the calls of handlers there count, and a return and a taken
-- tick begin anew
abbrev pub handler_after : Setup → List Steps → ℕ → ℕ → Record → ℕ
handler_after c scripts n at r =
    if renews_handler n r then 0
    else called (ways_of_runner c scripts r.runner) (((processor_of r.event).number == n && is_handler r.runner) && is_made r) r.answer at

-- the position in the script of the task of this number: how many calls stand before the one that it makes next, or made when it began to wait
unfoldable pub task_position : Setup → List Steps → ℕ → List Record → ℕ
task_position c scripts n h = fold (task_after c scripts n) 0 h

-- the position in the script of the handler on the processor of this number, since the last handler returned there or the last tick was taken there
unfoldable pub handler_position : Setup → List Steps → ℕ → List Record → ℕ
handler_position c scripts n h = fold (handler_after c scripts n) 0 h
