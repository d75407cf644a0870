-- Scenarios of held dispatching, computed. Each list is of the records that the machine makes of its own events.
use Rattle.std.proofs.Common.{pos, true, false, Some, None, [], ◌∷◌, refl}
use Rattle.fmp_codes.specs.Numbers.{as_proc}
use Rattle.fmp_codes.specs.declared.calls.Call.TheVariants as call
use Rattle.fmp_codes.specs.declared.calls.TaskCall.TheVariants as task
use Rattle.fmp_codes.specs.declared.calls.SystemCall.TheVariants as system
use Rattle.fmp_codes.specs.declared.codes.Code.TheVariants as code
use Rattle.fmp_codes.specs.declared.records.Answer.TheVariants as answer
use Rattle.fmp_setup.specs.Setup.{of_tasks}
use Rattle.fmp_rules.specs.Tasks.{finish}
use Rattle.fmp_rules.specs.Arrivals.{numbered}
use Rattle.fmp_rules.specs.Processors.{opened}
use Rattle.fmp_rules.specs.TaskCalls.{act, ext_tsk}
use Rattle.fmp_rules.specs.Step.{before_event, settled, unchanged}
use Rattle.fmp_rules.specs.Tick.{counted_down, ticked, with_handlers_due}
use Rattle.fmp_rules.proofs.Scenario.{Plays, a_task, both, ok, error, value, by_task, nobody, call_on, tick_on, ipi_on, runs}

-- the CPU-locked state is entered and left twice, and most calls are refused in it
lock_states : Plays (of_tasks 2 (a_task (both 1) 10 true ∷ [])) (
    by_task 1 (call_on 1 (call.System system.LocCpu)) ok
    ∷ by_task 1 (call_on 1 (call.System system.LocCpu)) ok
    ∷ by_task 1 (call_on 1 (call.System system.SnsLoc)) (value (pos 1))
    ∷ by_task 1 (call_on 1 (call.System system.SnsDpn)) (value (pos 1))
    ∷ by_task 1 (call_on 1 (call.System system.GetTid)) (error code.Context)
    ∷ by_task 1 (call_on 1 (call.System system.UnlCpu)) ok
    ∷ by_task 1 (call_on 1 (call.System system.UnlCpu)) ok
    ∷ by_task 1 (call_on 1 (call.System system.SnsDpn)) (value (pos 0))
    ∷ [])
unfolding numbered before_event settled unchanged act ext_tsk opened finish counted_down ticked with_handlers_due
lock_states = refl

-- a task of higher priority is started while dispatching is disabled, and runs once it is enabled
disabled_dispatching : Plays (of_tasks 2 (a_task (both 1) 10 true ∷ a_task (both 2) 10 true ∷ a_task (both 2) 5 false ∷ [])) (
    by_task 2 (call_on 2 (call.System system.DisDsp)) ok
    ∷ record (by_task 1 (call_on 1 (call.Task (task.ActTsk (pos 3)))) ok) { requests = as_proc 2 ∷ [] }
    ∷ by_task 2 (ipi_on 2) answer.Held
    ∷ by_task 2 (tick_on 2) answer.Taken
    ∷ by_task 2 (call_on 2 (call.System system.GetTid)) (value (pos 2))
    ∷ record (by_task 2 (call_on 2 (call.System system.EnaDsp)) ok) { run_change = runs 3 }
    ∷ by_task 3 (ipi_on 2) answer.Nothing
    ∷ by_task 3 (call_on 2 (call.System system.SnsCtx)) (value (pos 0))
    ∷ [])
unfolding numbered before_event settled unchanged act ext_tsk opened finish counted_down ticked with_handlers_due
disabled_dispatching = refl

-- in the CPU-locked state ticks and interrupts are held, the context is judged before the ID, unlocking leaves dispatching
-- disabled, and a task that ends leaves both states
locked_and_disabled : Plays (of_tasks 1 (a_task (both 1) 10 true ∷ a_task (both 1) 10 true ∷ [])) (
    by_task 1 (call_on 1 (call.System system.DisDsp)) ok
    ∷ by_task 1 (call_on 1 (call.System system.LocCpu)) ok
    ∷ by_task 1 (tick_on 1) answer.Held
    ∷ by_task 1 (ipi_on 1) answer.Held
    ∷ by_task 1 (call_on 1 (call.Task (task.ActTsk (pos 9)))) (error code.Context)
    ∷ by_task 1 (call_on 1 (call.System system.EnaDsp)) (error code.Context)
    ∷ by_task 1 (call_on 1 (call.System system.UnlCpu)) ok
    ∷ by_task 1 (call_on 1 (call.System system.SnsLoc)) (value (pos 0))
    ∷ by_task 1 (call_on 1 (call.System system.SnsDsp)) (value (pos 1))
    ∷ by_task 1 (call_on 1 (call.System system.SnsDpn)) (value (pos 1))
    ∷ by_task 1 (call_on 1 (call.System system.LocCpu)) ok
    ∷ record (by_task 1 (call_on 1 (call.Task task.ExtTsk)) answer.Gone) { run_change = runs 2 }
    ∷ by_task 2 (call_on 1 (call.System system.SnsDpn)) (value (pos 0))
    ∷ record (by_task 2 (call_on 1 (call.Task task.ExtTsk)) answer.Gone) { run_change = Some None }
    ∷ nobody (call_on 1 (call.System system.SnsCtx)) answer.Idle
    ∷ [])
unfolding numbered before_event settled unchanged act ext_tsk opened finish counted_down ticked with_handlers_due
locked_and_disabled = refl
