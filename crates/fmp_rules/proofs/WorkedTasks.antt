-- Scenarios of tasks on several processors, computed. Each list is of the records that the machine makes of its own events.
use Rattle.std.proofs.Common.{pos, negsuc, true, false, None, Some, [], ◌∷◌, refl}
use Rattle.fmp_codes.specs.Numbers.{as_proc}
use Rattle.fmp_codes.specs.declared.calls.Call.TheVariants as call
use Rattle.fmp_codes.specs.declared.calls.TaskCall.TheVariants as task
use Rattle.fmp_codes.specs.declared.calls.SystemCall.TheVariants as system
use Rattle.fmp_codes.specs.declared.codes.Code.TheVariants as code
use Rattle.fmp_codes.specs.declared.records.Answer.TheVariants as answer
use Rattle.fmp_setup.specs.Setup.{of_tasks}
use Rattle.fmp_rules.specs.Tasks.{finish}
use Rattle.fmp_rules.specs.Arrivals.{numbered}
use Rattle.fmp_rules.specs.Processors.{opened}
use Rattle.fmp_rules.specs.TaskCalls.{act, ext_tsk}
use Rattle.fmp_rules.specs.Step.{before_event, settled, unchanged}
use Rattle.fmp_rules.specs.Tick.{counted_down, ticked, with_handlers_due}
use Rattle.fmp_rules.proofs.Scenario.{Plays, a_task, both, ok, error, value, by_task, nobody, call_on, tick_on, ipi_on, runs}

-- a task of higher priority is started
started_at_once : Plays (of_tasks 2 (a_task (both 1) 10 true ∷ a_task (both 1) 5 false ∷ [])) (
    record (by_task 1 (call_on 1 (call.Task (task.ActTsk (pos 2)))) ok) { run_change = runs 2 }
    ∷ [])
unfolding numbered before_event settled unchanged act ext_tsk opened finish counted_down ticked with_handlers_due
started_at_once = refl

-- an interrupt comes late, and then once more
late_interrupt : Plays (of_tasks 2 (a_task (both 1) 10 true ∷ a_task (both 2) 10 false ∷ [])) (
    record (by_task 1 (call_on 1 (call.Task (task.ActTsk (pos 2)))) ok) { requests = as_proc 2 ∷ [] }
    ∷ nobody (call_on 2 (call.System system.GetPid)) answer.Idle
    ∷ record (nobody (ipi_on 2) answer.Taken) { run_change = runs 2 }
    ∷ by_task 2 (ipi_on 2) answer.Nothing
    ∷ [])
unfolding numbered before_event settled unchanged act ext_tsk opened finish counted_down ticked with_handlers_due
late_interrupt = refl

-- the same, and then an activation is queued, a second one is refused, and the task restarts in place
queued_activation : Plays (of_tasks 2 (a_task (both 1) 10 true ∷ a_task (both 2) 10 false ∷ [])) (
    record (by_task 1 (call_on 1 (call.Task (task.ActTsk (pos 2)))) ok) { requests = as_proc 2 ∷ [] }
    ∷ nobody (call_on 2 (call.System system.GetPid)) answer.Idle
    ∷ record (nobody (ipi_on 2) answer.Taken) { run_change = runs 2 }
    ∷ by_task 2 (ipi_on 2) answer.Nothing
    ∷ by_task 1 (call_on 1 (call.Task (task.ActTsk (pos 2)))) ok
    ∷ by_task 1 (call_on 1 (call.Task (task.ActTsk (pos 2)))) (error code.QueueOverflow)
    ∷ by_task 2 (call_on 2 (call.Task task.ExtTsk)) answer.Gone
    ∷ record (by_task 2 (call_on 2 (call.Task task.ExtTsk)) answer.Gone) { run_change = Some None }
    ∷ [])
unfolding numbered before_event settled unchanged act ext_tsk opened finish counted_down ticked with_handlers_due
queued_activation = refl

-- ids that name nothing are refused, 0 is the caller, and a tick dispatches
ids_and_tick : Plays (of_tasks 2 (a_task (both 1) 10 true ∷ a_task (both 2) 10 false ∷ [])) (
    by_task 1 (call_on 1 (call.Task (task.ActTsk (pos 3)))) (error code.Identifier)
    ∷ by_task 1 (call_on 1 (call.Task (task.ActTsk (negsuc 0)))) (error code.Identifier)
    ∷ by_task 1 (call_on 1 (call.Task (task.ActTsk (pos 0)))) ok
    ∷ by_task 1 (call_on 1 (call.Task (task.ActTsk (pos 1)))) (error code.QueueOverflow)
    ∷ by_task 1 (call_on 1 (call.System system.GetPid)) (value (pos 1))
    ∷ record (by_task 1 (call_on 1 (call.Task (task.ActTsk (pos 2)))) ok) { requests = as_proc 2 ∷ [] }
    ∷ record (nobody (tick_on 2) answer.Taken) { run_change = runs 2 }
    ∷ by_task 2 (ipi_on 2) answer.Nothing
    ∷ by_task 2 (tick_on 2) answer.Taken
    ∷ by_task 1 (call_on 1 (call.Task task.ExtTsk)) answer.Gone
    ∷ record (by_task 1 (call_on 1 (call.Task task.ExtTsk)) answer.Gone) { run_change = Some None }
    ∷ nobody (call_on 1 (call.Task (task.ActTsk (pos 9)))) answer.Idle
    ∷ [])
unfolding numbered before_event settled unchanged act ext_tsk opened finish counted_down ticked with_handlers_due
ids_and_tick = refl
