-- Scenarios of tasks that move, wait and are suspended, computed. Each list is of the records that the machine makes of its own events.
use Rattle.std.proofs.Common.{pos, true, false, None, Some, [], ◌∷◌, refl}
use Rattle.fmp_codes.specs.Numbers.{as_proc}
use Rattle.fmp_codes.specs.declared.calls.Call.TheVariants as call
use Rattle.fmp_codes.specs.declared.calls.TaskCall.TheVariants as task
use Rattle.fmp_codes.specs.declared.calls.SystemCall.TheVariants as system
use Rattle.fmp_codes.specs.declared.codes.Code.TheVariants as code
use Rattle.fmp_codes.specs.declared.records.Answer.TheVariants as answer
use Rattle.fmp_setup.specs.Setup.{of_tasks}
use Rattle.fmp_rules.specs.Arrivals.{numbered}
use Rattle.fmp_rules.specs.TaskCalls.{act, ext_tsk, sus_tsk, tslp_tsk, wup, rsm_tsk, mig_tsk, ter_tsk, mact, rel_wai, chg_pri, can_act}
use Rattle.fmp_rules.specs.Processors.{opened}
use Rattle.fmp_rules.specs.Tasks.{finish}
use Rattle.fmp_rules.specs.SystemCalls.{rotation}
use Rattle.fmp_rules.specs.Step.{before_event, settled, unchanged}
use Rattle.fmp_rules.proofs.Scenario.{Plays, a_task, both, sole, ok, error, value, by_task, nobody, call_on, ipi_on, runs, released}

-- a task is suspended by another processor while its own executes it
suspended_while_executed : Plays (of_tasks 2 (a_task (both 1) 10 true ∷ a_task (both 2) 10 true ∷ [])) (
    record (by_task 1 (call_on 1 (call.Task (task.SusTsk (pos 2)))) ok) { requests = as_proc 2 ∷ [] }
    ∷ record (by_task 2 (call_on 2 (call.Task task.SlpTsk)) answer.Wait) { run_change = Some None }
    ∷ record (by_task 1 (call_on 1 (call.Task (task.WupTsk (pos 2)))) ok) { releases = released 2 code.Accepted None ∷ [] }
    ∷ record (by_task 1 (call_on 1 (call.Task (task.RsmTsk (pos 2)))) ok) { requests = as_proc 2 ∷ [] }
    ∷ record (nobody (ipi_on 2) answer.Taken) { run_change = runs 2 }
    ∷ [])
unfolding numbered before_event settled unchanged sus_tsk tslp_tsk wup rsm_tsk
suspended_while_executed = refl

-- tasks of another processor are not moved or ended
foreign_tasks : Plays (of_tasks 2 (a_task (both 1) 10 true ∷ a_task (both 2) 10 true ∷ a_task (sole 1) 10 false ∷ [])) (
    by_task 1 (call_on 1 (call.Task (task.MigTsk (pos 2) (pos 1)))) (error code.ObjectState)
    ∷ by_task 1 (call_on 1 (call.Task (task.MigTsk (pos 3) (pos 2)))) (error code.Parameter)
    ∷ by_task 1 (call_on 1 (call.Task (task.MigTsk (pos 1) (pos 9)))) (error code.Identifier)
    ∷ by_task 1 (call_on 1 (call.Task (task.TerTsk (pos 2)))) (error code.ObjectState)
    ∷ [])
unfolding numbered before_event settled unchanged mig_tsk ter_tsk finish
foreign_tasks = refl

-- a task moves itself
moves_itself : Plays (of_tasks 2 (a_task (both 1) 10 true ∷ [])) (
    record (by_task 1 (call_on 1 (call.Task (task.MigTsk (pos 0) (pos 2)))) ok) { run_change = Some None; requests = as_proc 2 ∷ [] }
    ∷ record (nobody (ipi_on 2) answer.Taken) { run_change = runs 1 }
    ∷ by_task 1 (call_on 2 (call.System system.DisDsp)) ok
    ∷ by_task 1 (call_on 2 (call.Task (task.MigTsk (pos 0) (pos 1)))) (error code.Context)
    ∷ [])
unfolding numbered before_event settled unchanged mig_tsk
moves_itself = refl

-- two requests merge
merged_requests : Plays (of_tasks 2 (a_task (both 1) 10 true ∷ a_task (both 2) 10 true ∷ a_task (both 2) 10 true ∷ [])) (
    record (by_task 1 (call_on 1 (call.System (system.MrotRdq (pos 10) (pos 2)))) ok) { requests = as_proc 2 ∷ [] }
    ∷ record (by_task 1 (call_on 1 (call.System (system.MrotRdq (pos 10) (pos 2)))) ok) { requests = as_proc 2 ∷ [] }
    ∷ by_task 2 (ipi_on 2) answer.Taken
    ∷ by_task 2 (ipi_on 2) answer.Nothing
    ∷ [])
unfolding numbered before_event settled unchanged rotation
merged_requests = refl

-- a queued activation keeps its processor
kept_processor : Plays (of_tasks 2 (a_task (both 1) 10 true ∷ a_task (both 2) 10 true ∷ [])) (
    by_task 1 (call_on 1 (call.Task (task.MactTsk (pos 2) (pos 1)))) ok
    ∷ record (by_task 2 (call_on 2 (call.Task task.ExtTsk)) answer.Gone) { run_change = Some None }
    ∷ record (by_task 1 (call_on 1 (call.Task task.ExtTsk)) answer.Gone) { run_change = runs 2 }
    ∷ [])
unfolding numbered before_event settled unchanged mact ext_tsk opened finish
kept_processor = refl

-- rotation, ending, release and change of priority
rotation_and_priority : Plays (of_tasks 2 (a_task (both 1) 10 true ∷ a_task (both 1) 10 true ∷ [])) (
    record (by_task 1 (call_on 1 (call.System (system.RotRdq (pos 0)))) ok) { run_change = runs 2 }
    ∷ by_task 2 (call_on 1 (call.Task (task.TerTsk (pos 2)))) (error code.IllegalUse)
    ∷ by_task 2 (call_on 1 (call.Task (task.TerTsk (pos 1)))) ok
    ∷ by_task 2 (call_on 1 (call.Task (task.ActTsk (pos 1)))) ok
    ∷ record (by_task 2 (call_on 1 (call.Task task.SlpTsk)) answer.Wait) { run_change = runs 1 }
    ∷ record (by_task 1 (call_on 1 (call.Task (task.RelWai (pos 2)))) ok) { releases = released 2 code.WaitReleased None ∷ [] }
    ∷ record (by_task 1 (call_on 1 (call.Task (task.ChgPri (pos 2) (pos 3)))) ok) { run_change = runs 2 }
    ∷ by_task 2 (call_on 1 (call.Task (task.GetPri (pos 0)))) (value (pos 3))
    ∷ by_task 2 (call_on 1 (call.Task (task.CanAct (pos 1)))) (value (pos 0))
    ∷ [])
unfolding numbered before_event settled unchanged rotation ter_tsk finish act tslp_tsk rel_wai chg_pri can_act
rotation_and_priority = refl

-- a suspended task moves itself
suspended_task_moves_itself : Plays (of_tasks 2 (a_task (both 1) 10 true ∷ a_task (both 2) 10 true ∷ [])) (
    record (by_task 1 (call_on 1 (call.Task (task.SusTsk (pos 2)))) ok) { requests = as_proc 2 ∷ [] }
    ∷ record (by_task 2 (call_on 2 (call.Task (task.MigTsk (pos 0) (pos 1)))) ok) { run_change = Some None }
    ∷ by_task 1 (call_on 1 (call.Task (task.RsmTsk (pos 2)))) ok
    ∷ record (by_task 1 (call_on 1 (call.System (system.RotRdq (pos 10)))) ok) { run_change = runs 2 }
    ∷ [])
unfolding numbered before_event settled unchanged sus_tsk mig_tsk rsm_tsk rotation
suspended_task_moves_itself = refl

-- a task that disabled dispatching may not sleep, and gives way once it is enabled
sleep_while_disabled : Plays (of_tasks 2 (a_task (both 1) 10 true ∷ a_task (both 2) 10 true ∷ a_task (both 2) 5 false ∷ [])) (
    by_task 2 (call_on 2 (call.System system.DisDsp)) ok
    ∷ record (by_task 1 (call_on 1 (call.Task (task.ActTsk (pos 3)))) ok) { requests = as_proc 2 ∷ [] }
    ∷ by_task 2 (ipi_on 2) answer.Held
    ∷ by_task 2 (call_on 2 (call.Task task.SlpTsk)) (error code.Context)
    ∷ record (by_task 2 (call_on 2 (call.System system.EnaDsp)) ok) { run_change = runs 3 }
    ∷ by_task 3 (ipi_on 2) answer.Nothing
    ∷ [])
unfolding numbered before_event settled unchanged act tslp_tsk
sleep_while_disabled = refl
