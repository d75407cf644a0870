-- Scenarios of time and handlers, computed. Each list is of the records that the machine makes of its own events.
use Rattle.std.proofs.Common.{pos, negsuc, true, false, None, Some, [], ◌∷◌, refl}
use Rattle.fmp_codes.specs.declared.calls.Call.TheVariants as call
use Rattle.fmp_codes.specs.declared.calls.TaskCall.TheVariants as task
use Rattle.fmp_codes.specs.declared.calls.TimeCall.TheVariants as time
use Rattle.fmp_codes.specs.declared.calls.SystemCall.TheVariants as system
use Rattle.fmp_codes.specs.declared.codes.Code.TheVariants as code
use Rattle.fmp_codes.specs.declared.records.Answer.TheVariants as answer
use Rattle.fmp_setup.specs.Setup.{of_tasks}
use Rattle.fmp_rules.specs.Arrivals.{numbered}
use Rattle.fmp_rules.specs.TaskCalls.{tslp_tsk, dly_tsk, mig_tsk, act}
use Rattle.fmp_rules.specs.Tick.{counted_down, ticked, with_handlers_due}
use Rattle.fmp_rules.specs.TimeCalls.{sta_alm, stp_cyc}
use Rattle.fmp_rules.specs.SpinCalls.{ret_hdr}
use Rattle.fmp_rules.specs.Step.{before_event, settled, unchanged}
use Rattle.fmp_rules.proofs.Scenario.{Plays, a_task, both, ok, error, value, by_task, by_alarm, by_cyclic, nobody, call_on, tick_on, ipi_on, runs, released}

-- a poll, and a sleep of one tick
timed_sleep : Plays (of_tasks 2 (a_task (both 1) 10 true ∷ [])) (
    by_task 1 (call_on 1 (call.Task (task.TslpTsk (pos 0)))) (error code.TimedOut)
    ∷ record (by_task 1 (call_on 1 (call.Task (task.TslpTsk (pos 1)))) answer.Wait) { run_change = Some None }
    ∷ nobody (tick_on 1) answer.Taken
    ∷ record (nobody (tick_on 1) answer.Taken) { releases = released 1 code.TimedOut None ∷ []; run_change = runs 1 }
    ∷ [])
unfolding numbered before_event settled unchanged tslp_tsk counted_down ticked with_handlers_due
timed_sleep = refl

-- a timed wait goes with its task to another processor
timed_wait_migrates : Plays (of_tasks 2 (a_task (both 1) 10 true ∷ a_task (both 1) 5 true ∷ [])) (
    record (by_task 2 (call_on 1 (call.Task (task.DlyTsk (pos 3)))) answer.Wait) { run_change = runs 1 }
    ∷ by_task 1 (tick_on 1) answer.Taken
    ∷ by_task 1 (call_on 1 (call.Task (task.MigTsk (pos 2) (pos 2)))) ok
    ∷ by_task 1 (tick_on 1) answer.Taken
    ∷ nobody (tick_on 2) answer.Taken
    ∷ nobody (tick_on 2) answer.Taken
    ∷ record (nobody (tick_on 2) answer.Taken) { releases = released 2 code.Accepted None ∷ []; run_change = runs 2 }
    ∷ [])
unfolding numbered before_event settled unchanged dly_tsk counted_down ticked with_handlers_due mig_tsk
timed_wait_migrates = refl

-- an alarm handler holds its processor
alarm_handler : Plays (record (of_tasks 2 (a_task (both 1) 10 true ∷ a_task (both 1) 5 false ∷ [])) { alarms = record { class = both 1; handler = 1 } ∷ [] }) (
    by_task 1 (call_on 1 (call.Time (time.StaAlm (pos 1) (pos 1)))) ok
    ∷ by_task 1 (tick_on 1) answer.Taken
    ∷ by_task 1 (tick_on 1) answer.Taken
    ∷ by_alarm 1 (call_on 1 (call.Task (task.ActTsk (pos 2)))) (error code.Context)
    ∷ by_alarm 1 (call_on 1 (call.Task (task.IactTsk (pos 2)))) ok
    ∷ by_alarm 1 (tick_on 1) answer.Held
    ∷ by_alarm 1 (ipi_on 1) answer.Held
    ∷ record (by_alarm 1 (call_on 1 (call.RetHdr)) ok) { run_change = runs 2 }
    ∷ [])
unfolding numbered before_event settled unchanged sta_alm counted_down ticked with_handlers_due act ret_hdr
alarm_handler = refl

-- the bounds of a time
longest_delay : Plays (of_tasks 2 (a_task (both 1) 10 true ∷ [])) (
    by_task 1 (call_on 1 (call.Task (task.DlyTsk (negsuc 0)))) (error code.Parameter)
    ∷ record (by_task 1 (call_on 1 (call.Task (task.DlyTsk (pos 2147483647)))) answer.Wait) { run_change = Some None }
    ∷ [])
unfolding numbered before_event settled unchanged dly_tsk
longest_delay = refl

-- a cyclic handler runs every second tick
cyclic_handler : Plays (record (of_tasks 2 (a_task (both 1) 10 true ∷ [])) { cyclics = record { class = both 1; handler = 1; period = 2; phase = 0; starts = true } ∷ [] }) (
    by_task 1 (tick_on 1) answer.Taken
    ∷ by_cyclic 1 (call_on 1 (call.System system.IgetTid)) (value (pos 1))
    ∷ by_cyclic 1 (call_on 1 (call.RetHdr)) ok
    ∷ by_task 1 (tick_on 1) answer.Taken
    ∷ by_task 1 (tick_on 1) answer.Taken
    ∷ by_cyclic 1 (call_on 1 (call.Time (time.StpCyc (pos 1)))) (error code.Context)
    ∷ by_cyclic 1 (call_on 1 (call.RetHdr)) ok
    ∷ by_task 1 (call_on 1 (call.Time (time.StpCyc (pos 1)))) ok
    ∷ by_task 1 (tick_on 1) answer.Taken
    ∷ by_task 1 (tick_on 1) answer.Taken
    ∷ by_task 1 (call_on 1 (call.System system.SnsCtx)) (value (pos 0))
    ∷ [])
unfolding numbered before_event settled unchanged counted_down ticked with_handlers_due ret_hdr stp_cyc
cyclic_handler = refl
