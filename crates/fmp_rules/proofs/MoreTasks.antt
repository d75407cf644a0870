-- More scenarios of tasks and processors, computed. Each list is of the records that the machine makes of its own events.
use Rattle.std.proofs.Common.{pos, true, None, Some, [], ◌∷◌, refl}
use Rattle.fmp_codes.specs.Numbers.{as_proc}
use Rattle.fmp_codes.specs.declared.calls.Call.TheVariants as call
use Rattle.fmp_codes.specs.declared.calls.TaskCall.TheVariants as task
use Rattle.fmp_codes.specs.declared.calls.TimeCall.TheVariants as time
use Rattle.fmp_codes.specs.declared.calls.SystemCall.TheVariants as system
use Rattle.fmp_codes.specs.declared.calls.SpinCall.TheVariants as spin
use Rattle.fmp_codes.specs.declared.codes.Code.TheVariants as code
use Rattle.fmp_codes.specs.declared.records.Answer.TheVariants as answer
use Rattle.fmp_setup.specs.Setup.{of_tasks}
use Rattle.fmp_rules.specs.Arrivals.{numbered}
use Rattle.fmp_rules.specs.TaskCalls.{mact, can_act, act, ext_tsk, mig_tsk, ter_tsk, chg_pri, dly_tsk, wup, can_wup, tslp_tsk, sus_tsk, rsm_tsk}
use Rattle.fmp_rules.specs.Processors.{opened}
use Rattle.fmp_rules.specs.Tasks.{finish}
use Rattle.fmp_rules.specs.SystemCalls.{rotation}
use Rattle.fmp_rules.specs.Tick.{counted_down, ticked, with_handlers_due}
use Rattle.fmp_rules.specs.TimeCalls.{sta_alm}
use Rattle.fmp_rules.specs.SpinCalls.{try_spn, loc_spn, ret_hdr, unl_spn}
use Rattle.fmp_rules.specs.Step.{before_event, settled, unchanged}
use Rattle.fmp_rules.proofs.Scenario.{Plays, a_task, both, ok, error, value, by_task, by_alarm, nobody, call_on, tick_on, ipi_on, runs, released}

-- kept processors, and their end with the count
kept_processors : Plays (of_tasks 2 (a_task (both 1) 10 true ∷ a_task (both 2) 10 true ∷ [])) (
    by_task 1 (call_on 1 (call.Task (task.MactTsk (pos 2) (pos 1)))) ok
    ∷ by_task 1 (call_on 1 (call.Task (task.CanAct (pos 2)))) (value (pos 1))
    ∷ by_task 1 (call_on 1 (call.Task (task.ActTsk (pos 2)))) ok
    ∷ by_task 2 (call_on 2 (call.Task task.ExtTsk)) answer.Gone
    ∷ by_task 1 (call_on 1 (call.Task (task.MactTsk (pos 2) (pos 0)))) ok
    ∷ record (by_task 2 (call_on 2 (call.Task (task.MigTsk (pos 0) (pos 1)))) ok) { run_change = Some None }
    ∷ record (by_task 1 (call_on 1 (call.Task (task.TerTsk (pos 2)))) ok) { requests = as_proc 2 ∷ [] }
    ∷ record (nobody (ipi_on 2) answer.Taken) { run_change = runs 2 }
    ∷ record (by_task 2 (call_on 2 (call.Task task.ExtTsk)) answer.Gone) { run_change = Some None }
    ∷ by_task 1 (call_on 1 (call.Task (task.MactTsk (pos 2) (pos 1)))) ok
    ∷ record (by_task 1 (call_on 1 (call.Task (task.MigTsk (pos 2) (pos 0)))) ok) { requests = as_proc 2 ∷ [] }
    ∷ by_task 1 (call_on 1 (call.Task (task.MactTsk (pos 1) (pos 1)))) ok
    ∷ by_task 1 (call_on 1 (call.Task (task.ImactTsk (pos 1) (pos 1)))) (error code.Context)
    ∷ by_task 1 (call_on 1 (call.Task (task.MactTsk (pos 2) (pos 3)))) (error code.Identifier)
    ∷ nobody (call_on 2 (call.System system.GetTid)) answer.Idle
    ∷ record (nobody (ipi_on 2) answer.Taken) { run_change = runs 2 }
    ∷ [])
unfolding numbered before_event settled unchanged mact can_act act ext_tsk opened finish mig_tsk ter_tsk
kept_processors = refl

-- a task that starts anew goes last
restarted_last : Plays (of_tasks 2 (a_task (both 1) 10 true ∷ a_task (both 1) 10 true ∷ [])) (
    by_task 1 (call_on 1 (call.Task (task.ActTsk (pos 0)))) ok
    ∷ record (by_task 1 (call_on 1 (call.Task task.ExtTsk)) answer.Gone) { run_change = runs 2 }
    ∷ record (by_task 2 (call_on 1 (call.Task task.ExtTsk)) answer.Gone) { run_change = runs 1 }
    ∷ [])
unfolding numbered before_event settled unchanged act ext_tsk opened finish
restarted_last = refl

-- queued wakeups and restarts
restart_and_wakeups : Plays (of_tasks 2 (a_task (both 1) 10 true ∷ a_task (both 1) 10 true ∷ [])) (
    by_task 1 (call_on 1 (call.Task (task.ActTsk (pos 0)))) ok
    ∷ by_task 1 (call_on 1 (call.Task (task.ChgPri (pos 0) (pos 3)))) ok
    ∷ record (by_task 1 (call_on 1 (call.Task task.ExtTsk)) answer.Gone) { run_change = runs 2 }
    ∷ record (by_task 2 (call_on 1 (call.System (system.RotRdq (pos 0)))) ok) { run_change = runs 1 }
    ∷ by_task 1 (call_on 1 (call.Task (task.GetPri (pos 0)))) (value (pos 10))
    ∷ record (by_task 1 (call_on 1 (call.Task (task.DlyTsk (pos 0)))) answer.Wait) { run_change = runs 2 }
    ∷ by_task 2 (call_on 1 (call.Task (task.WupTsk (pos 1)))) ok
    ∷ record (by_task 2 (tick_on 1) answer.Taken) { releases = released 1 code.Accepted None ∷ [] }
    ∷ by_task 2 (call_on 1 (call.Task (task.CanWup (pos 1)))) (value (pos 1))
    ∷ by_task 2 (call_on 1 (call.Task (task.WupTsk (pos 0)))) ok
    ∷ by_task 2 (call_on 1 (call.Task (task.WupTsk (pos 2)))) (error code.QueueOverflow)
    ∷ by_task 2 (call_on 1 (call.Task task.SlpTsk)) ok
    ∷ record (by_task 2 (call_on 1 (call.Task (task.TslpTsk (pos 2147483647)))) answer.Wait) { run_change = runs 1 }
    ∷ by_task 1 (call_on 1 (call.Task (task.SusTsk (pos 2)))) ok
    ∷ record (by_task 1 (call_on 1 (call.Task (task.WupTsk (pos 2)))) ok) { releases = released 2 code.Accepted None ∷ [] }
    ∷ by_task 1 (call_on 1 (call.Task (task.RsmTsk (pos 2)))) ok
    ∷ by_task 1 (call_on 1 (call.System system.GetPid)) (value (pos 1))
    ∷ by_task 1 (call_on 1 (call.System system.GetTid)) (value (pos 1))
    ∷ by_task 1 (call_on 1 (call.System system.SnsDsp)) (value (pos 0))
    ∷ [])
unfolding numbered before_event settled unchanged act chg_pri ext_tsk opened finish rotation dly_tsk wup counted_down ticked with_handlers_due can_wup tslp_tsk sus_tsk rsm_tsk
restart_and_wakeups = refl

-- spin locks of tasks and handlers
spin_locks : Plays (record (of_tasks 2 (a_task (both 1) 10 true ∷ a_task (both 2) 10 true ∷ [])) { alarms = record { class = both 1; handler = 1 } ∷ []; spin_locks = 1 }) (
    by_task 1 (call_on 1 (call.Time (time.StaAlm (pos 1) (pos 0)))) ok
    ∷ by_task 1 (tick_on 1) answer.Taken
    ∷ by_alarm 1 (call_on 1 (call.Spin (spin.ItrySpn (pos 1)))) ok
    ∷ by_alarm 1 (call_on 1 (call.Spin (spin.IlocSpn (pos 1)))) (error code.Context)
    ∷ by_alarm 1 (call_on 1 (call.System system.IunlCpu)) (error code.IllegalUse)
    ∷ by_task 2 (call_on 2 (call.Spin (spin.TrySpn (pos 1)))) (error code.ObjectState)
    ∷ by_task 2 (call_on 2 (call.Spin (spin.LocSpn (pos 1)))) answer.Spin
    ∷ by_alarm 1 (call_on 1 (call.RetHdr)) ok
    ∷ by_task 2 (call_on 2 (call.Spin (spin.LocSpn (pos 1)))) ok
    ∷ by_task 2 (call_on 2 (call.System system.UnlCpu)) (error code.IllegalUse)
    ∷ by_task 2 (call_on 2 (call.System system.SnsLoc)) (value (pos 1))
    ∷ by_task 2 (call_on 2 (call.Spin (spin.UnlSpn (pos 1)))) ok
    ∷ by_task 2 (call_on 2 (call.Spin (spin.UnlSpn (pos 1)))) (error code.IllegalUse)
    ∷ by_task 1 (call_on 1 (call.System system.DisDsp)) ok
    ∷ by_task 1 (call_on 1 (call.Time (time.StaAlm (pos 1) (pos 0)))) ok
    ∷ by_task 1 (tick_on 1) answer.Taken
    ∷ by_alarm 1 (call_on 1 (call.Spin (spin.IlocSpn (pos 1)))) ok
    ∷ by_alarm 1 (call_on 1 (call.Spin (spin.IunlSpn (pos 1)))) ok
    ∷ by_alarm 1 (call_on 1 (call.RetHdr)) ok
    ∷ by_task 1 (call_on 1 (call.System system.SnsDsp)) (value (pos 1))
    ∷ by_task 1 (call_on 1 (call.System system.EnaDsp)) ok
    ∷ [])
unfolding numbered before_event settled unchanged sta_alm counted_down ticked with_handlers_due try_spn loc_spn ret_hdr unl_spn
spin_locks = refl
