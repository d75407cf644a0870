-- More scenarios of ticks and handlers, computed. Each list is of the records that the machine makes of its own events.
use Rattle.std.proofs.Common.{pos, negsuc, true, false, None, Some, [], ◌∷◌, refl}
use Rattle.fmp_codes.specs.Numbers.{as_proc}
use Rattle.fmp_codes.specs.declared.calls.Call.TheVariants as call
use Rattle.fmp_codes.specs.declared.calls.Mode.TheVariants as mode
use Rattle.fmp_codes.specs.declared.calls.TaskCall.TheVariants as task
use Rattle.fmp_codes.specs.declared.calls.SyncCall.TheVariants as sync
use Rattle.fmp_codes.specs.declared.calls.BufferCall.TheVariants as buffer
use Rattle.fmp_codes.specs.declared.calls.TimeCall.TheVariants as time
use Rattle.fmp_codes.specs.declared.calls.SystemCall.TheVariants as system
use Rattle.fmp_codes.specs.declared.codes.Code.TheVariants as code
use Rattle.fmp_codes.specs.declared.records.Answer.TheVariants as answer
use Rattle.fmp_setup.specs.declared.setup.Order.TheVariants as order
use Rattle.fmp_setup.specs.Setup.{of_tasks}
use Rattle.fmp_rules.specs.Arrivals.{numbered}
use Rattle.fmp_rules.specs.SyncCalls.{twai_sem, sig_sem, set_flg, pol_flg, pol_sem}
use Rattle.fmp_rules.specs.TaskCalls.{chg_pri, dly_tsk, act, wup, rel_wai, mact, tslp_tsk, can_wup, ext_tsk}
use Rattle.fmp_rules.specs.TimeCalls.{sta_alm, stp_cyc, msta_cyc, msta_alm, stp_alm}
use Rattle.fmp_rules.specs.Tick.{counted_down, ticked, with_handlers_due}
use Rattle.fmp_rules.specs.SpinCalls.{ret_hdr}
use Rattle.fmp_rules.specs.BufferCalls.{psnd_dtq, fsnd_dtq, trcv_dtq}
use Rattle.fmp_rules.specs.SystemCalls.{rotation, rotation_in_handler}
use Rattle.fmp_rules.specs.Processors.{opened}
use Rattle.fmp_rules.specs.Tasks.{finish}
use Rattle.fmp_rules.specs.Step.{before_event, settled, unchanged}
use Rattle.fmp_rules.proofs.Scenario.{Plays, a_task, both, sole, ok, error, value, by_task, by_alarm, by_cyclic, nobody, call_on, tick_on, ipi_on, runs, released}

-- the order of service in a tick
tick_order : Plays (record (of_tasks 2 (a_task (both 1) 10 true ∷ a_task (both 1) 5 true ∷ a_task (both 1) 6 true ∷ [])) { semaphores = record { order = order.First; initial = 0; most = 1 } ∷ []; cyclics = record { class = both 1; handler = 1; period = 3; phase = 1; starts = true } ∷ []; alarms = record { class = both 1; handler = 1 } ∷ [] }) (
    record (by_task 2 (call_on 1 (call.Sync (sync.TwaiSem (pos 1) (pos 1)))) answer.Wait) { run_change = runs 3 }
    ∷ record (by_task 3 (call_on 1 (call.Sync (sync.TwaiSem (pos 1) (pos 1)))) answer.Wait) { run_change = runs 1 }
    ∷ by_task 1 (call_on 1 (call.Task (task.ChgPri (pos 2) (pos 9)))) ok
    ∷ by_task 1 (call_on 1 (call.Time (time.StaAlm (pos 1) (pos 1)))) ok
    ∷ by_task 1 (tick_on 1) answer.Taken
    ∷ by_task 1 (call_on 1 (call.System system.LocCpu)) ok
    ∷ by_task 1 (tick_on 1) answer.Held
    ∷ by_task 1 (call_on 1 (call.System system.UnlCpu)) ok
    ∷ record (by_task 1 (tick_on 1) answer.Taken) { releases = released 2 code.TimedOut None ∷ released 3 code.TimedOut None ∷ [] }
    ∷ by_alarm 1 (call_on 1 (call.RetHdr)) ok
    ∷ by_cyclic 1 (tick_on 1) answer.Held
    ∷ record (by_cyclic 1 (call_on 1 (call.RetHdr)) ok) { run_change = runs 3 }
    ∷ by_task 3 (tick_on 1) answer.Taken
    ∷ by_task 3 (tick_on 1) answer.Taken
    ∷ by_task 3 (tick_on 1) answer.Taken
    ∷ by_cyclic 1 (call_on 1 (call.Time (time.StpCyc (pos 1)))) (error code.Context)
    ∷ by_cyclic 1 (call_on 1 (call.RetHdr)) ok
    ∷ by_task 3 (call_on 1 (call.Time (time.MstaCyc (pos 1) (pos 2)))) ok
    ∷ by_task 3 (tick_on 1) answer.Taken
    ∷ nobody (tick_on 2) answer.Taken
    ∷ nobody (tick_on 2) answer.Taken
    ∷ by_cyclic 1 (call_on 2 (call.RetHdr)) ok
    ∷ [])
unfolding numbered before_event settled unchanged twai_sem chg_pri sta_alm counted_down ticked with_handlers_due ret_hdr stp_cyc msta_cyc
tick_order = refl

-- ticks while a processor is locked or disabled
held_ticks : Plays (of_tasks 2 (a_task (both 1) 10 true ∷ a_task (both 1) 5 true ∷ [])) (
    record (by_task 2 (call_on 1 (call.Task (task.DlyTsk (pos 1)))) answer.Wait) { run_change = runs 1 }
    ∷ by_task 1 (call_on 1 (call.System system.LocCpu)) ok
    ∷ by_task 1 (tick_on 1) answer.Held
    ∷ by_task 1 (tick_on 1) answer.Held
    ∷ by_task 1 (call_on 1 (call.System system.UnlCpu)) ok
    ∷ by_task 1 (tick_on 1) answer.Taken
    ∷ record (by_task 1 (tick_on 1) answer.Taken) { releases = released 2 code.Accepted None ∷ []; run_change = runs 2 }
    ∷ [])
unfolding numbered before_event settled unchanged dly_tsk counted_down ticked with_handlers_due
held_ticks = refl

-- an alarm rings once
alarm_rings_once : Plays (record (of_tasks 2 (a_task (both 1) 10 true ∷ [])) { alarms = record { class = both 1; handler = 1 } ∷ [] }) (
    by_task 1 (call_on 1 (call.Time (time.StaAlm (pos 1) (pos 0)))) ok
    ∷ by_task 1 (tick_on 1) answer.Taken
    ∷ by_alarm 1 (call_on 1 (call.RetHdr)) ok
    ∷ by_task 1 (tick_on 1) answer.Taken
    ∷ by_task 1 (tick_on 1) answer.Taken
    ∷ by_task 1 (tick_on 1) answer.Taken
    ∷ by_task 1 (tick_on 1) answer.Taken
    ∷ by_task 1 (tick_on 1) answer.Taken
    ∷ by_task 1 (tick_on 1) answer.Taken
    ∷ by_task 1 (call_on 1 (call.System system.SnsCtx)) (value (pos 0))
    ∷ [])
unfolding numbered before_event settled unchanged sta_alm counted_down ticked with_handlers_due ret_hdr
alarm_rings_once = refl

-- alarms that are started on another processor
moved_alarms : Plays (record (of_tasks 2 (a_task (both 1) 10 true ∷ [])) { alarms = record { class = sole 1; handler = 1 } ∷ record { class = both 1; handler = 1 } ∷ [] }) (
    by_task 1 (call_on 1 (call.Time (time.MstaAlm (pos 1) (pos 1) (pos 2)))) (error code.Parameter)
    ∷ by_task 1 (call_on 1 (call.Time (time.MstaAlm (pos 1) (negsuc 0) (pos 3)))) (error code.Identifier)
    ∷ by_task 1 (call_on 1 (call.Time (time.MstaAlm (pos 2) (pos 0) (pos 2)))) ok
    ∷ by_task 1 (tick_on 1) answer.Taken
    ∷ nobody (tick_on 2) answer.Taken
    ∷ by_alarm 2 (call_on 2 (call.System system.GetTid)) (error code.Context)
    ∷ by_alarm 2 (call_on 2 (call.RetHdr)) ok
    ∷ by_task 1 (call_on 1 (call.Time (time.StaAlm (pos 2) (pos 0)))) ok
    ∷ by_task 1 (call_on 1 (call.Time (time.StpAlm (pos 2)))) ok
    ∷ nobody (tick_on 2) answer.Taken
    ∷ by_task 1 (call_on 1 (call.Time (time.StpAlm (pos 2)))) ok
    ∷ by_task 1 (call_on 1 (call.Time (time.MstaAlm (pos 2) (pos 0) (pos 0)))) ok
    ∷ by_task 1 (tick_on 1) answer.Taken
    ∷ by_alarm 2 (call_on 1 (call.Time (time.ImstaAlm (pos 1) (pos 2147483647) (pos 0)))) ok
    ∷ by_alarm 2 (call_on 1 (call.RetHdr)) ok
    ∷ by_task 1 (call_on 1 (call.RetHdr)) (error code.Context)
    ∷ [])
unfolding numbered before_event settled unchanged msta_alm counted_down ticked with_handlers_due ret_hdr sta_alm stp_alm
moved_alarms = refl

-- calls from handlers
handler_forms : Plays (record (of_tasks 2 (a_task (both 1) 10 true ∷ a_task (both 1) 5 false ∷ a_task (both 2) 10 false ∷ [])) { semaphores = record { order = order.First; initial = 0; most = 1 } ∷ []; eventflags = record { order = order.First; many = false; clears = false; initial = 0 } ∷ []; data_queues = record { order = order.First; capacity = 1 } ∷ []; alarms = record { class = both 1; handler = 1 } ∷ [] }) (
    by_task 1 (call_on 1 (call.Time (time.StaAlm (pos 1) (pos 0)))) ok
    ∷ by_task 1 (tick_on 1) answer.Taken
    ∷ by_alarm 1 (call_on 1 (call.Time (time.StaAlm (pos 1) (pos 0)))) (error code.Context)
    ∷ by_alarm 1 (call_on 1 (call.Task (task.IactTsk (pos 2)))) ok
    ∷ by_alarm 1 (call_on 1 (call.Task (task.IwupTsk (pos 2)))) ok
    ∷ by_alarm 1 (call_on 1 (call.Task (task.IwupTsk (pos 2)))) (error code.QueueOverflow)
    ∷ by_alarm 1 (call_on 1 (call.Task (task.IwupTsk (pos 3)))) (error code.ObjectState)
    ∷ by_alarm 1 (call_on 1 (call.Task (task.IrelWai (pos 2)))) (error code.ObjectState)
    ∷ by_alarm 1 (call_on 1 (call.Task (task.ImactTsk (pos 3) (pos 1)))) ok
    ∷ by_alarm 1 (call_on 1 (call.Task (task.ImactTsk (pos 3) (pos 2)))) ok
    ∷ by_alarm 1 (call_on 1 (call.Task (task.ImactTsk (pos 3) (pos 2)))) (error code.QueueOverflow)
    ∷ by_alarm 1 (call_on 1 (call.Sync (sync.IsigSem (pos 1)))) ok
    ∷ by_alarm 1 (call_on 1 (call.Sync (sync.IsigSem (pos 1)))) (error code.QueueOverflow)
    ∷ by_alarm 1 (call_on 1 (call.Sync (sync.IsetFlg (pos 1) 6))) ok
    ∷ by_alarm 1 (call_on 1 (call.Buffer (buffer.IpsndDtq (pos 1) (pos 5)))) ok
    ∷ by_alarm 1 (call_on 1 (call.Buffer (buffer.IpsndDtq (pos 1) (pos 6)))) (error code.TimedOut)
    ∷ record (by_alarm 1 (call_on 1 (call.Buffer (buffer.IfsndDtq (pos 1) (pos 7)))) ok) { lost = Some (pos 5) }
    ∷ by_alarm 1 (call_on 1 (call.System (system.IrotRdq (pos 0)))) (error code.Parameter)
    ∷ by_alarm 1 (call_on 1 (call.System (system.IrotRdq (pos 10)))) ok
    ∷ by_alarm 1 (call_on 1 (call.System (system.ImrotRdq (pos 0) (pos 2)))) (error code.Parameter)
    ∷ by_alarm 1 (call_on 1 (call.System (system.ImrotRdq (pos 10) (pos 0)))) (error code.Identifier)
    ∷ by_alarm 1 (call_on 1 (call.System (system.ImrotRdq (pos 10) (pos 2)))) ok
    ∷ by_alarm 1 (call_on 1 (call.System system.IgetTid)) (value (pos 1))
    ∷ by_alarm 1 (call_on 1 (call.System system.IgetPid)) (value (pos 1))
    ∷ by_alarm 1 (call_on 1 (call.System system.SnsCtx)) (value (pos 1))
    ∷ by_alarm 1 (call_on 1 (call.System system.SnsDpn)) (value (pos 1))
    ∷ by_alarm 1 (call_on 1 (call.System system.SnsDsp)) (value (pos 0))
    ∷ by_alarm 1 (call_on 1 (call.System system.SnsLoc)) (value (pos 0))
    ∷ by_alarm 1 (call_on 1 (call.System system.IlocCpu)) ok
    ∷ by_alarm 1 (call_on 1 (call.System system.IgetTid)) (error code.Context)
    ∷ by_alarm 1 (call_on 1 (call.System system.IunlCpu)) ok
    ∷ by_alarm 1 (call_on 1 (call.Time (time.IstaAlm (pos 1) (pos 3)))) ok
    ∷ by_alarm 1 (call_on 1 (call.Time (time.IstpAlm (pos 1)))) ok
    ∷ by_alarm 1 (call_on 1 (call.Time (time.ImstaAlm (pos 1) (pos 0) (pos 2)))) ok
    ∷ record (by_alarm 1 (call_on 1 (call.RetHdr)) ok) { run_change = runs 2 }
    ∷ nobody (tick_on 2) answer.Taken
    ∷ by_alarm 1 (call_on 2 (call.System system.IgetTid)) (value (pos 0))
    ∷ by_alarm 1 (call_on 2 (call.RetHdr)) ok
    ∷ by_task 2 (call_on 1 (call.Task task.SlpTsk)) ok
    ∷ by_task 2 (call_on 1 (call.Task (task.CanWup (pos 0)))) (value (pos 0))
    ∷ by_task 2 (call_on 1 (call.Sync (sync.PolFlg (pos 1) 6 mode.Andw))) (value (pos 6))
    ∷ by_task 2 (call_on 1 (call.Buffer (buffer.RcvDtq (pos 1)))) (value (pos 7))
    ∷ by_task 2 (call_on 1 (call.Sync (sync.PolSem (pos 1)))) ok
    ∷ record (by_task 2 (call_on 1 (call.Task task.ExtTsk)) answer.Gone) { run_change = runs 3 }
    ∷ record (by_task 3 (call_on 1 (call.Task task.ExtTsk)) answer.Gone) { run_change = runs 1; requests = as_proc 2 ∷ [] }
    ∷ record (nobody (ipi_on 2) answer.Taken) { run_change = runs 3 }
    ∷ [])
unfolding numbered before_event settled unchanged sta_alm counted_down ticked with_handlers_due act wup rel_wai mact sig_sem set_flg psnd_dtq fsnd_dtq rotation rotation_in_handler stp_alm msta_alm ret_hdr tslp_tsk can_wup pol_flg trcv_dtq pol_sem ext_tsk opened finish
handler_forms = refl
