-- More scenarios of objects, computed. Each list is of the records that the machine makes of its own events.
use Rattle.std.proofs.Common.{pos, negsuc, true, false, None, Some, [], ◌∷◌, refl}
use Rattle.fmp_codes.specs.Numbers.{as_proc}
use Rattle.fmp_codes.specs.declared.calls.Call.TheVariants as call
use Rattle.fmp_codes.specs.declared.calls.Mode.TheVariants as mode
use Rattle.fmp_codes.specs.declared.calls.TaskCall.TheVariants as task
use Rattle.fmp_codes.specs.declared.calls.SyncCall.TheVariants as sync
use Rattle.fmp_codes.specs.declared.calls.BufferCall.TheVariants as buffer
use Rattle.fmp_codes.specs.declared.codes.Code.TheVariants as code
use Rattle.fmp_codes.specs.declared.records.Answer.TheVariants as answer
use Rattle.fmp_setup.specs.declared.setup.Order.TheVariants as order
use Rattle.fmp_setup.specs.Setup.{of_tasks}
use Rattle.fmp_rules.specs.Arrivals.{numbered}
use Rattle.fmp_rules.specs.SyncCalls.{twai_sem, sig_sem, pol_sem, twai_flg, pol_flg, clr_flg, set_flg}
use Rattle.fmp_rules.specs.Tick.{counted_down, ticked, with_handlers_due}
use Rattle.fmp_rules.specs.TaskCalls.{ter_tsk, rel_wai, chg_pri, sus_tsk, rsm_tsk, act, can_act}
use Rattle.fmp_rules.specs.Tasks.{finish}
use Rattle.fmp_rules.specs.BufferCalls.{tsnd_dtq, fsnd_dtq, trcv_dtq, prcv_dtq, psnd_dtq, pget_mpf, tget_mpf, rel_mpf}
use Rattle.fmp_rules.specs.Step.{before_event, settled, unchanged}
use Rattle.fmp_rules.proofs.Scenario.{Plays, a_task, both, ok, error, value, by_task, nobody, call_on, tick_on, ipi_on, runs, released}

-- counts and waiters of semaphores
semaphore_counts : Plays (record (of_tasks 2 (a_task (both 1) 10 true ∷ a_task (both 2) 10 true ∷ [])) { semaphores = record { order = order.First; initial = 0; most = 1 } ∷ [] }) (
    record (by_task 2 (call_on 2 (call.Sync (sync.WaiSem (pos 1)))) answer.Wait) { run_change = Some None }
    ∷ record (by_task 1 (call_on 1 (call.Sync (sync.SigSem (pos 1)))) ok) { releases = released 2 code.Accepted None ∷ []; requests = as_proc 2 ∷ [] }
    ∷ by_task 1 (call_on 1 (call.Sync (sync.PolSem (pos 1)))) (error code.TimedOut)
    ∷ by_task 1 (call_on 1 (call.Sync (sync.SigSem (pos 1)))) ok
    ∷ by_task 1 (call_on 1 (call.Sync (sync.SigSem (pos 1)))) (error code.QueueOverflow)
    ∷ by_task 1 (call_on 1 (call.Sync (sync.WaiSem (pos 1)))) ok
    ∷ by_task 1 (call_on 1 (call.Sync (sync.TwaiSem (pos 1) (pos 0)))) (error code.TimedOut)
    ∷ record (by_task 1 (call_on 1 (call.Sync (sync.TwaiSem (pos 1) (negsuc 0)))) answer.Wait) { run_change = Some None }
    ∷ nobody (tick_on 1) answer.Taken
    ∷ record (nobody (ipi_on 2) answer.Taken) { run_change = runs 2 }
    ∷ by_task 2 (call_on 2 (call.Task (task.TerTsk (pos 1)))) (error code.ObjectState)
    ∷ record (by_task 2 (call_on 2 (call.Task (task.RelWai (pos 1)))) ok) { releases = released 1 code.WaitReleased None ∷ []; requests = as_proc 1 ∷ [] }
    ∷ record (nobody (ipi_on 1) answer.Taken) { run_change = runs 1 }
    ∷ [])
unfolding numbered before_event settled unchanged twai_sem sig_sem pol_sem counted_down ticked with_handlers_due ter_tsk finish rel_wai
semaphore_counts = refl

-- several waiters, clearing, refusals
eventflags : Plays (record (of_tasks 2 (a_task (both 1) 10 true ∷ a_task (both 2) 10 true ∷ a_task (both 2) 10 true ∷ [])) { eventflags = record { order = order.First; many = false; clears = false; initial = 1 } ∷ record { order = order.Priority; many = true; clears = false; initial = 0 } ∷ [] }) (
    by_task 2 (call_on 2 (call.Sync (sync.WaiFlg (pos 1) 0 mode.Orw))) (error code.Parameter)
    ∷ by_task 2 (call_on 2 (call.Sync (sync.TwaiFlg (pos 1) 2 mode.Orw (negsuc 1)))) (error code.Parameter)
    ∷ by_task 2 (call_on 2 (call.Sync (sync.TwaiFlg (pos 1) 2 mode.Orw (pos 0)))) (error code.TimedOut)
    ∷ record (by_task 2 (call_on 2 (call.Sync (sync.TwaiFlg (pos 1) 3 mode.Andw (pos 7)))) answer.Wait) { run_change = runs 3 }
    ∷ by_task 3 (call_on 2 (call.Sync (sync.WaiFlg (pos 1) 1 mode.Orw))) (error code.IllegalUse)
    ∷ by_task 3 (call_on 2 (call.Sync (sync.PolFlg (pos 1) 1 mode.Orw))) (error code.IllegalUse)
    ∷ by_task 3 (call_on 2 (call.Sync (sync.ClrFlg (pos 1) 0))) ok
    ∷ by_task 3 (call_on 2 (call.Sync (sync.SetFlg (pos 1) 2))) ok
    ∷ record (by_task 3 (call_on 2 (call.Sync (sync.SetFlg (pos 1) 1))) ok) { releases = released 2 code.Accepted (Some (pos 3)) ∷ [] }
    ∷ by_task 3 (call_on 2 (call.Sync (sync.PolFlg (pos 1) 1 mode.Orw))) (value (pos 3))
    ∷ record (by_task 3 (call_on 2 (call.Sync (sync.TwaiFlg (pos 2) 4294967295 mode.Orw (negsuc 0)))) answer.Wait) { run_change = runs 2 }
    ∷ record (by_task 2 (call_on 2 (call.Sync (sync.WaiFlg (pos 2) 2 mode.Andw))) answer.Wait) { run_change = Some None }
    ∷ record (by_task 1 (call_on 1 (call.Sync (sync.SetFlg (pos 2) 4294967295))) ok) { releases = released 3 code.Accepted (Some (pos 4294967295)) ∷ released 2 code.Accepted (Some (pos 4294967295)) ∷ []; requests = as_proc 2 ∷ [] }
    ∷ [])
unfolding numbered before_event settled unchanged twai_flg pol_flg clr_flg set_flg
eventflags = refl

-- senders by priority, receivers first come first
data_queue_order : Plays (record (of_tasks 2 (a_task (both 1) 10 true ∷ a_task (both 2) 5 true ∷ a_task (both 2) 6 true ∷ [])) { data_queues = record { order = order.Priority; capacity = 2 } ∷ [] }) (
    by_task 1 (call_on 1 (call.Buffer (buffer.SndDtq (pos 1) (pos 1)))) ok
    ∷ by_task 1 (call_on 1 (call.Buffer (buffer.SndDtq (pos 1) (pos 2)))) ok
    ∷ record (by_task 1 (call_on 1 (call.Buffer (buffer.FsndDtq (pos 1) (pos 3)))) ok) { lost = Some (pos 1) }
    ∷ by_task 1 (call_on 1 (call.Buffer (buffer.RcvDtq (pos 1)))) (value (pos 2))
    ∷ by_task 1 (call_on 1 (call.Buffer (buffer.PrcvDtq (pos 1)))) (value (pos 3))
    ∷ record (by_task 2 (call_on 2 (call.Task (task.ChgPri (pos 0) (pos 7)))) ok) { run_change = runs 3 }
    ∷ record (by_task 3 (call_on 2 (call.Buffer (buffer.TrcvDtq (pos 1) (pos 5)))) answer.Wait) { run_change = runs 2 }
    ∷ record (by_task 2 (call_on 2 (call.Buffer (buffer.TrcvDtq (pos 1) (pos 5)))) answer.Wait) { run_change = Some None }
    ∷ by_task 1 (call_on 1 (call.Task (task.ChgPri (pos 3) (pos 9)))) ok
    ∷ record (by_task 1 (call_on 1 (call.Buffer (buffer.PsndDtq (pos 1) (pos 4)))) ok) { releases = released 3 code.Accepted (Some (pos 4)) ∷ []; requests = as_proc 2 ∷ [] }
    ∷ record (by_task 1 (call_on 1 (call.Buffer (buffer.TsndDtq (pos 1) (pos 5) (pos 0)))) ok) { releases = released 2 code.Accepted (Some (pos 5)) ∷ []; requests = as_proc 2 ∷ [] }
    ∷ record (nobody (ipi_on 2) answer.Taken) { run_change = runs 2 }
    ∷ [])
unfolding numbered before_event settled unchanged tsnd_dtq fsnd_dtq trcv_dtq prcv_dtq chg_pri psnd_dtq
data_queue_order = refl

-- a suspended task waits for a block
pool_suspension : Plays (record (of_tasks 2 (a_task (both 1) 10 true ∷ a_task (both 2) 10 true ∷ [])) { pools = record { order = order.Priority; blocks = 1 } ∷ [] }) (
    by_task 1 (call_on 1 (call.Buffer (buffer.PgetMpf (pos 1)))) (value (pos 0))
    ∷ by_task 2 (call_on 2 (call.Buffer (buffer.PgetMpf (pos 1)))) (error code.TimedOut)
    ∷ record (by_task 2 (call_on 2 (call.Buffer (buffer.TgetMpf (pos 1) (pos 1)))) answer.Wait) { run_change = Some None }
    ∷ by_task 1 (call_on 1 (call.Task (task.SusTsk (pos 2)))) ok
    ∷ by_task 1 (call_on 1 (call.Task (task.SusTsk (pos 2)))) (error code.QueueOverflow)
    ∷ record (by_task 1 (call_on 1 (call.Buffer (buffer.RelMpf (pos 1) (pos 0)))) ok) { releases = released 2 code.Accepted (Some (pos 0)) ∷ [] }
    ∷ by_task 1 (call_on 1 (call.Buffer (buffer.RelMpf (pos 1) (pos 0)))) ok
    ∷ by_task 1 (call_on 1 (call.Buffer (buffer.RelMpf (pos 1) (pos 0)))) (error code.Parameter)
    ∷ record (by_task 1 (call_on 1 (call.Task (task.RsmTsk (pos 2)))) ok) { requests = as_proc 2 ∷ [] }
    ∷ by_task 1 (call_on 1 (call.Task (task.RsmTsk (pos 2)))) (error code.ObjectState)
    ∷ record (nobody (tick_on 2) answer.Taken) { run_change = runs 2 }
    ∷ by_task 2 (call_on 2 (call.Buffer (buffer.TgetMpf (pos 1) (pos 0)))) (value (pos 0))
    ∷ by_task 2 (call_on 2 (call.Buffer (buffer.TgetMpf (pos 1) (pos 0)))) (error code.TimedOut)
    ∷ record (by_task 2 (call_on 2 (call.Task (task.SusTsk (pos 0)))) ok) { run_change = Some None }
    ∷ by_task 1 (call_on 1 (call.Task (task.RelWai (pos 2)))) (error code.ObjectState)
    ∷ by_task 1 (call_on 1 (call.Task (task.ActTsk (pos 2)))) ok
    ∷ by_task 1 (call_on 1 (call.Task (task.CanAct (pos 2)))) (value (pos 1))
    ∷ by_task 1 (call_on 1 (call.Task (task.CanAct (pos 2)))) (value (pos 0))
    ∷ record (by_task 1 (call_on 1 (call.Task (task.RsmTsk (pos 2)))) ok) { requests = as_proc 2 ∷ [] }
    ∷ [])
unfolding numbered before_event settled unchanged pget_mpf tget_mpf sus_tsk rel_mpf rsm_tsk counted_down ticked with_handlers_due rel_wai act can_act
pool_suspension = refl
