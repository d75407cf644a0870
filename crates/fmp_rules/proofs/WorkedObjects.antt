-- Scenarios of objects, computed. Each list is of the records that the machine makes of its own events.
use Rattle.std.proofs.Common.{pos, negsuc, true, false, None, Some, [], ◌∷◌, refl}
use Rattle.fmp_codes.specs.Numbers.{as_proc}
use Rattle.fmp_codes.specs.declared.calls.Call.TheVariants as call
use Rattle.fmp_codes.specs.declared.calls.Mode.TheVariants as mode
use Rattle.fmp_codes.specs.declared.calls.TaskCall.TheVariants as task
use Rattle.fmp_codes.specs.declared.calls.SyncCall.TheVariants as sync
use Rattle.fmp_codes.specs.declared.calls.BufferCall.TheVariants as buffer
use Rattle.fmp_codes.specs.declared.calls.SpinCall.TheVariants as spin
use Rattle.fmp_codes.specs.declared.codes.Code.TheVariants as code
use Rattle.fmp_codes.specs.declared.records.Answer.TheVariants as answer
use Rattle.fmp_setup.specs.declared.setup.Order.TheVariants as order
use Rattle.fmp_setup.specs.Setup.{of_tasks}
use Rattle.fmp_rules.specs.Arrivals.{numbered}
use Rattle.fmp_rules.specs.SyncCalls.{sig_sem, pol_sem, twai_sem, twai_flg, set_flg, pol_flg}
use Rattle.fmp_rules.specs.BufferCalls.{tsnd_dtq, trcv_dtq, fsnd_dtq, prcv_dtq, tget_mpf, rel_mpf}
use Rattle.fmp_rules.specs.SpinCalls.{loc_spn, try_spn, unl_spn}
use Rattle.fmp_rules.specs.Tick.{counted_down, ticked, with_handlers_due}
use Rattle.fmp_rules.specs.TaskCalls.{act, ext_tsk, chg_pri}
use Rattle.fmp_rules.specs.Processors.{opened}
use Rattle.fmp_rules.specs.Tasks.{finish}
use Rattle.fmp_rules.specs.Step.{before_event, settled, unchanged}
use Rattle.fmp_rules.proofs.Scenario.{Plays, a_task, both, sole, ok, error, value, by_task, call_on, tick_on, runs, released}

-- the bounds of a semaphore and of a timeout
semaphore_bounds : Plays (record (of_tasks 2 (a_task (both 1) 10 true ∷ [])) { semaphores = record { order = order.Priority; initial = 1; most = 1 } ∷ [] }) (
    by_task 1 (call_on 1 (call.Sync (sync.SigSem (pos 1)))) (error code.QueueOverflow)
    ∷ by_task 1 (call_on 1 (call.Sync (sync.PolSem (pos 1)))) ok
    ∷ by_task 1 (call_on 1 (call.Sync (sync.PolSem (pos 1)))) (error code.TimedOut)
    ∷ by_task 1 (call_on 1 (call.Sync (sync.TwaiSem (pos 99) (negsuc 4)))) (error code.Identifier)
    ∷ by_task 1 (call_on 1 (call.Sync (sync.TwaiSem (pos 1) (negsuc 4)))) (error code.Parameter)
    ∷ [])
unfolding numbered before_event settled unchanged sig_sem pol_sem twai_sem
semaphore_bounds = refl

-- a flag is cleared at the first release
flag_clears : Plays (record (of_tasks 2 (a_task (both 1) 10 true ∷ a_task (both 2) 10 true ∷ a_task (both 2) 10 true ∷ [])) { eventflags = record { order = order.First; many = true; clears = true; initial = 0 } ∷ [] }) (
    record (by_task 2 (call_on 2 (call.Sync (sync.WaiFlg (pos 1) 1 mode.Orw))) answer.Wait) { run_change = runs 3 }
    ∷ record (by_task 3 (call_on 2 (call.Sync (sync.WaiFlg (pos 1) 1 mode.Andw))) answer.Wait) { run_change = Some None }
    ∷ record (by_task 1 (call_on 1 (call.Sync (sync.SetFlg (pos 1) 3))) ok) { releases = released 2 code.Accepted (Some (pos 3)) ∷ []; requests = as_proc 2 ∷ [] }
    ∷ by_task 1 (call_on 1 (call.Sync (sync.PolFlg (pos 1) 2 mode.Orw))) (error code.TimedOut)
    ∷ [])
unfolding numbered before_event settled unchanged twai_flg set_flg pol_flg
flag_clears = refl

-- a flag releases several tasks
flag_releases_several : Plays (record (of_tasks 3 (a_task (sole 1) 10 true ∷ a_task (sole 2) 10 true ∷ a_task (sole 3) 10 true ∷ [])) { eventflags = record { order = order.First; many = true; clears = false; initial = 0 } ∷ [] }) (
    record (by_task 2 (call_on 2 (call.Sync (sync.WaiFlg (pos 1) 1 mode.Orw))) answer.Wait) { run_change = Some None }
    ∷ record (by_task 3 (call_on 3 (call.Sync (sync.WaiFlg (pos 1) 2 mode.Orw))) answer.Wait) { run_change = Some None }
    ∷ record (by_task 1 (call_on 1 (call.Sync (sync.SetFlg (pos 1) 3))) ok) { releases = released 2 code.Accepted (Some (pos 3)) ∷ released 3 code.Accepted (Some (pos 3)) ∷ []; requests = as_proc 2 ∷ as_proc 3 ∷ [] }
    ∷ [])
unfolding numbered before_event settled unchanged twai_flg set_flg
flag_releases_several = refl

-- data queues of capacity 0 and 1
queue_capacities : Plays (record (of_tasks 2 (a_task (both 1) 10 true ∷ a_task (both 2) 10 true ∷ [])) { data_queues = record { order = order.First; capacity = 0 } ∷ record { order = order.First; capacity = 1 } ∷ [] }) (
    record (by_task 2 (call_on 2 (call.Buffer (buffer.SndDtq (pos 1) (pos 7)))) answer.Wait) { run_change = Some None }
    ∷ record (by_task 1 (call_on 1 (call.Buffer (buffer.RcvDtq (pos 1)))) (value (pos 7))) { releases = released 2 code.Accepted None ∷ []; requests = as_proc 2 ∷ [] }
    ∷ by_task 1 (call_on 1 (call.Buffer (buffer.FsndDtq (pos 1) (pos 1)))) (error code.IllegalUse)
    ∷ by_task 1 (call_on 1 (call.Buffer (buffer.FsndDtq (pos 2) (pos 3)))) ok
    ∷ record (by_task 1 (call_on 1 (call.Buffer (buffer.FsndDtq (pos 2) (pos 4)))) ok) { lost = Some (pos 3) }
    ∷ by_task 1 (call_on 1 (call.Buffer (buffer.RcvDtq (pos 2)))) (value (pos 4))
    ∷ [])
unfolding numbered before_event settled unchanged tsnd_dtq trcv_dtq fsnd_dtq
queue_capacities = refl

-- a forced send passes over a waiting sender
forced_send : Plays (record (of_tasks 2 (a_task (both 1) 10 true ∷ a_task (both 2) 10 true ∷ [])) { data_queues = record { order = order.First; capacity = 1 } ∷ [] }) (
    by_task 1 (call_on 1 (call.Buffer (buffer.SndDtq (pos 1) (pos 1)))) ok
    ∷ record (by_task 2 (call_on 2 (call.Buffer (buffer.SndDtq (pos 1) (pos 2)))) answer.Wait) { run_change = Some None }
    ∷ record (by_task 1 (call_on 1 (call.Buffer (buffer.FsndDtq (pos 1) (pos 3)))) ok) { lost = Some (pos 1) }
    ∷ record (by_task 1 (call_on 1 (call.Buffer (buffer.RcvDtq (pos 1)))) (value (pos 3))) { releases = released 2 code.Accepted None ∷ []; requests = as_proc 2 ∷ [] }
    ∷ by_task 1 (call_on 1 (call.Buffer (buffer.PrcvDtq (pos 1)))) (value (pos 2))
    ∷ by_task 1 (call_on 1 (call.Buffer (buffer.PrcvDtq (pos 1)))) (error code.TimedOut)
    ∷ [])
unfolding numbered before_event settled unchanged tsnd_dtq fsnd_dtq trcv_dtq prcv_dtq
forced_send = refl

-- a spin lock, its refusals, and its release at the end of a task
spin_lock : Plays (record (of_tasks 2 (a_task (both 1) 10 true ∷ a_task (both 2) 10 true ∷ [])) { spin_locks = 1 }) (
    by_task 1 (call_on 1 (call.Spin (spin.LocSpn (pos 1)))) ok
    ∷ by_task 2 (call_on 2 (call.Spin (spin.LocSpn (pos 1)))) answer.Spin
    ∷ by_task 2 (call_on 2 (call.Spin (spin.TrySpn (pos 1)))) (error code.ObjectState)
    ∷ by_task 2 (call_on 2 (call.Spin (spin.UnlSpn (pos 1)))) (error code.IllegalUse)
    ∷ by_task 1 (tick_on 1) answer.Held
    ∷ by_task 1 (call_on 1 (call.Task (task.ActTsk (pos 2)))) (error code.Context)
    ∷ by_task 1 (call_on 1 (call.Spin (spin.UnlSpn (pos 1)))) ok
    ∷ by_task 2 (call_on 2 (call.Spin (spin.LocSpn (pos 1)))) ok
    ∷ record (by_task 2 (call_on 2 (call.Task task.ExtTsk)) answer.Gone) { run_change = Some None }
    ∷ by_task 1 (call_on 1 (call.Spin (spin.TrySpn (pos 1)))) ok
    ∷ [])
unfolding numbered before_event settled unchanged loc_spn try_spn unl_spn counted_down ticked with_handlers_due act ext_tsk opened finish
spin_lock = refl

-- a block is given back once
pool_blocks : Plays (record (of_tasks 2 (a_task (both 1) 10 true ∷ [])) { pools = record { order = order.First; blocks = 1 } ∷ [] }) (
    by_task 1 (call_on 1 (call.Buffer (buffer.GetMpf (pos 1)))) (value (pos 0))
    ∷ by_task 1 (call_on 1 (call.Buffer (buffer.RelMpf (pos 1) (pos 0)))) ok
    ∷ by_task 1 (call_on 1 (call.Buffer (buffer.RelMpf (pos 1) (pos 0)))) (error code.Parameter)
    ∷ by_task 1 (call_on 1 (call.Buffer (buffer.RelMpf (pos 1) (pos 5)))) (error code.Parameter)
    ∷ [])
unfolding numbered before_event settled unchanged tget_mpf rel_mpf
pool_blocks = refl

-- a waiter is placed anew by a change of its priority
waiter_placed_anew : Plays (record (of_tasks 2 (a_task (both 1) 10 true ∷ a_task (both 2) 5 true ∷ a_task (both 2) 6 true ∷ [])) { semaphores = record { order = order.Priority; initial = 0; most = 1 } ∷ [] }) (
    record (by_task 2 (call_on 2 (call.Sync (sync.WaiSem (pos 1)))) answer.Wait) { run_change = runs 3 }
    ∷ record (by_task 3 (call_on 2 (call.Sync (sync.WaiSem (pos 1)))) answer.Wait) { run_change = Some None }
    ∷ by_task 1 (call_on 1 (call.Task (task.ChgPri (pos 2) (pos 6)))) ok
    ∷ record (by_task 1 (call_on 1 (call.Sync (sync.SigSem (pos 1)))) ok) { releases = released 3 code.Accepted None ∷ []; requests = as_proc 2 ∷ [] }
    ∷ [])
unfolding numbered before_event settled unchanged twai_sem chg_pri sig_sem
waiter_placed_anew = refl
