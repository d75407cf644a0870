-- Scenarios of the global timer and of larger limits, computed. Each list is of the records that the machine makes of its own events.
use Rattle.std.proofs.Common.{ℕ, pos, true, false, None, Some, List, [], ◌∷◌, refl, ap, arith}
use Rattle.std.specs.Prelude.{slice_index_or}
use Rattle.std.proofs.lemmas.Bool.{false≢true, true≢false}
use Rattle.fmp_codes.specs.Numbers.{as_proc}
use Rattle.fmp_codes.specs.declared.calls.Call.TheVariants as call
use Rattle.fmp_codes.specs.declared.calls.TaskCall.TheVariants as task
use Rattle.fmp_codes.specs.declared.calls.TimeCall.TheVariants as time
use Rattle.fmp_codes.specs.declared.calls.SystemCall.TheVariants as system
use Rattle.fmp_codes.specs.declared.codes.Code.TheVariants as code
use Rattle.fmp_codes.specs.declared.records.Answer.TheVariants as answer
use Rattle.fmp_setup.specs.declared.setup.Timer.TheVariants as timer
use Rattle.fmp_setup.specs.declared.setup.TaskSetup.{TaskSetup}
use Rattle.fmp_setup.specs.Setup.{Setup, of_tasks, MayHandle}
use Rattle.fmp_setup.specs.Valid.{IsTimerOf, AreLimits}
use Rattle.fmp_rules.specs.Arrivals.{numbered}
use Rattle.fmp_rules.specs.TaskCalls.{act, dly_tsk, mig_tsk, wup, can_wup, chg_pri}
use Rattle.fmp_rules.specs.SystemCalls.{rotation}
use Rattle.fmp_rules.specs.SpinCalls.{ret_hdr}
use Rattle.fmp_rules.specs.Tick.{counted_down, ticked, with_handlers_due}
use Rattle.fmp_rules.specs.TimeCalls.{sta_alm, msta_alm, msta_cyc}
use Rattle.fmp_rules.specs.Step.{before_event, settled, unchanged}
use Rattle.fmp_rules.proofs.Scenario.{Plays, a_task, both, sole, ok, error, value, by_task, by_alarm, by_cyclic, nobody, call_on, tick_on, ipi_on, runs, released}

-- a machine of these tasks whose time is that of processor 1
abbrev with_master : ℕ → List TaskSetup → Setup
with_master n tasks = record (of_tasks n tasks) { timer = timer.Global (as_proc 1) }

-- a wait on another processor ends by a tick on the master
master_ends_a_delay : Plays (with_master 2 (a_task (both 1) 10 true ∷ a_task (both 2) 10 true ∷ [])) (
    record (by_task 2 (call_on 2 (call.Task (task.DlyTsk (pos 1)))) answer.Wait) { run_change = Some None }
    ∷ nobody (tick_on 2) answer.Nothing
    ∷ by_task 1 (tick_on 1) answer.Taken
    ∷ record (by_task 1 (tick_on 1) answer.Taken) { releases = released 2 code.Accepted None ∷ []; requests = as_proc 2 ∷ [] }
    ∷ record (nobody (ipi_on 2) answer.Taken) { run_change = runs 2 }
    ∷ [])
unfolding numbered before_event settled unchanged dly_tsk counted_down ticked with_handlers_due
master_ends_a_delay = refl

-- a tick elsewhere dispatches nothing, and none is held there; those of the master are
ticks_elsewhere : Plays (with_master 2 (a_task (both 1) 10 true ∷ a_task (both 2) 10 false ∷ [])) (
    record (by_task 1 (call_on 1 (call.Task (task.ActTsk (pos 2)))) ok) { requests = as_proc 2 ∷ [] }
    ∷ nobody (tick_on 2) answer.Nothing
    ∷ record (nobody (ipi_on 2) answer.Taken) { run_change = runs 2 }
    ∷ by_task 2 (call_on 2 (call.System system.LocCpu)) ok
    ∷ by_task 2 (tick_on 2) answer.Nothing
    ∷ by_task 1 (call_on 1 (call.System system.LocCpu)) ok
    ∷ by_task 1 (tick_on 1) answer.Held
    ∷ [])
unfolding numbered before_event settled unchanged act counted_down ticked with_handlers_due
ticks_elsewhere = refl

-- waits of both processors end in the order in which they began, and one that migrates keeps its count
service_of_all : Plays (with_master 2 (a_task (both 1) 10 true ∷ a_task (both 2) 5 true ∷ a_task (both 1) 5 true ∷ [])) (
    record (by_task 2 (call_on 2 (call.Task (task.DlyTsk (pos 1)))) answer.Wait) { run_change = Some None }
    ∷ record (by_task 3 (call_on 1 (call.Task (task.DlyTsk (pos 1)))) answer.Wait) { run_change = runs 1 }
    ∷ by_task 1 (tick_on 1) answer.Taken
    ∷ by_task 1 (call_on 1 (call.Task (task.MigTsk (pos 3) (pos 2)))) ok
    ∷ nobody (tick_on 2) answer.Nothing
    ∷ record (by_task 1 (tick_on 1) answer.Taken) { releases = released 2 code.Accepted None ∷ released 3 code.Accepted None ∷ []; requests = as_proc 2 ∷ [] }
    ∷ record (nobody (ipi_on 2) answer.Taken) { run_change = runs 2 }
    ∷ [])
unfolding numbered before_event settled unchanged dly_tsk mig_tsk counted_down ticked with_handlers_due
service_of_all = refl

-- all handlers are the master's, also those that another processor starts, and none can be moved from it
handlers_of_the_master : Plays (record (with_master 2 (a_task (both 1) 10 true ∷ a_task (both 2) 10 true ∷ [])) { alarms = record { class = sole 1; handler = 1 } ∷ []; cyclics = record { class = sole 1; handler = 1; period = 2; phase = 0; starts = true } ∷ [] }) (
    by_task 2 (call_on 2 (call.Time (time.StaAlm (pos 1) (pos 0)))) ok
    ∷ by_task 2 (call_on 2 (call.Time (time.MstaAlm (pos 1) (pos 5) (pos 2)))) (error code.Parameter)
    ∷ by_task 1 (call_on 1 (call.Time (time.MstaCyc (pos 1) (pos 2)))) (error code.Parameter)
    ∷ by_task 2 (tick_on 2) answer.Nothing
    ∷ by_task 1 (tick_on 1) answer.Taken
    ∷ by_task 2 (tick_on 2) answer.Nothing
    ∷ by_alarm 1 (tick_on 1) answer.Held
    ∷ by_alarm 1 (call_on 1 call.RetHdr) ok
    ∷ by_cyclic 1 (call_on 1 call.RetHdr) ok
    ∷ by_task 1 (tick_on 1) answer.Taken
    ∷ by_task 2 (call_on 2 (call.Time (time.MstaCyc (pos 1) (pos 1)))) ok
    ∷ by_task 1 (tick_on 1) answer.Taken
    ∷ by_cyclic 1 (call_on 1 (call.Time (time.ImstaAlm (pos 1) (pos 0) (pos 0)))) ok
    ∷ by_cyclic 1 (call_on 1 call.RetHdr) ok
    ∷ by_task 1 (tick_on 1) answer.Taken
    ∷ by_alarm 1 (call_on 1 call.RetHdr) ok
    ∷ [])
unfolding numbered before_event settled unchanged sta_alm msta_alm msta_cyc counted_down ticked with_handlers_due ret_hdr
handlers_of_the_master = refl

-- three queued wakeups, and priorities up to 32
larger_limits : Plays (record (of_tasks 2 (a_task (both 1) 10 true ∷ a_task (both 1) 32 false ∷ [])) { limits = record { wakeups = 3; priorities = 32 } }) (
    by_task 1 (call_on 1 (call.Task (task.ActTsk (pos 2)))) ok
    ∷ by_task 1 (call_on 1 (call.Task (task.WupTsk (pos 2)))) ok
    ∷ by_task 1 (call_on 1 (call.Task (task.WupTsk (pos 2)))) ok
    ∷ by_task 1 (call_on 1 (call.Task (task.WupTsk (pos 2)))) ok
    ∷ by_task 1 (call_on 1 (call.Task (task.WupTsk (pos 2)))) (error code.QueueOverflow)
    ∷ by_task 1 (call_on 1 (call.Task (task.ChgPri (pos 2) (pos 33)))) (error code.Parameter)
    ∷ by_task 1 (call_on 1 (call.Task (task.CanWup (pos 2)))) (value (pos 3))
    ∷ by_task 1 (call_on 1 (call.System (system.RotRdq (pos 32)))) ok
    ∷ [])
unfolding numbered before_event settled unchanged act wup chg_pri can_wup rotation
larger_limits = refl

-- a class may have handlers of a global timer where it has the master alone
master_alone : MayHandle (timer.Global (as_proc 1)) (sole 1)
master_alone = refl

no_handler_elsewhere : MayHandle (timer.Global (as_proc 1)) (sole 2) → ⊥
no_handler_elsewhere e = false≢true (ap (λ ms. slice_index_or ms 0 false) e)

no_handler_of_both : MayHandle (timer.Global (as_proc 1)) (both 1) → ⊥
no_handler_of_both e = true≢false (ap (λ ms. slice_index_or ms 1 false) e)

-- a master is one of the processors, and limits are within theirs
no_third_of_two : IsTimerOf 2 (timer.Global (as_proc 3)) → ⊥
no_third_of_two h = omega (arith, h)

not_so_many_wakeups : AreLimits (record { wakeups = 256; priorities = 16 }) → ⊥
not_so_many_wakeups h = let most = h.most_wakeups in omega (arith, most)

not_so_few_priorities : AreLimits (record { wakeups = 1; priorities = 15 }) → ⊥
not_so_few_priorities h = let least = h.least_priorities in omega (arith, least)
