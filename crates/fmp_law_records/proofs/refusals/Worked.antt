-- The errors that records tell, worked out by hand from the rules of the calls: of lists of records that no machine made.
use Rattle.std.proofs.Common.{◌≡◌, ℕ, pos, negsuc, true, false, List, [], ◌∷◌, refl, Option, Some, None}
use Rattle.fmp_codes.specs.Numbers.{as_proc, as_task, as_object}
use Rattle.fmp_codes.specs.Records.{answer_record}
use Rattle.fmp_codes.specs.declared.calls.Call.{Call}
use Rattle.fmp_codes.specs.declared.calls.Call.TheVariants as call
use Rattle.fmp_codes.specs.declared.calls.TaskCall.{TaskCall}
use Rattle.fmp_codes.specs.declared.calls.TaskCall.TheVariants as tasks
use Rattle.fmp_codes.specs.declared.calls.SyncCall.TheVariants as sync
use Rattle.fmp_codes.specs.declared.calls.BufferCall.TheVariants as buffer
use Rattle.fmp_codes.specs.declared.calls.SystemCall.TheVariants as system
use Rattle.fmp_codes.specs.declared.calls.SpinCall.TheVariants as spin
use Rattle.fmp_codes.specs.declared.calls.Mode.TheVariants as mode
use Rattle.fmp_codes.specs.declared.codes.Code.{Code}
use Rattle.fmp_codes.specs.declared.codes.Code.TheVariants as code
use Rattle.fmp_codes.specs.declared.records.Answer.{Answer}
use Rattle.fmp_codes.specs.declared.records.Answer.TheVariants as answer
use Rattle.fmp_codes.specs.declared.records.Event.TheVariants as event
use Rattle.fmp_codes.specs.declared.records.Record.{Record}
use Rattle.fmp_codes.specs.declared.records.Runner.{Runner}
use Rattle.fmp_codes.specs.declared.records.Runner.TheVariants as runner
use Rattle.fmp_setup.specs.declared.setup.Order.TheVariants as order
use Rattle.fmp_setup.specs.Setup.{Setup, of_tasks, alone}
use Rattle.fmp_rules.proofs.Scenario.{a_task, both, value}
use Rattle.fmp_law_records.specs.Refusals.Callers.{report_caller}
use Rattle.fmp_law_records.specs.Refusals.Refusals.{refusal_reported, IsRefusalReported}
use Rattle.fmp_law_records.specs.Refusals.Outcomes.{answer_reported}

-- On two processors: T1 on the first and T2 on the second run from boot on; T3 is dormant, and can only be on the first. A semaphore with
-- one unit of at most one, an eventflag for one task, data queues of no value and of one, a pool of one block, an alarm and a spin lock.
abbrev machine : Setup
machine = record (of_tasks 2 (a_task (both 1) 10 true ∷ a_task (both 2) 10 true ∷ a_task (record { initial = as_proc 1; members = alone (as_proc 1) }) 5 false ∷ [])) {
  semaphores = record { order = order.First; initial = 1; most = 1 } ∷ [];
  eventflags = record { order = order.First; many = false; clears = false; initial = 0 } ∷ [];
  data_queues = record { order = order.First; capacity = 0 } ∷ record { order = order.First; capacity = 1 } ∷ [];
  pools = record { order = order.First; blocks = 1 } ∷ [];
  alarms = record { class = both 1; handler = 1 } ∷ [];
  spin_locks = 1;
}

-- a line: who calls, on the processor of its number, and what is answered
abbrev line : ℕ → Runner → Call → Answer → Record
line p r c a = answer_record (event.Call (as_proc p) c) (Some r) a

abbrev T1 : Runner
T1 = runner.Task (as_task 1)

abbrev T2 : Runner
T2 = runner.Task (as_task 2)

abbrev AL : Runner
AL = runner.Alarm (as_object 1)

abbrev ok : Answer
ok = answer.Done code.Accepted None

-- with which code the next call is refused after these lines
abbrev next : List Record → ℕ → Runner → Call → Option Code
next lines p r c = refusal_reported machine lines (Some r) (event.Call (as_proc p) c)

abbrev asks : TaskCall → Option Code
asks c = next [] 1 T1 (call.Task c)

-- Where calls are made.

abbrev with_lock : List Record
with_lock = line 1 T1 (call.Spin (spin.LocSpn (pos 1))) ok ∷ []

while_locked : next with_lock 1 T1 (call.Task (tasks.ActTsk (pos 3))) ∷ next with_lock 1 T1 (call.Spin (spin.LocSpn (pos 1)))
    ∷ next with_lock 1 T1 (call.System system.UnlCpu)
    ∷ next with_lock 1 T1 (call.Spin (spin.UnlSpn (pos 1))) ∷ next with_lock 1 T1 (call.Task tasks.ExtTsk) ∷ next with_lock 1 T1 (call.System system.SnsLoc) ∷ []
    ≡ Some code.Context ∷ Some code.Context ∷ Some code.IllegalUse ∷ None ∷ None ∷ None ∷ []
while_locked = refl

-- of the other processor none of that holds, but for the lock itself
beside_the_lock : next with_lock 2 T2 (call.Task (tasks.ActTsk (pos 3))) ∷ next with_lock 2 T2 (call.System system.UnlCpu)
    ∷ next with_lock 2 T2 (call.Spin (spin.TrySpn (pos 1)))
    ∷ next with_lock 2 T2 (call.Spin (spin.UnlSpn (pos 1))) ∷ next with_lock 2 T2 (call.Spin (spin.LocSpn (pos 1))) ∷ []
    ≡ None ∷ None ∷ Some code.ObjectState ∷ Some code.IllegalUse ∷ None ∷ []
beside_the_lock = refl

abbrev disabled : List Record
disabled = line 1 T1 (call.System system.DisDsp) ok ∷ []

while_held : next disabled 1 T1 (call.Task tasks.SlpTsk) ∷ next disabled 1 T1 (call.Task (tasks.TslpTsk (pos 0)))
    ∷ next disabled 1 T1 (call.Task (tasks.MigTsk (pos 0) (pos 2)))
    ∷ next disabled 1 T1 (call.Task (tasks.SusTsk (pos 1))) ∷ next disabled 1 T1 (call.Task (tasks.SusTsk (pos 2)))
    ∷ next disabled 1 T1 (call.Sync (sync.PolSem (pos 1))) ∷ []
    ≡ Some code.Context ∷ Some code.Context ∷ Some code.Context ∷ Some code.Context ∷ None ∷ None ∷ []
while_held = refl

-- a call for tasks from a handler, and one for handlers from a task
who_calls : next [] 1 AL (call.Task (tasks.ActTsk (pos 3))) ∷ asks (tasks.IactTsk (pos 3)) ∷ next [] 1 T1 call.RetHdr ∷ next [] 1 AL (call.System system.SnsCtx)
    ∷ next [] 1 T1 (call.System system.SnsCtx) ∷ []
    ≡ Some code.Context ∷ Some code.Context ∷ Some code.Context ∷ None ∷ None ∷ []
who_calls = refl

-- Arguments. An unknown ID comes before an argument out of its range, and both before errors on the state.

arguments : asks (tasks.MigTsk (pos 1) (pos 9)) ∷ asks (tasks.MigTsk (pos 3) (pos 2)) ∷ asks (tasks.ActTsk (pos 4)) ∷ asks (tasks.TerTsk (pos 0))
    ∷ asks (tasks.ChgPri (pos 9) (pos 17))
    ∷ asks (tasks.ChgPri (pos 3) (pos 17)) ∷ asks (tasks.ChgPri (pos 3) (pos 16)) ∷ asks (tasks.DlyTsk (negsuc 0)) ∷ asks (tasks.DlyTsk (pos 2147483647)) ∷ []
    ≡ Some code.Identifier ∷ Some code.Parameter ∷ Some code.Identifier ∷ Some code.Identifier ∷ Some code.Identifier ∷ Some code.Parameter ∷ Some code.ObjectState
    ∷ Some code.Parameter ∷ None ∷ []
arguments = refl

timeouts : next [] 1 T1 (call.Sync (sync.TwaiSem (pos 99) (negsuc 4))) ∷ next [] 1 T1 (call.Sync (sync.TwaiSem (pos 1) (negsuc 4)))
    ∷ next [] 1 T1 (call.Sync (sync.TwaiSem (pos 1) (negsuc 0)))
    ∷ next [] 1 T1 (call.Sync (sync.WaiFlg (pos 1) 0 mode.Orw)) ∷ next [] 1 T1 (call.System (system.RotRdq (pos 0)))
    ∷ next [] 1 AL (call.System (system.IrotRdq (pos 0))) ∷ next [] 1 T1 (call.System (system.MrotRdq (pos 10) (pos 0))) ∷ []
    ≡ Some code.Identifier ∷ Some code.Parameter ∷ None ∷ Some code.Parameter ∷ None ∷ Some code.Parameter ∷ Some code.Identifier ∷ []
timeouts = refl

-- Tasks.

of_others : asks (tasks.MigTsk (pos 2) (pos 1)) ∷ asks (tasks.TerTsk (pos 2)) ∷ asks (tasks.TerTsk (pos 1)) ∷ asks (tasks.TerTsk (pos 3)) ∷ asks (tasks.GetPri (pos 3))
    ∷ asks (tasks.WupTsk (pos 3))
    ∷ asks (tasks.RelWai (pos 2)) ∷ asks (tasks.RsmTsk (pos 2)) ∷ asks (tasks.SusTsk (pos 3)) ∷ []
    ≡ Some code.ObjectState ∷ Some code.ObjectState ∷ Some code.IllegalUse ∷ Some code.ObjectState ∷ Some code.ObjectState ∷ Some code.ObjectState
    ∷ Some code.ObjectState ∷ Some code.ObjectState ∷ Some code.ObjectState ∷ []
of_others = refl

-- what is asked for twice
abbrev twice : TaskCall → Option Code
twice c = next (line 1 T1 (call.Task c) ok ∷ []) 1 T1 (call.Task c)

asked_twice : twice (tasks.ActTsk (pos 2)) ∷ twice (tasks.ActTsk (pos 3)) ∷ twice (tasks.WupTsk (pos 2)) ∷ twice (tasks.SusTsk (pos 2)) ∷ []
    ≡ Some code.QueueOverflow ∷ None ∷ Some code.QueueOverflow ∷ Some code.QueueOverflow ∷ []
asked_twice = refl

abbrev asleep : List Record
asleep = line 2 T2 (call.Task tasks.SlpTsk) answer.Wait ∷ []

of_one_asleep : next asleep 1 T1 (call.Task (tasks.RelWai (pos 2))) ∷ next asleep 1 T1 (call.Task (tasks.WupTsk (pos 2))) ∷ asks (tasks.TslpTsk (pos 0)) ∷ []
    ≡ None ∷ None ∷ Some code.TimedOut ∷ []
of_one_asleep = refl

-- Objects.

abbrev taken : List Record
taken = line 1 T1 (call.Sync (sync.PolSem (pos 1))) ok ∷ []

units : next [] 1 T1 (call.Sync (sync.SigSem (pos 1))) ∷ next [] 1 T1 (call.Sync (sync.PolSem (pos 1))) ∷ next taken 1 T1 (call.Sync (sync.SigSem (pos 1)))
    ∷ next taken 1 T1 (call.Sync (sync.PolSem (pos 1)))
    ∷ next taken 1 T1 (call.Sync (sync.TwaiSem (pos 1) (pos 0))) ∷ next taken 1 T1 (call.Sync (sync.TwaiSem (pos 1) (pos 1))) ∷ []
    ≡ Some code.QueueOverflow ∷ None ∷ None ∷ Some code.TimedOut ∷ Some code.TimedOut ∷ None ∷ []
units = refl

abbrev used : List Record
used = line 2 T2 (call.Sync (sync.WaiFlg (pos 1) 1 mode.Andw)) answer.Wait ∷ []

bits : next [] 1 T1 (call.Sync (sync.PolFlg (pos 1) 2 mode.Orw)) ∷ next used 1 T1 (call.Sync (sync.PolFlg (pos 1) 2 mode.Orw))
    ∷ next used 1 T1 (call.Sync (sync.WaiFlg (pos 1) 1 mode.Andw))
    ∷ next (line 1 T1 (call.Sync (sync.SetFlg (pos 1) 6)) ok ∷ []) 1 T1 (call.Sync (sync.PolFlg (pos 1) 2 mode.Orw)) ∷ []
    ≡ Some code.TimedOut ∷ Some code.IllegalUse ∷ Some code.IllegalUse ∷ None ∷ []
bits = refl

abbrev sent : List Record
sent = line 1 T1 (call.Buffer (buffer.PsndDtq (pos 2) (pos 7))) ok ∷ []

data_queues : next [] 1 T1 (call.Buffer (buffer.FsndDtq (pos 1) (pos 1))) ∷ next [] 1 T1 (call.Buffer (buffer.PsndDtq (pos 1) (pos 1)))
    ∷ next [] 1 T1 (call.Buffer (buffer.PsndDtq (pos 2) (pos 1)))
    ∷ next [] 1 T1 (call.Buffer (buffer.PrcvDtq (pos 2))) ∷ next sent 1 T1 (call.Buffer (buffer.PsndDtq (pos 2) (pos 1)))
    ∷ next sent 1 T1 (call.Buffer (buffer.FsndDtq (pos 2) (pos 1))) ∷ next sent 1 T1 (call.Buffer (buffer.PrcvDtq (pos 2))) ∷ []
    ≡ Some code.IllegalUse ∷ Some code.TimedOut ∷ None ∷ Some code.TimedOut ∷ Some code.TimedOut ∷ None ∷ None ∷ []
data_queues = refl

abbrev got : List Record
got = line 1 T1 (call.Buffer (buffer.GetMpf (pos 1))) (answer.Done code.Accepted (Some (pos 0))) ∷ []

blocks : next [] 1 T1 (call.Buffer (buffer.RelMpf (pos 1) (pos 0))) ∷ next [] 1 T1 (call.Buffer (buffer.PgetMpf (pos 1)))
    ∷ next got 1 T1 (call.Buffer (buffer.RelMpf (pos 1) (pos 0)))
    ∷ next got 1 T1 (call.Buffer (buffer.RelMpf (pos 1) (pos 5))) ∷ next got 1 T1 (call.Buffer (buffer.PgetMpf (pos 1))) ∷ []
    ≡ Some code.Parameter ∷ None ∷ None ∷ Some code.Parameter ∷ Some code.TimedOut ∷ []
blocks = refl

-- A line that answers a later error of its row, a needless one, or none where one is due is no line of the machine.

another_error : IsRefusalReported machine [] (line 1 T1 (call.Task (tasks.ChgPri (pos 3) (pos 17))) (answer.Done code.ObjectState None)) → ⊥
another_error h = cc

needless_error : IsRefusalReported machine [] (line 1 T1 (call.Task (tasks.ActTsk (pos 3))) (answer.Done code.QueueOverflow None)) → ⊥
needless_error h = cc

no_error : IsRefusalReported machine with_lock (line 1 T1 (call.Task (tasks.ActTsk (pos 3))) ok) → ⊥
no_error h = cc

-- What calls answer that are not refused.

abbrev answers_next : List Record → ℕ → Runner → Call → Answer
answers_next lines p r c = answer_reported machine lines (Some r) None (event.Call (as_proc p) c)

at_once_or_not : answers_next [] 1 T1 (call.Sync (sync.WaiSem (pos 1))) ∷ answers_next taken 1 T1 (call.Sync (sync.WaiSem (pos 1)))
    ∷ answers_next taken 1 T1 (call.Sync (sync.TwaiSem (pos 1) (pos 0)))
    ∷ answers_next with_lock 2 T2 (call.Spin (spin.LocSpn (pos 1))) ∷ answers_next [] 1 T1 (call.Task tasks.ExtTsk)
    ∷ answers_next [] 1 T1 (call.Task (tasks.DlyTsk (pos 0))) ∷ []
    ≡ ok ∷ answer.Wait ∷ answer.Done code.TimedOut None ∷ answer.Spin ∷ answer.Gone ∷ answer.Wait ∷ []
at_once_or_not = refl

with_values : answers_next [] 1 T1 (call.Buffer (buffer.GetMpf (pos 1))) ∷ answers_next [] 2 T2 (call.System system.GetTid)
    ∷ answers_next [] 2 T2 (call.System system.GetPid) ∷ answers_next [] 1 AL (call.System system.SnsCtx)
    ∷ answers_next disabled 1 T1 (call.System system.SnsDpn) ∷ answers_next disabled 2 T2 (call.System system.SnsDpn)
    ∷ answers_next [] 1 T1 (call.Task (tasks.GetPri (pos 2)))
    ∷ answers_next (line 1 T1 (call.Task (tasks.ActTsk (pos 2))) ok ∷ []) 1 T1 (call.Task (tasks.CanAct (pos 2))) ∷ []
    ≡ value (pos 0) ∷ value (pos 2) ∷ value (pos 2) ∷ value (pos 1) ∷ value (pos 1) ∷ value (pos 0) ∷ value (pos 10) ∷ value (pos 1) ∷ []
with_values = refl

-- nobody calls where no task runs
nobody_calls : answer_reported machine [] None None (event.Call (as_proc 1) (call.Task (tasks.ActTsk (pos 9)))) ≡ answer.Idle
nobody_calls = refl

-- a tick is held back while its processor is locked, and an interrupt finds no request unless one was sent
signals : answer_reported machine with_lock (Some T1) None (event.Tick (as_proc 1)) ∷ answer_reported machine disabled (Some T1) None (event.Tick (as_proc 1))
    ∷ answer_reported machine disabled (Some T1) None (event.Ipi (as_proc 1))
    ∷ answer_reported machine [] (Some T1) None (event.Ipi (as_proc 1))
    ∷ answer_reported machine (record (line 1 T1 (call.Task (tasks.ActTsk (pos 2))) ok) { requests = as_proc 2 ∷ [] } ∷ []) (Some T2) None (event.Ipi (as_proc 2)) ∷ []
    ≡ answer.Held ∷ answer.Taken ∷ answer.Held ∷ answer.Nothing ∷ answer.Taken ∷ []
signals = refl

-- who calls: the tops at boot, and whom a record says to run from then on
callers : report_caller machine (as_proc 2) [] ∷ report_caller machine (as_proc 2) (record (line 2 T2 (call.Task tasks.SlpTsk) answer.Wait) { run_change = Some None } ∷ [])
    ∷ report_caller machine (as_proc 1) asleep ∷ []
    ≡ Some T2 ∷ None ∷ Some T1 ∷ []
callers = refl
