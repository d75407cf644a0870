-- The effects that records tell, worked out by hand from the rules of the calls: of lists of records that no machine made.
use Rattle.std.proofs.Common.{◌≡◌, ℕ, ℤ, pos, true, false, List, [], ◌∷◌, refl, Option, Some, None}
use Rattle.fmp_codes.specs.Numbers.{as_proc, as_task}
use Rattle.fmp_codes.specs.Records.{answer_record}
use Rattle.fmp_codes.specs.declared.numbers.Proc.{Proc}
use Rattle.fmp_codes.specs.declared.numbers.Task.{Task}
use Rattle.fmp_codes.specs.declared.calls.Call.{Call}
use Rattle.fmp_codes.specs.declared.calls.Call.TheVariants as call
use Rattle.fmp_codes.specs.declared.calls.TaskCall.TheVariants as tasks
use Rattle.fmp_codes.specs.declared.calls.SyncCall.TheVariants as sync
use Rattle.fmp_codes.specs.declared.calls.BufferCall.TheVariants as buffer
use Rattle.fmp_codes.specs.declared.calls.SystemCall.TheVariants as system
use Rattle.fmp_codes.specs.declared.calls.Mode.TheVariants as mode
use Rattle.fmp_codes.specs.declared.codes.Code.{Code}
use Rattle.fmp_codes.specs.declared.codes.Code.TheVariants as code
use Rattle.fmp_codes.specs.declared.records.Answer.{Answer}
use Rattle.fmp_codes.specs.declared.records.Answer.TheVariants as answer
use Rattle.fmp_codes.specs.declared.records.Event.TheVariants as event
use Rattle.fmp_codes.specs.declared.records.Record.{Record}
use Rattle.fmp_codes.specs.declared.records.Release.{Release}
use Rattle.fmp_codes.specs.declared.records.Runner.{Runner}
use Rattle.fmp_codes.specs.declared.records.Runner.TheVariants as runner
use Rattle.fmp_setup.specs.declared.setup.Order.TheVariants as order
use Rattle.fmp_setup.specs.Setup.{Setup, of_tasks}
use Rattle.fmp_rules.proofs.Scenario.{a_task, both, ok}
use Rattle.fmp_law_records.specs.Effects.RunChanges.{change_reported, requests_reported}
use Rattle.fmp_law_records.specs.Effects.Losses.{lost_reported}
use Rattle.fmp_law_records.specs.Effects.Releases.{releases_reported}
use Rattle.fmp_law_records.specs.Effects.Received.{received_reported}
use Rattle.fmp_law_records.specs.Effects.Told.{run_told}

-- On two processors, from boot on: T1 on the first; on the second T3, of priority 5, before T2, of priority 10. A semaphore by priority
-- without a unit, an eventflag that many tasks may wait for and that is cleared, one that is not, data queues of no value, of two, and by priority
-- of no value, and a pool of one block.
abbrev machine : Setup
machine = record (of_tasks 2 (a_task (both 1) 10 true ∷ a_task (both 2) 10 true ∷ a_task (both 2) 5 true ∷ [])) {
  semaphores = record { order = order.Priority; initial = 0; most = 1 } ∷ [];
  eventflags = record { order = order.First; many = true; clears = true; initial = 0 } ∷ record { order = order.First; many = true; clears = false; initial = 0 } ∷ [];
  data_queues = record { order = order.First; capacity = 0 } ∷ record { order = order.First; capacity = 2 } ∷ record { order = order.Priority; capacity = 0 } ∷ [];
  pools = record { order = order.First; blocks = 1 } ∷ [];
}

abbrev T : ℕ → Runner
T t = runner.Task (as_task t)

-- a line: which task calls, on the processor of a number, and what is answered
abbrev line : ℕ → ℕ → Call → Answer → Record
line p t c a = answer_record (event.Call (as_proc p) c) (Some (T t)) a

-- T2 and T3 wait for this, T2 first
abbrev both_wait : Call → List Record
both_wait c = line 2 2 c answer.Wait ∷ line 2 3 c answer.Wait ∷ []

abbrev waits : ℕ → Call → List Record
waits t c = line 2 t c answer.Wait ∷ []

-- what an accepted call of T1 releases after these lines
abbrev next : List Record → Call → List Release
next lines c = releases_reported machine lines (Some (T 1)) ok (event.Call (as_proc 1) c)

abbrev rel : ℕ → Code → Option ℤ → Release
rel t x v = record { task = as_task t; code = x; value = v }

-- The first of a queue.

by_priority : next (both_wait (call.Sync (sync.WaiSem (pos 1)))) (call.Sync (sync.SigSem (pos 1))) ∷ next [] (call.Sync (sync.SigSem (pos 1))) ∷ []
    ≡ (rel 3 code.Accepted None ∷ []) ∷ [] ∷ []
by_priority = refl

-- a call that is refused releases nobody
refused : releases_reported machine (both_wait (call.Sync (sync.WaiSem (pos 1)))) (Some (T 1)) (answer.Done code.Context None)
    (event.Call (as_proc 1) (call.Sync (sync.SigSem (pos 1)))) ≡ []
refused = refl

-- receivers come as their waits began, and get the value; senders get none
buffers : next (both_wait (call.Buffer (buffer.RcvDtq (pos 1)))) (call.Buffer (buffer.SndDtq (pos 1) (pos 7)))
    ∷ next (both_wait (call.Buffer (buffer.RcvDtq (pos 1)))) (call.Buffer (buffer.FsndDtq (pos 2) (pos 7)))
    ∷ next (waits 2 (call.Buffer (buffer.SndDtq (pos 1) (pos 9)))) (call.Buffer (buffer.PrcvDtq (pos 1)))
    ∷ next (waits 2 (call.Buffer (buffer.GetMpf (pos 1)))) (call.Buffer (buffer.RelMpf (pos 1) (pos 0))) ∷ []
    ≡ (rel 2 code.Accepted (Some (pos 7)) ∷ []) ∷ [] ∷ (rel 2 code.Accepted None ∷ []) ∷ (rel 2 code.Accepted (Some (pos 0)) ∷ []) ∷ []
buffers = refl

-- T2 waits for bit 1 and T3 for bit 1 or 2 of a flag
abbrev for_bits : ℤ → List Record
for_bits id = line 2 2 (call.Sync (sync.WaiFlg id 1 mode.Andw)) answer.Wait ∷ line 2 3 (call.Sync (sync.WaiFlg id 3 mode.Orw)) answer.Wait ∷ []

flags : next (for_bits (pos 1)) (call.Sync (sync.SetFlg (pos 1) 3)) ∷ next (for_bits (pos 2)) (call.Sync (sync.SetFlg (pos 2) 3))
    ∷ next (for_bits (pos 1)) (call.Sync (sync.SetFlg (pos 1) 2)) ∷ next (for_bits (pos 1)) (call.Sync (sync.SetFlg (pos 1) 4)) ∷ []
    ≡ (rel 2 code.Accepted (Some (pos 3)) ∷ []) ∷ (rel 2 code.Accepted (Some (pos 3)) ∷ rel 3 code.Accepted (Some (pos 3)) ∷ [])
    ∷ (rel 3 code.Accepted (Some (pos 2)) ∷ []) ∷ [] ∷ []
flags = refl

-- a delay does not end by a wakeup
by_name : next (waits 2 (call.Task tasks.SlpTsk)) (call.Task (tasks.WupTsk (pos 2))) ∷ next (waits 2 (call.Task tasks.SlpTsk)) (call.Task (tasks.WupTsk (pos 3)))
    ∷ next (waits 2 (call.Task (tasks.DlyTsk (pos 5)))) (call.Task (tasks.WupTsk (pos 2))) ∷ next (waits 2 (call.Task (tasks.DlyTsk (pos 5))))
    (call.Task (tasks.RelWai (pos 2)))
    ∷ next (waits 2 (call.Task tasks.SlpTsk)) (call.Task (tasks.TerTsk (pos 2))) ∷ []
    ≡ (rel 2 code.Accepted None ∷ []) ∷ [] ∷ [] ∷ (rel 2 code.WaitReleased None ∷ []) ∷ [] ∷ []
by_name = refl

-- Ticks.

abbrev tick : ℕ → Answer → List Record → List Release
tick p a lines = releases_reported machine lines (Some (T 2)) a (event.Tick (as_proc p))

-- T3 waits for a unit and then T2 for a time, both for two ticks on the second processor
abbrev timed : List Record
timed = line 2 3 (call.Sync (sync.TwaiSem (pos 1) (pos 1))) answer.Wait ∷ line 2 2 (call.Task (tasks.DlyTsk (pos 1))) answer.Wait ∷ []

abbrev timed_once : List Record
timed_once = line 2 3 (call.Sync (sync.TwaiSem (pos 1) (pos 1))) answer.Wait ∷ line 2 2 (call.Task (tasks.DlyTsk (pos 1))) answer.Wait
    ∷ answer_record (event.Tick (as_proc 2)) None answer.Taken ∷ []

in_time : tick 2 answer.Taken timed ∷ tick 1 answer.Taken timed_once ∷ tick 2 answer.Held timed_once ∷ tick 2 answer.Taken timed_once ∷ []
    ≡ [] ∷ [] ∷ [] ∷ (rel 3 code.TimedOut None ∷ rel 2 code.Accepted None ∷ []) ∷ []
in_time = refl

-- What is lost.

abbrev put : ℕ → Record
put v = line 1 1 (call.Buffer (buffer.PsndDtq (pos 2) (pos v))) ok

abbrev force : ℕ → Record
force v = line 1 1 (call.Buffer (buffer.FsndDtq (pos 2) (pos v))) ok

abbrev lost : List Record → Option ℤ
lost lines = lost_reported machine lines ok (event.Call (as_proc 1) (call.Buffer (buffer.FsndDtq (pos 2) (pos 1))))

losses : lost (put 7 ∷ []) ∷ lost (put 7 ∷ put 8 ∷ []) ∷ lost (put 7 ∷ put 8 ∷ record (force 9) { lost = Some (pos 7) } ∷ []) ∷ []
    ≡ None ∷ Some (pos 7) ∷ Some (pos 8) ∷ []
losses = refl

kept : lost_reported machine (put 7 ∷ put 8 ∷ []) (answer.Done code.IllegalUse None) (event.Call (as_proc 1) (call.Buffer (buffer.FsndDtq (pos 2) (pos 1)))) ≡ None
kept = refl

-- What is received.

abbrev receive : ℤ → Call
receive id = call.Buffer (buffer.PrcvDtq id)

abbrev received : List Record → ℤ → Option ℤ
received lines id = received_reported machine lines (event.Call (as_proc 1) (receive id))

-- T1 receives a value, and these are released
abbrev gets : ℕ → List Release → Record
gets v rs = record (line 1 1 (receive (pos 2)) (answer.Done code.Accepted (Some (pos v)))) { releases = rs }

-- the oldest of the values that are there
oldest_first : received [] (pos 2) ∷ received (put 7 ∷ put 8 ∷ []) (pos 2) ∷ received (put 7 ∷ put 8 ∷ gets 7 [] ∷ []) (pos 2)
    ∷ received (put 7 ∷ put 8 ∷ record (force 9) { lost = Some (pos 7) } ∷ []) (pos 2) ∷ received (put 7 ∷ put 8 ∷ []) (pos 1) ∷ []
    ≡ None ∷ Some (pos 7) ∷ Some (pos 8) ∷ Some (pos 8) ∷ None ∷ []
oldest_first = refl

-- T2 waits to send 9 to a data queue, and then T3 waits to send 6
abbrev both_send : ℤ → List Record
both_send id = line 2 2 (call.Buffer (buffer.SndDtq id (pos 9))) answer.Wait ∷ line 2 3 (call.Buffer (buffer.SndDtq id (pos 6))) answer.Wait ∷ []

-- where no value is there, that of the first sender in its order
from_senders : received (both_send (pos 1)) (pos 1) ∷ received (both_send (pos 3)) (pos 3) ∷ received (both_send (pos 1)) (pos 3) ∷ []
    ≡ Some (pos 9) ∷ Some (pos 6) ∷ None ∷ []
from_senders = refl

-- values that are there come before those of who waits to send
abbrev full : List Record
full = put 7 ∷ put 8 ∷ line 2 2 (call.Buffer (buffer.SndDtq (pos 2) (pos 9))) answer.Wait ∷ []

abbrev then_gets : List Record
then_gets = put 7 ∷ put 8 ∷ line 2 2 (call.Buffer (buffer.SndDtq (pos 2) (pos 9))) answer.Wait ∷ gets 7 (rel 2 code.Accepted None ∷ []) ∷ gets 8 [] ∷ []

in_turn : received full (pos 2) ∷ received then_gets (pos 2) ∷ received_reported machine full (event.Call (as_proc 1) (call.Buffer (buffer.PsndDtq (pos 2) (pos 1)))) ∷ []
    ≡ Some (pos 7) ∷ Some (pos 9) ∷ None ∷ []
in_turn = refl

-- Who runs next, and who is sent a request.

abbrev sleeps : Record
sleeps = line 2 3 (call.Task tasks.SlpTsk) answer.Wait

abbrev slept : List Record
slept = record sleeps { run_change = Some (Some (as_task 2)) } ∷ []

-- T1 wakes T3 up, which is more urgent than T2
abbrev wakes : Record
wakes = record (line 1 1 (call.Task (tasks.WupTsk (pos 3))) ok) { releases = rel 3 code.Accepted None ∷ [] }

changes : change_reported machine [] sleeps ∷ change_reported machine slept wakes ∷ [] ≡ Some (Some (as_task 2)) ∷ None ∷ []
changes = refl

requests : requests_reported machine [] sleeps ∷ requests_reported machine slept wakes ∷ [] ≡ [] ∷ (as_proc 2 ∷ []) ∷ []
requests = refl

-- while dispatching is disabled T3 runs on, although it is given a lower priority
abbrev held : List Record
held = line 2 3 (call.System system.DisDsp) ok ∷ line 2 3 (call.Task (tasks.ChgPri (pos 3) (pos 11))) ok ∷ []

while_held : change_reported machine (line 2 3 (call.System system.DisDsp) ok ∷ []) (line 2 3 (call.Task (tasks.ChgPri (pos 3) (pos 11))) ok)
    ∷ change_reported machine held (line 2 3 (call.System system.EnaDsp) ok) ∷ []
    ≡ None ∷ Some (Some (as_task 2)) ∷ []
while_held = refl

-- A run that no machine made: T3 waits for a unit, and T2 runs in its place; T1 brings one, and asks the second processor to look; there
-- the request is taken, and T3 runs.

abbrev shown : Record → Option (Option Task) → List Proc → Record
shown r change asked = record r { run_change = change; requests = asked }

told_by_hand : run_told machine [] (event.Call (as_proc 2) (call.Sync (sync.WaiSem (pos 1))) ∷ event.Call (as_proc 1) (call.Sync (sync.SigSem (pos 1))) ∷ event.Ipi (as_proc 2) ∷ [])
    ≡ shown (line 2 3 (call.Sync (sync.WaiSem (pos 1))) answer.Wait) (Some (Some (as_task 2))) []
    ∷ shown (record (line 1 1 (call.Sync (sync.SigSem (pos 1))) ok) { releases = rel 3 code.Accepted None ∷ [] }) None (as_proc 2 ∷ [])
    ∷ shown (answer_record (event.Ipi (as_proc 2)) (Some (T 2)) answer.Taken) (Some (Some (as_task 3))) []
    ∷ []
told_by_hand = refl
