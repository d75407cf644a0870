-- Records that no run has, which the laws refuse.
use Rattle.std.proofs.Common.{◌≡◌, ℕ, ℤ, pos, true, false, List, [], ◌∷◌, refl, sym, ap, ◌∙◌, subst, arith, Option, Some, None, ⊎_elim}
use Rattle.std.specs.Prelude.{◌==◌}
use Rattle.std.proofs.lemmas.Bool.{false≢true, true≢false}
use Rattle.std.proofs.lemmas.Option.{none-some, same_Some}
use Rattle.fmp_codes.specs.Numbers.{as_proc, as_task, as_object}
use Rattle.fmp_codes.specs.declared.calls.Call.{Call}
use Rattle.fmp_codes.specs.declared.calls.Call.TheVariants as call
use Rattle.fmp_codes.specs.declared.calls.TaskCall.TheVariants as task
use Rattle.fmp_codes.specs.declared.calls.Mode.TheVariants as mode
use Rattle.fmp_codes.specs.declared.calls.SyncCall.TheVariants as sync
use Rattle.fmp_codes.specs.declared.calls.BufferCall.TheVariants as buffer
use Rattle.fmp_codes.specs.declared.codes.Code.{Code}
use Rattle.fmp_codes.specs.declared.codes.Code.TheVariants as code
use Rattle.fmp_codes.specs.declared.records.Answer.{Answer}
use Rattle.fmp_codes.specs.declared.records.Answer.TheVariants as answer
use Rattle.fmp_codes.specs.declared.records.Event.{Event}
use Rattle.fmp_codes.specs.declared.records.Event.TheVariants as event
use Rattle.fmp_codes.specs.declared.records.Record.{Record}
use Rattle.fmp_codes.specs.declared.records.Release.{Release}
use Rattle.fmp_codes.specs.declared.records.Runner.TheVariants as runner
use Rattle.fmp_rules.specs.declared.machine.Wait.TheVariants as wait
use Rattle.fmp_rules.specs.Objects.{holds}
use Rattle.fmp_setup.specs.Setup.{Setup, of_tasks}
use Rattle.fmp_rules.proofs.Scenario.{a_task, both}
use Rattle.fmp_law_balance.specs.Waits.Asked.{OpenWait}
use Rattle.fmp_law_balance.specs.Waits.Waits.{is_tick_for, OpenWaits, nobody_waits, after_record, after_records}
use Rattle.fmp_law_balance.specs.Waits.Releases.{breaks_off, Gives, IsServed, IsBrokenOff, IsOver, EndsOpenWait, EachReleaseFits}

-- the record of an event that answered this and ended these waits, where this task ran
abbrev pub record_of : ℕ → Event → Answer → List Release → Record
record_of t e a xs = record { event = e; runner = Some (runner.Task (as_task t)); answer = a; releases = xs; lost = None; run_change = None; requests = [] }

-- task 1 made this call and waits
abbrev pub waiting : Call → Record
waiting c = record_of 1 (event.Call (as_proc 1) c) answer.Wait []

-- task 2 made this call, which was accepted and released task 1 with this code and value
abbrev pub releasing : Call → Code → Option ℤ → Record
releasing c x value = record_of 2 (event.Call (as_proc 2) c) (answer.Done code.Accepted None) (record { task = as_task 1; code = x; value = value } ∷ [])

-- two processors, each with its own timer, and a task on each
abbrev pub setup : Setup
setup = of_tasks 2 (a_task (both 1) 10 true ∷ a_task (both 2) 10 true ∷ [])

-- a release is refused after this record where its event is none that may end the wait that is open then
refused : (first r : Record) (x : Release) (o : OpenWait) → after_record setup nobody_waits first x.task ≡ Some o → (Gives r.event x.task o.wait x.value → ⊥) → breaks_off x.task r.event ≡ false →
    is_tick_for setup.timer o.assigned r.answer r.event ≡ false → EndsOpenWait setup (after_record setup nobody_waits first) r x → ⊥
refused first r x o is gives breaks tick h =
    let same : o ≡ h.0 = same_Some o h.0 (sym is ∙ h.1) in
    ⊎_elim (λ (served : IsServed h.0 r.event r.answer x). gives (subst (λ (y : OpenWait). Gives r.event x.task y.wait x.value) (sym same) served.given))
    (⊎_elim (λ (broken : IsBrokenOff h.0 r.event r.answer x). false≢true (sym breaks ∙ broken.called))
    (λ (over : IsOver setup h.0 r.event r.answer x). false≢true (sym tick ∙ ap (λ (y : OpenWait). is_tick_for setup.timer y.assigned r.answer r.event) same ∙ over.counts))) h.2

abbrev pub of_task_1 : Code → Option ℤ → Release
of_task_1 x value = record { task = as_task 1; code = x; value = value }

-- calls that wait, and calls that release

abbrev pub waits_for_semaphore : Record
waits_for_semaphore = waiting (call.Sync (sync.WaiSem (pos 1)))

abbrev pub signals_semaphore : ℕ → Record
signals_semaphore s = releasing (call.Sync (sync.SigSem (pos s))) code.Accepted None

abbrev pub receives_from : ℕ → Record
receives_from d = waiting (call.Buffer (buffer.RcvDtq (pos d)))

abbrev pub sends_to_1 : ℕ → ℕ → Record
sends_to_1 x value = releasing (call.Buffer (buffer.SndDtq (pos 1) (pos x))) code.Accepted (Some (pos value))

-- a signal of semaphore 2 does not release who waits for semaphore 1
other_semaphore : EachReleaseFits setup nobody_waits (waits_for_semaphore ∷ signals_semaphore 2 ∷ []) → ⊥
other_semaphore h =
    refused waits_for_semaphore (signals_semaphore 2) (of_task_1 code.Accepted None) (record { wait = wait.Semaphore (as_object 1); left = None; assigned = as_proc 1 }) refl (λ gives. false≢true gives.0) refl refl
    (h.1.0.fit 0 (of_task_1 code.Accepted None) (omega arith))

-- a block of pool 1 is not handed to who waits for pool 2
other_pool : EachReleaseFits setup nobody_waits (waiting (call.Buffer (buffer.GetMpf (pos 2))) ∷ releasing (call.Buffer (buffer.RelMpf (pos 1) (pos 0))) code.Accepted (Some (pos 0)) ∷ []) → ⊥
other_pool h =
    refused (waiting (call.Buffer (buffer.GetMpf (pos 2)))) (releasing (call.Buffer (buffer.RelMpf (pos 1) (pos 0))) code.Accepted (Some (pos 0))) (of_task_1 code.Accepted (Some (pos 0))) (record { wait = wait.Pool (as_object 2); left = None; assigned = as_proc 1 }) refl
    (λ gives. false≢true gives.0) refl refl (h.1.0.fit 0 (of_task_1 code.Accepted None) (omega arith))

-- a value that is sent to data queue 1 does not go to who receives from data queue 2
other_queue : EachReleaseFits setup nobody_waits (receives_from 2 ∷ sends_to_1 7 7 ∷ []) → ⊥
other_queue h =
    refused (receives_from 2) (sends_to_1 7 7) (of_task_1 code.Accepted (Some (pos 7))) (record { wait = wait.Receive (as_object 2); left = None; assigned = as_proc 1 }) refl (λ gives. false≢true gives.0) refl refl
    (h.1.0.fit 0 (of_task_1 code.Accepted None) (omega arith))

-- the number of a value
abbrev pub number_in : Option ℤ → ℕ
number_in (Some (pos n)) = n
number_in other = 0

-- another value than the one that was sent does not go to a receiver
other_value : EachReleaseFits setup nobody_waits (receives_from 1 ∷ sends_to_1 7 8 ∷ []) → ⊥
other_value h =
    refused (receives_from 1) (sends_to_1 7 8) (of_task_1 code.Accepted (Some (pos 8))) (record { wait = wait.Receive (as_object 1); left = None; assigned = as_proc 1 }) refl
    (λ gives. false≢true (ap (λ o. number_in o == 7) gives.1)) refl refl (h.1.0.fit 0 (of_task_1 code.Accepted None) (omega arith))

-- a wait for all bits of 3 does not end at the pattern 1
bits_not_set : EachReleaseFits setup nobody_waits (waiting (call.Sync (sync.WaiFlg (pos 1) 3 mode.Andw)) ∷ releasing (call.Sync (sync.SetFlg (pos 1) 1)) code.Accepted (Some (pos 1)) ∷ []) → ⊥
bits_not_set h =
    refused (waiting (call.Sync (sync.WaiFlg (pos 1) 3 mode.Andw))) (releasing (call.Sync (sync.SetFlg (pos 1) 1)) code.Accepted (Some (pos 1))) (of_task_1 code.Accepted (Some (pos 1)))
    (record { wait = wait.Eventflag (as_object 1) 3 mode.Andw; left = None; assigned = as_proc 1 }) refl
    (λ gives. let set = gives.1 in false≢true (subst (λ o. holds (number_in o) 3 mode.Andw ≡ true) (sym set.1) set.2)) refl refl (h.1.0.fit 0 (of_task_1 code.Accepted None) (omega arith))

-- one wait does not end twice: not in two records
ends_again : EachReleaseFits setup nobody_waits (waits_for_semaphore ∷ signals_semaphore 1 ∷ signals_semaphore 1 ∷ []) → ⊥
ends_again h = let again = h.1.1.0.fit 0 (of_task_1 code.Accepted None) (omega arith) in none-some again.0 again.1

-- a signal that releases task 1 twice
abbrev pub signals_twice : Record
signals_twice = record (signals_semaphore 1) { releases = of_task_1 code.Accepted None ∷ of_task_1 code.Accepted None ∷ [] }

-- and not in one
released_twice : EachReleaseFits setup nobody_waits (waits_for_semaphore ∷ signals_twice ∷ []) → ⊥
released_twice h = true≢false h.1.0.once.0

-- Timeouts.

-- task 1 waits for semaphore 1 for at most 1 tick more than this one, from processor 1
abbrev pub waits_a_tick : Record
waits_a_tick = waiting (call.Sync (sync.TwaiSem (pos 1) (pos 1)))

-- a tick on a processor, which releases nobody, or times task 1 out
abbrev pub tick_on : ℕ → Record
tick_on p = record_of 2 (event.Tick (as_proc p)) answer.Taken []

abbrev pub times_out_on : ℕ → Record
times_out_on p = record (tick_on p) { releases = of_task_1 code.TimedOut None ∷ [] }

-- a release by a tick is refused where other than one tick is left, or where the tick does not count for the task
refused_tick : (pending : OpenWaits) (p : ℕ) (o : OpenWait) → pending (as_task 1) ≡ Some o → (o.left ≡ Some 1 → is_tick_for setup.timer o.assigned answer.Taken (event.Tick (as_proc p)) ≡ true → ⊥) →
    EndsOpenWait setup pending (times_out_on p) (of_task_1 code.TimedOut None) → ⊥
refused_tick pending p o is apart h =
    let x : Release = of_task_1 code.TimedOut None in
    let e : Event = event.Tick (as_proc p) in
    let same : h.0 ≡ o = same_Some h.0 o (sym h.1 ∙ is) in
    ⊎_elim (λ (served : IsServed h.0 e answer.Taken x). false≢true served.accepted)
    (⊎_elim (λ (broken : IsBrokenOff h.0 e answer.Taken x). false≢true broken.called)
    (λ (over : IsOver setup h.0 e answer.Taken x).
    apart (ap (λ (y : OpenWait). y.left) (sym same) ∙ over.last) (ap (λ (y : OpenWait). is_tick_for setup.timer y.assigned answer.Taken e) (sym same) ∙ over.counts))) h.2

-- what is left of this wait at first, and after one tick that counts
abbrev pub with_left : ℕ → OpenWait
with_left n = record { wait = wait.Semaphore (as_object 1); left = Some n; assigned = as_proc 1 }

-- a wait that may last for ever does not time out
never_over : EachReleaseFits setup nobody_waits (waits_for_semaphore ∷ times_out_on 1 ∷ []) → ⊥
never_over h =
    refused_tick (after_record setup nobody_waits waits_for_semaphore) 1 (record { wait = wait.Semaphore (as_object 1); left = None; assigned = as_proc 1 }) refl (λ last counts. none-some 1 last)
    (h.1.0.fit 0 (of_task_1 code.TimedOut None) (omega arith))

-- a wait with two ticks left does not time out at the first
too_early : EachReleaseFits setup nobody_waits (waits_a_tick ∷ times_out_on 1 ∷ []) → ⊥
too_early h =
    refused_tick (after_record setup nobody_waits waits_a_tick) 1 (with_left 2) refl (λ last counts. let two = same_Some 2 1 last in absurd (omega (arith, two)))
    (h.1.0.fit 0 (of_task_1 code.TimedOut None) (omega arith))

-- nor at the second of two of which one was on another processor
other_processor : EachReleaseFits setup nobody_waits (waits_a_tick ∷ tick_on 2 ∷ times_out_on 1 ∷ []) → ⊥
other_processor h =
    refused_tick (after_records setup nobody_waits (waits_a_tick ∷ tick_on 2 ∷ [])) 1 (with_left 2) refl (λ last counts. let two = same_Some 2 1 last in absurd (omega (arith, two)))
    (h.1.1.0.fit 0 (of_task_1 code.TimedOut None) (omega arith))

-- and it does not outlast the second
too_late : EachReleaseFits setup nobody_waits (waits_a_tick ∷ tick_on 1 ∷ tick_on 1 ∷ []) → ⊥
too_late h = h.1.1.0.in_time (as_task 1) (with_left 0) refl refl

-- Who is woken up is released.

abbrev pub sleeps : Record
sleeps = waiting (call.Task task.SlpTsk)

abbrev pub asleep : OpenWait
asleep = record { wait = wait.Sleep; left = None; assigned = as_proc 1 }

-- task 2 made this call, which was accepted and released nobody
abbrev pub accepted : Call → Record
accepted c = record_of 2 (event.Call (as_proc 2) c) (answer.Done code.Accepted None) []

-- a wakeup of a task that sleeps is not queued
sleeps_on : EachReleaseFits setup nobody_waits (sleeps ∷ accepted (call.Task (task.WupTsk (pos 1))) ∷ []) → ⊥
sleeps_on h = false≢true (h.1.0.called (as_task 1) asleep refl refl refl)

-- and a wait that is broken off does not last
not_broken_off : EachReleaseFits setup nobody_waits (waits_for_semaphore ∷ accepted (call.Task (task.RelWai (pos 1))) ∷ []) → ⊥
not_broken_off h = false≢true (h.1.0.called (as_task 1) (record { wait = wait.Semaphore (as_object 1); left = None; assigned = as_proc 1 }) refl refl refl)
