-- What the laws refuse: records with which counts do not agree.
use Rattle.std.proofs.Common.{◌≡◌, ℕ, ◌≤◌, pos, true, false, Some, None, List, [], ◌∷◌, refl, arith}
use Rattle.std.proofs.lemmas.Option.{same_Some}
use Rattle.fmp_codes.specs.Numbers.{as_task, as_object}
use Rattle.fmp_codes.specs.declared.calls.Call.TheVariants as call
use Rattle.fmp_codes.specs.declared.calls.TaskCall.TheVariants as tasks
use Rattle.fmp_codes.specs.declared.codes.Code.TheVariants as code
use Rattle.fmp_codes.specs.declared.records.Record.{Record}
use Rattle.fmp_setup.specs.Setup.{Setup, of_tasks}
use Rattle.fmp_rules.specs.World.{task}
use Rattle.fmp_rules.specs.Ordering.{with_task}
use Rattle.fmp_rules.specs.Arrivals.{State, numbered}
use Rattle.fmp_rules.specs.Boot.{booted}
use Rattle.fmp_rules.proofs.Scenario.{a_task, both, ok, value, by_task, call_on, released}
use Rattle.fmp_law_records.specs.Counts.Lives.{ActivationBalance}
use Rattle.fmp_law_records.specs.Counts.Wakeups.{WakeupBalance, TakesWhatIsQueued}
use Rattle.fmp_law_records.specs.Counts.Waits.{ReleasesInTime}
use Rattle.fmp_law_records.specs.Counts.Alarms.{is_last}
use Rattle.fmp_law_records.specs.Counts.Due.{by_number, BecomeDue}
use Rattle.fmp_codes.specs.declared.numbers.Object.{Object}
use Rattle.fmp_codes.specs.declared.records.Runner.TheVariants as runner
use Rattle.fmp_setup.specs.declared.setup.AlarmSetup.{AlarmSetup}

abbrev one_starts : Setup
one_starts = of_tasks 1 (a_task (both 1) 10 true ∷ a_task (both 1) 10 false ∷ [])

-- the second task is active, and so many activations are queued
abbrev active_with : ℕ → State
active_with n = let m = booted one_starts in with_task m (as_task 2) (record (task m (as_task 2)) { active = true; activations = n })

abbrev activation : Record
activation = by_task 1 (call_on 1 (call.Task (tasks.ActTsk (pos 2)))) ok

abbrev termination : Record
termination = by_task 1 (call_on 1 (call.Task (tasks.TerTsk (pos 2)))) ok

-- it is terminated with one activation queued: it goes on, and may not rest
goes_on : ActivationBalance one_starts (activation ∷ activation ∷ termination ∷ []) (active_with 0) (as_task 2)
unfolding numbered
goes_on = refl

vanished : ActivationBalance one_starts (activation ∷ activation ∷ termination ∷ []) (booted one_starts) (as_task 2) → ⊥
unfolding numbered
vanished e = let h : 2 ≡ 1 = e in omega (arith, h)

-- one activation may not both start it and be queued
doubled : ActivationBalance one_starts (activation ∷ []) (active_with 1) (as_task 2) → ⊥
unfolding numbered
doubled e = let h : 1 ≡ 2 = e in omega (arith, h)

-- what is taken back is what was queued
answered_none : ActivationBalance one_starts (activation ∷ activation ∷ by_task 1 (call_on 1 (call.Task (tasks.CanAct (pos 2)))) (value (pos 0)) ∷ []) (active_with 0) (as_task 2) → ⊥
unfolding numbered
answered_none e = let h : 2 ≡ 1 = e in omega (arith, h)

-- a wakeup of a task that does not sleep is queued
abbrev wakeup : Record
wakeup = by_task 2 (call_on 1 (call.Task (tasks.WupTsk (pos 1)))) ok

wakeup_lost : WakeupBalance (wakeup ∷ []) (booted one_starts) (as_task 1) → ⊥
unfolding numbered
wakeup_lost h = let e : 0 ≡ 1 = h refl in omega (arith, e)

-- and one that releases its task is not
wakeup_released : WakeupBalance (record wakeup { releases = released 1 code.Accepted None ∷ [] } ∷ []) (booted one_starts) (as_task 1)
unfolding numbered
wakeup_released e = refl

-- no task takes a wakeup where none is queued, and a cancellation answers how many were
taken_from_none : TakesWhatIsQueued (as_task 1) 0 (by_task 1 (call_on 1 (call.Task tasks.SlpTsk)) ok) → ⊥
taken_from_none h = let least : 1 ≤ 0 = h.taken refl in omega (arith, least)

cancelled_wrongly : TakesWhatIsQueued (as_task 1) 2 (by_task 1 (call_on 1 (call.Task (tasks.CanWup (pos 0)))) (value (pos 1))) → ⊥
cancelled_wrongly h = let e : Some (pos 1) ≡ Some (pos 2) = h.cancelled refl in absurd (cc)

-- a wait of which two ticks are left does not end at a tick, and one of which one tick is left does
ended_early : ReleasesInTime (as_task 1) (Some 2) true (released 1 code.TimedOut None ∷ []) → ⊥
ended_early h = let e : 2 ≡ 1 = same_Some 2 1 (h.0 refl).0 in omega (arith, e)

ended_late : ReleasesInTime (as_task 1) (Some 1) true [] → ⊥
ended_late h = let e : false ≡ true = h.1 (refl, refl) in absurd (cc)

-- a tick that does not count for the task does not end its wait
ended_elsewhere : ReleasesInTime (as_task 1) (Some 1) false (released 1 code.TimedOut None ∷ []) → ⊥
ended_elsewhere h = let e : false ≡ true = (h.0 refl).1 in absurd (cc)

-- An alarm of which two ticks are left does not become due at a tick, one of which one is left does, and before a cyclic handler.

abbrev an_alarm : AlarmSetup
an_alarm = record { class = both 1; handler = 1 }

abbrev with_left : ℕ → List Object
with_left n = by_number (an_alarm ∷ []) (λ a. is_last (Some n))

rings : BecomeDue [] (runner.Alarm (as_object 1) ∷ []) (with_left 1) []
rings = refl

rung_early : BecomeDue [] (runner.Alarm (as_object 1) ∷ []) (with_left 2) [] → ⊥
rung_early e = absurd (cc)

rung_late : BecomeDue [] [] (with_left 1) [] → ⊥
rung_late e = absurd (cc)

cyclic_first : BecomeDue [] (runner.Cyclic (as_object 1) ∷ runner.Alarm (as_object 1) ∷ []) (with_left 1) (as_object 1 ∷ []) → ⊥
cyclic_first e = absurd (cc)
