-- When the time of a task's wait is over.
use Rattle.std.specs.Prelude.{◌≡◌, ◌↔◌, ℕ, ◌+◌, pos, Bool, true, false, Option, None, Some, List, [], ◌∷◌, All}
use Rattle.fmp_codes.specs.declared.numbers.Proc.{Proc}
use Rattle.fmp_codes.specs.declared.numbers.Task.{Task}
use Rattle.fmp_codes.specs.declared.records.Answer.TheVariants as answer
use Rattle.fmp_codes.specs.declared.records.Event.{Event}
use Rattle.fmp_codes.specs.declared.records.Event.TheVariants as event
use Rattle.fmp_codes.specs.declared.records.Record.{Record}
use Rattle.fmp_codes.specs.declared.records.Release.{Release}
use Rattle.fmp_setup.specs.Setup.{Setup, counts_for}
use Rattle.fmp_rules.specs.World.{task}
use Rattle.fmp_rules.specs.Arrivals.{State, numbered}
use Rattle.fmp_rules.specs.Step.{step, replay, answers}
use Rattle.fmp_rules.specs.Boot.{booted}
use Rattle.fmp_law_balance.specs.Accepted.{one_if}
use Rattle.fmp_law_balance.specs.Waits.Meanings.{ticks_in}
use Rattle.fmp_law_balance.specs.Waits.Waits.{begins, ends, is_released, is_tick_for, nobody_waits, after_records}
use Rattle.fmp_law_balance.specs.Waits.Laws.{left_of}

-- where so much is left of the wait of t, a tick releases t just where this is one tick, and the tick counts for t
abbrev pub ReleasesInTime : Task → Option ℕ → Bool → List Release → Type 0
ReleasesInTime t left counts releases = (is_released t releases ≡ true) ↔ ((left ≡ Some 1) × (counts ≡ true))

-- a tick that is taken on p after these events releases t just where the records leave one tick and this one counts for t
abbrev pub EndsInTime : Setup → List Event → Proc → Task → Type 0
EndsInTime c events p t =
    let m = replay numbered (booted c) events in
    let tick = (step numbered m (event.Tick p)).1 in
    let left = left_of (after_records c nobody_waits (answers numbered (booted c) events) t) in
    tick.answer ≡ answer.Taken → ReleasesInTime t left (counts_for m.timer p (task m t).assigned) tick.releases

-- how many of the ticks among these events count for t
abbrev pub ticks_for : Task → State → List Event → ℕ
ticks_for t m [] = 0
ticks_for t m (e ∷ es) =
    let next = step numbered m e in one_if (is_tick_for m.timer (task m t).assigned next.1.answer next.1.event) + ticks_for t next.0 es

-- no record begins or ends a wait of t
abbrev pub GoesOn : Task → List Record → Type 0
GoesOn t records = All (λ r. (begins t r ≡ None) × (ends t r ≡ false)) records

-- Where t began to wait for n ticks by e, after earlier events, and that wait goes on through later ones, a tick that is taken
-- then and counts for t releases it just where n ticks counted for it before: the last one is its tick n + 1.
abbrev pub EndsAtLastTick : Setup → List Event → Event → List Event → Proc → Task → ℕ → Type 0
EndsAtLastTick c earlier e later p t n =
    let begun = step numbered (replay numbered (booted c) earlier) e in
    let now = replay numbered begun.0 later in
    let tick = (step numbered now (event.Tick p)).1 in
    left_of (begins t begun.1) ≡ ticks_in (pos n) → GoesOn t (answers numbered begun.0 later) →
    tick.answer ≡ answer.Taken → counts_for now.timer p (task now t).assigned ≡ true →
    (is_released t tick.releases ≡ true) ↔ (ticks_for t begun.0 later ≡ n)
