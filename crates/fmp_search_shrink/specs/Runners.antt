-- Who makes which call in the answers to events, and whether each runner makes its calls in an order that was given.
use Rattle.std.specs.Prelude.{◌≡◌, ◌⊎◌, ◌==◌, if◌then◌else◌, ℕ, ◌+◌, ◌-◌, nat_lt, Bool, false, Option, Some, List, [], ◌∷◌, ◌++◌}
use Rattle.fmp_codes.specs.Numbers.{as_object, as_task}
use Rattle.fmp_codes.specs.declared.calls.Call.{Call}
use Rattle.fmp_codes.specs.declared.records.Event.{Event}
use Rattle.fmp_codes.specs.declared.records.Event.TheVariants as events
use Rattle.fmp_codes.specs.declared.records.Record.{Record}
use Rattle.fmp_codes.specs.declared.records.Runner.{Runner}
use Rattle.fmp_codes.specs.declared.records.Runner.TheVariants as runners
use Rattle.fmp_setup.specs.Setup.{Setup}
use Rattle.fmp_rules.specs.Arrivals.{numbered}
use Rattle.fmp_rules.specs.Boot.{booted}
use Rattle.fmp_rules.specs.Step.{answers}
use Rattle.fmp_search_shrink.specs.declared.made.Made.{Made}

-- these items are in the list, in its order
abbrev pub IsPartOf : {X : Type 0} → List X → List X → Type 0
IsPartOf [] whole = Unit {0}
IsPartOf (x ∷ xs) [] = ⊥
IsPartOf (x ∷ xs) (y ∷ whole) = ((x ≡ y) × IsPartOf xs whole) ⊎ IsPartOf (x ∷ xs) whole

-- the two are the same task or handler
abbrev pub is_same : Runner → Runner → Bool
is_same (runners.Task t) (runners.Task u) = t.number == u.number
is_same (runners.Alarm a) (runners.Alarm b) = a.number == b.number
is_same (runners.Cyclic a) (runners.Cyclic b) = a.number == b.number
is_same _ _ = false

-- the call of an event, where somebody runs on its processor who makes it
abbrev pub made_by : Option Runner → Event → List Made
made_by (Some runner) (events.Call p call) = record { runner = runner; call = call } ∷ []
made_by _ _ = []

-- the calls that records tell, with who makes them
abbrev pub made_in : List Record → List Made
made_in [] = []
made_in (r ∷ rs) = made_by r.runner r.event ++ made_in rs

-- those of one runner
abbrev pub calls_by : Runner → List Made → List Call
calls_by runner [] = []
calls_by runner (m ∷ made) = if is_same runner m.runner then m.call ∷ calls_by runner made else calls_by runner made

-- the calls that a runner makes, as records tell them
abbrev pub calls_of : Runner → List Record → List Call
calls_of runner records = calls_by runner (made_in records)

-- each runner's calls in the one list are among its calls in the other, in their order
abbrev pub AreKept : List Made → List Made → Type 0
AreKept made given = (runner : Runner) → IsPartOf (calls_by runner made) (calls_by runner given)

-- In the answers to the events each runner makes only calls that it makes in the answers to the whole list, in the order in which it makes
-- them there.
abbrev pub KeepsRuns : Setup → List Event → List Event → Type 0
KeepsRuns c whole es = (runner : Runner) → IsPartOf (calls_of runner (answers numbered (booted c) es)) (calls_of runner (answers numbered (booted c) whole))

-- the runners, numbered from 0: tasks, alarms and cyclic handlers
abbrev pub runner_at : ℕ → Runner
runner_at n =
    if nat_lt n 64 then runners.Task (as_task (n + 1))
    else (if nat_lt n 96 then runners.Alarm (as_object (n - 63)) else runners.Cyclic (as_object (n - 95)))
