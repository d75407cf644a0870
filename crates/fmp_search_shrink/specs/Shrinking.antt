-- Lists of events that show what a question asks, and what is left of one where no event can go.
use Rattle.std.specs.Prelude.{◌≡◌, ◌<◌, ℕ, ◌+◌, Bool, true, false, Option, None, Some, List, ◌++◌, length, take, drop}
use Rattle.std.specs.Bool.{OnTrue}
use Rattle.std.specs.Global.{Vec}
use Rattle.fmp_codes.specs.declared.records.Event.{Event}
use Rattle.fmp_setup.specs.Setup.{Setup}
use Rattle.fmp_rules.specs.Arrivals.{numbered}
use Rattle.fmp_rules.specs.Boot.{booted}
use Rattle.fmp_rules.specs.Step.{answers}
use Rattle.fmp_search_pattern.specs.declared.question.Step.{Step}
use Rattle.fmp_search_orders.specs.declared.rules.Rules.{Rules}
use Rattle.fmp_search_orders.specs.Shown.{Shows}
use Rattle.fmp_search_shrink.specs.Runners.{AreKept, IsPartOf, KeepsRuns, made_in}
use Rattle.fmp_search_shrink.specs.declared.keeping.Keeping.{Keeping}
use Rattle.fmp_search_shrink.specs.declared.keeping.Keeping.TheVariants as keeping

-- events come as they are given: ticks may be of any number
abbrev pub as_given : Rules
as_given = record { ticks = None; prompt = false; drift = None; pace = None; spurious = false }

-- what the machine answers to the events shows what the question asks
abbrev pub AnswersShow : Setup → List Step → List Event → Type 0
AnswersShow c question es = Shows c as_given question (answers numbered (booted c) es)

-- the list without its events from one place up to another
abbrev pub without : List Event → ℕ → ℕ → List Event
without es from to = take from es ++ drop to es

-- Where runs are kept, each runner makes only calls that it makes where the whole list is given, in the order in which it makes them there.
abbrev pub Keeps : Setup → Bool → List Event → List Event → Type 0
Keeps c runs whole es = OnTrue runs (KeepsRuns c whole es)

-- There is no event without which a list still shows it, and keeps what has to be kept.
abbrev pub NoneCanGo : Setup → List Step → (List Event → Type 0) → List Event → Type 0
NoneCanGo c question Kept es = (i : ℕ) → i < length es → AnswersShow c question (without es i (i + 1)) → Kept (without es i (i + 1)) → ⊥

-- a part of the list that shows it, where runs are to be kept with those of the whole list, and of which no event can go
pub record IsShrunk (c : Setup) (question : List Step) (runs : Bool) (whole es : List Event) : Type 0 where
  pub part : IsPartOf es whole
  pub shows : AnswersShow c question es
  pub kept : Keeps c runs whole es
  pub none : NoneCanGo c question (Keeps c runs whole) es

-- what is made of a list: nothing, where its answers do not show it
abbrev pub Shrinks : Setup → List Step → Bool → List Event → Option (Vec Event) → Type 0
Shrinks c question runs whole None = AnswersShow c question whole → ⊥
Shrinks c question runs whole (Some es) = IsShrunk c question runs whole es.items

-- what is kept in mind of the whole list: who makes which call, where runs are to be kept
abbrev pub IsKeeping : Setup → Bool → List Event → Keeping → Type 0
IsKeeping c runs whole keeping.Nothing = runs ≡ false
IsKeeping c runs whole (keeping.Runs given) = (runs ≡ true) × (given.items ≡ made_in (answers numbered (booted c) whole))

-- the events keep to it
abbrev pub KeepsTo : Setup → Keeping → List Event → Type 0
KeepsTo c keeping.Nothing es = Unit {0}
KeepsTo c (keeping.Runs given) es = AreKept (made_in (answers numbered (booted c) es)) given.items

-- a part of the list that shows it, and keeps to what has to be kept
abbrev pub IsLeft : Setup → List Step → Keeping → List Event → List Event → Type 0
IsLeft c question k whole es = IsPartOf es whole × AnswersShow c question es × KeepsTo c k es
