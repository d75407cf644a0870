-- Which records are told apart by their printed lines: what they name is in the names, and their numbers are within their bits.
use Rattle.std.specs.Prelude.{◌≡◌, ℕ, ◌≤◌, List, [], ◌∷◌, length, Option, None, Some}
use Rattle.fmp_codes.specs.Records.{processor_of, ValueFits, AnswerFits, Ascend}
use Rattle.fmp_codes.specs.declared.numbers.Task.{Task}
use Rattle.fmp_codes.specs.declared.records.Runner.{Runner}
use Rattle.fmp_codes.specs.declared.records.Runner.TheVariants as runners
use Rattle.fmp_codes.specs.declared.records.Release.{Release}
use Rattle.fmp_codes.specs.declared.records.Record.{Record}
use Rattle.fmp_calls.specs.Arguments.{EventInBits}
use Rattle.fmp_codes.specs.declared.kinds.NameKind.TheVariants as names
use Rattle.fmp_codes.specs.declared.kinds.ObjectKind.{ObjectKind}
use Rattle.fmp_codes.specs.declared.kinds.ObjectKind.TheVariants as objects
use Rattle.fmp_names.specs.Names.{NameLists, name_of}

-- an object of this kind has the number
abbrev pub IsNamed : NameLists → ObjectKind → ℕ → Type 0
IsNamed lists kind n = (name : List ℕ) × (name_of lists (names.Object kind) n ≡ Some name)

abbrev pub RunnerFits : NameLists → Option Runner → Type 0
RunnerFits lists None = Unit {0}
RunnerFits lists (Some (runners.Task t)) = IsNamed lists objects.Task t.number
RunnerFits lists (Some (runners.Alarm a)) = IsNamed lists objects.Alarm a.number
RunnerFits lists (Some (runners.Cyclic c)) = IsNamed lists objects.Cyclic c.number

abbrev pub ReleasesFit : NameLists → List Release → Type 0
ReleasesFit lists [] = Unit {0}
ReleasesFit lists (r ∷ rs) = IsNamed lists objects.Task r.task.number × ValueFits r.value × ReleasesFit lists rs

abbrev pub RunningFits : NameLists → Option Task → Type 0
RunningFits lists None = Unit {0}
RunningFits lists (Some t) = IsNamed lists objects.Task t.number

abbrev pub RunChangeFits : NameLists → Option (Option Task) → Type 0
RunChangeFits lists None = Unit {0}
RunChangeFits lists (Some running) = RunningFits lists running

pub record FitsNames (lists : NameLists) (r : Record) : Type 0 where
  pub processor : (processor_of r.event).number ≤ lists.processors
  pub event : EventInBits r.event
  pub runner : RunnerFits lists r.runner
  pub answer : AnswerFits r.answer
  pub releases : ReleasesFit lists r.releases
  pub few : length r.releases ≤ 64
  pub lost : ValueFits r.lost
  pub run_change : RunChangeFits lists r.run_change
  pub requests : Ascend lists.processors 0 r.requests

abbrev pub AllFit : NameLists → List Record → Type 0
AllFit lists [] = Unit {0}
AllFit lists (r ∷ rs) = FitsNames lists r × AllFit lists rs
