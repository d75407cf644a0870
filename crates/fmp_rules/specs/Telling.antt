-- How a record tells an effect, and the parts of which the code makes one.
use Rattle.std.specs.Prelude.{ℤ, Bool, Option, None, Some, List, [], ◌∷◌, ◌++◌, if◌then◌else◌}
use Rattle.fmp_codes.specs.declared.numbers.Task.{Task}
use Rattle.fmp_codes.specs.declared.codes.Code.{Code}
use Rattle.fmp_codes.specs.declared.records.Answer.{Answer}
use Rattle.fmp_codes.specs.declared.records.Answer.TheVariants as answer
use Rattle.fmp_codes.specs.declared.records.Release.{Release}
use Rattle.fmp_codes.specs.declared.records.Record.{Record}
use Rattle.fmp_rules.specs.Effects.{Effect}
use Rattle.fmp_rules.specs.declared.effect.Kind.{Kind}
use Rattle.fmp_rules.specs.declared.effect.Kind.TheVariants as kind

-- the effect that a record tells
abbrev pub effect_reported : Record → Effect
effect_reported r = record { answer = r.answer; releases = r.releases; lost = r.lost }

-- a record that tells an effect after the releases that it told before
abbrev pub report_with : Record → Effect → Record
report_with r e = record r { answer = e.answer; releases = r.releases ++ e.releases; lost = e.lost }

-- a value where it is marked that there is one
abbrev pub given : Bool → ℤ → Option ℤ
given is_given value = if is_given then Some value else None

-- the answer of a kind. Only a call that returned has a code and perhaps a value
abbrev pub answer_of : Kind → Code → Option ℤ → Answer
answer_of kind.Done code value = answer.Done code value
answer_of kind.Wait code value = answer.Wait
answer_of kind.Spin code value = answer.Spin
answer_of kind.Gone code value = answer.Gone
answer_of kind.Idle code value = answer.Idle
answer_of kind.Held code value = answer.Held
answer_of kind.Taken code value = answer.Taken
answer_of kind.Nothing code value = answer.Nothing

-- the release of a task, where one ended its wait
abbrev pub ended : Option Task → Code → Option ℤ → List Release
ended None code value = []
ended (Some t) code value = record { task = t; code = code; value = value } ∷ []
