-- How the code of a call answers: with an effect, or with the code that refuses the call.
use Rattle.std.specs.Prelude.{Bool, true, false, Result, Ok, Err, Option, None, Some}
use Rattle.fmp_codes.specs.declared.codes.Code.{Code}
use Rattle.fmp_codes.specs.declared.codes.Code.TheVariants as code
use Rattle.fmp_rules.specs.Effects.{Effect}
use Rattle.fmp_rules.specs.Rows.{refused}

-- the effect of a call that may be refused
abbrev pub effect_of : Result Effect Code → Effect
effect_of (Ok e) = e
effect_of (Err c) = refused c

-- the outcome of one test for an error
abbrev pub refused_if : Bool → Code → Result (Unit {0}) Code
refused_if true c = Err c
refused_if false c = Ok tt

-- what an argument names, or the error of an ID that names nothing
abbrev pub known_or_error : {X : Type 0} → Option X → Result X Code
known_or_error None = Err code.Identifier
known_or_error (Some x) = Ok x
