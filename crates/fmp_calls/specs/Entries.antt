-- believed: see docs/PROOF.md, "What has to be believed"
-- What stands in the table of the calls: how a call is written, and what it is made of.
use Rattle.std.specs.Prelude.{ℕ, ◌+◌, ℤ, pos, Bool, false, List, [], ◌∷◌, get_or}
use Rattle.fmp_codes.specs.declared.calls.Mode.{Mode}
use Rattle.fmp_codes.specs.declared.kinds.ArgumentKind.{ArgumentKind}
use Rattle.fmp_codes.specs.declared.kinds.ArgumentKind.TheVariants as kinds
use Rattle.fmp_codes.specs.declared.kinds.Value.{Value}
use Rattle.fmp_codes.specs.declared.kinds.Value.TheVariants as values
use Rattle.fmp_codes.specs.Kinds.{number_in, pattern_in, data_in, mode_in}

-- ---- arguments

-- an argument of a kind, as a call has it
abbrev pub ArgumentOf : ArgumentKind → Type 0
ArgumentOf kinds.Pattern = ℕ
ArgumentOf kinds.Data = ℤ
ArgumentOf kinds.Mode = Mode
ArgumentOf _ = ℤ

-- the value of an argument
abbrev pub value_of : (kind : ArgumentKind) → ArgumentOf kind → Value
value_of kinds.Pattern bits = values.Pattern bits
value_of kinds.Data value = values.Data value
value_of kinds.Mode mode = values.Mode mode
value_of _ number = values.Number number

-- the argument that a value is, where it is one of the kind
abbrev pub argument_in : (kind : ArgumentKind) → Value → ArgumentOf kind
argument_in kinds.Pattern value = pattern_in value
argument_in kinds.Data value = data_in value
argument_in kinds.Mode value = mode_in value
argument_in _ value = number_in value

-- arguments of these kinds, from left to right
abbrev pub Arguments : List ArgumentKind → Type 0
Arguments [] = Unit {0}
Arguments (kind ∷ kinds) = ArgumentOf kind × Arguments kinds

-- their values
abbrev pub values_in : (kinds : List ArgumentKind) → Arguments kinds → List Value
values_in [] arguments = []
values_in (kind ∷ kinds) arguments = value_of kind arguments.0 ∷ values_in kinds arguments.1

-- the value at a place, counted from 0
abbrev pub value_at : List Value → ℕ → Value
value_at list place = get_or list place (values.Number (pos 0))

-- the arguments that the values from a place on are
abbrev pub arguments_from : (kinds : List ArgumentKind) → ℕ → List Value → Arguments kinds
arguments_from [] place list = tt
arguments_from (kind ∷ kinds) place list = (argument_in kind (value_at list place), arguments_from kinds (place + 1) list)

-- ---- lines

-- a function from such arguments
abbrev pub Maker : Type 0 → List ArgumentKind → Type 0
Maker C [] = C
Maker C (kind ∷ kinds) = ArgumentOf kind → Maker C kinds

-- what it makes of them
abbrev pub made : {C : Type 0} (kinds : List ArgumentKind) → Maker C kinds → Arguments kinds → C
made [] call arguments = call
made (kind ∷ kinds) make arguments = made kinds (make arguments.0) arguments.1

-- the line of a call in the table of its family C
pub record Line (C : Type 0) : Type 0 where
  pub text : List ℕ  -- the name as it is written
  pub bare : Bool  -- it is written without parentheses
  pub kinds : List ArgumentKind  -- the kinds of the arguments
  pub values : List Value  -- the arguments
  pub make : List Value → C  -- the call of this name with other arguments

abbrev pub line : {C : Type 0} → List ℕ → (kinds : List ArgumentKind) → Maker C kinds → Arguments kinds → Line C
line text kinds maker arguments = record {
  text = text;
  bare = false;
  kinds = kinds;
  values = values_in kinds arguments;
  make = λ list. made kinds maker (arguments_from kinds 0 list);
}
