-- Scripts: what the tasks and handlers of a function ask, one call after the other, and where they go on by the answers.
use Rattle.std.specs.Prelude.{◌≡◌, ℕ, ◌==◌, List, [], ◌∷◌, Option, None, Some, if◌then◌else◌, All}
use Rattle.fmp_calls.specs.Arguments.{CallInBits}
use Rattle.fmp_codes.specs.declared.calls.Call.{Call}
use Rattle.fmp_text_scripts.specs.declared.ways.Way.{Way}

-- the steps of the function of this number, and the ways between them
pub record Steps : Type 0 where
  pub function : ℕ
  pub steps : List Call
  pub ways : List Way

-- the script of a function, which has no steps where none is given
abbrev pub script_of : List Steps → ℕ → List Call
script_of [] f = []
script_of (s ∷ scripts) f = if s.function == f then s.steps else script_of scripts f

abbrev pub script_of_option : List Steps → Option ℕ → List Call
script_of_option scripts None = []
script_of_option scripts (Some f) = script_of scripts f

-- its ways
abbrev pub ways_of : List Steps → ℕ → List Way
ways_of [] f = []
ways_of (s ∷ scripts) f = if s.function == f then s.ways else ways_of scripts f

abbrev pub ways_of_option : List Steps → Option ℕ → List Way
ways_of_option scripts None = []
ways_of_option scripts (Some f) = ways_of scripts f

-- the arguments of each step are within the bits of their kinds
abbrev pub AreInBits : List Steps → Type 0
AreInBits scripts = All (λ s. All CallInBits s.steps) scripts

-- no script has a way: each goes straight on after each answer
abbrev pub AreStraight : List Steps → Type 0
AreStraight scripts = All (λ s. s.ways ≡ []) scripts
