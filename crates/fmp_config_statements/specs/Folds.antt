-- One after the other, up to the first fault.
use Rattle.std.specs.Prelude.{List, [], ◌∷◌, Result, Ok}
use Rattle.fmp_bytes.specs.Results.{◌>>=◌}
use Rattle.fmp_config_statements.specs.Faults.{Fault}

-- each in turn
unfoldable pub each : {S A : Type 0} → (S → A → Result S Fault) → S → List A → Result S Fault
each step s [] = Ok s
each step s (x ∷ xs) = step s x >>= λ next. each step next xs
