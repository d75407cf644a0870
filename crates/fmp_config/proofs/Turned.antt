-- Reading token after token, as a loop does.
use Rattle.std.proofs.Common.{◌≡◌, List, [], ◌∷◌, Result, Ok, Err, sym, ◌∙◌, refl}
use Rattle.fmp_bytes.specs.Results.{◌>>=◌}
use Rattle.fmp_config_statements.specs.Lexing.{Lexeme}
use Rattle.fmp_config_statements.specs.declared.fault.ReadError.{ReadError}
use Rattle.fmp_config_statements.specs.declared.fault.ReadError.TheVariants as errors
use Rattle.fmp_config_statements.specs.Faults.{Fault}
use Rattle.fmp_config_statements.specs.Folds.{each}
use Rattle.fmp_config_statements.specs.Outcomes.{Stops}
use Rattle.fmp_config.specs.Reading.{State, take_token}

module _ (s : State) (t : Lexeme) (ts rest : List Lexeme) (total : Result State Fault) where
  pub reads_on : (next : State) → ts ≡ t ∷ rest → take_token s t ≡ Ok next → each take_token s ts ≡ total → each take_token next rest ≡ total
  unfolding each
  reads_on next e here so_far =
      let one : each take_token s ts ≡ each take_token next rest = rw (e, here) refl in
      sym one ∙ so_far

  pub stops : {Y : Type 0} (error : ReadError) (f : State → Result Y Fault) → ts ≡ t ∷ rest → Stops error (take_token s t) → each take_token s ts ≡ total → Stops error (total >>= f)
  unfolding each
  stops errors.Memory f e stop so_far = tt
  stops (errors.Fault fault) f e stop so_far =
      let one : each take_token s ts ≡ Err fault = rw (e, stop) refl in
      rw (sym so_far ∙ one) refl

pub is_read : (s : State) (ts : List Lexeme) (total : Result State Fault) → ts ≡ [] → each take_token s ts ≡ total → total ≡ Ok s
unfolding each
is_read s ts total e so_far = let one : each take_token s ts ≡ Ok s = rw e refl in sym so_far ∙ one
