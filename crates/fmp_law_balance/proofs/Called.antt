-- A call is refused, or does what its row says.
use Rattle.std.proofs.Common.{◌≡◌, Bool, true, false, not, List, [], ◌∷◌, refl, subst, Option, Some, None}
use Rattle.std.specs.Prelude.{if◌then◌else◌}
use Rattle.std.proofs.lemmas.Bool.{false≢true}
use Rattle.std.proofs.lemmas.Option.{none-some, same_Some}
use Rattle.fmp_codes.specs.declared.numbers.Proc.{Proc}
use Rattle.fmp_codes.specs.declared.codes.Code.{Code}
use Rattle.fmp_codes.specs.declared.codes.Code.TheVariants as code
use Rattle.fmp_codes.specs.declared.records.Answer.TheVariants as answer
use Rattle.fmp_rules.specs.Effects.{Effect}
use Rattle.fmp_rules.specs.World.{World}
use Rattle.fmp_rules.specs.Rows.{Row, is_refused_context, first_error, check, called, called_by, refused}
use Rattle.fmp_law_safety.proofs.Calls.{Accepts, accepts}
use Rattle.fmp_law_balance.specs.Accepted.{is_accepted}

-- the code is not that of an accepted call
abbrev pub refuses : Code → Bool
refuses c = not (is_accepted (answer.Done c None))

-- a call with this code is not accepted
pub not_accepted : (c : Code) → refuses c ≡ true → is_accepted (refused c).answer ≡ false
not_accepted code.Accepted e = absurd (false≢true e)
not_accepted _ e = refl

-- each of these codes refuses
abbrev pub AllRefuse : List (Bool × Code) → Type 0
AllRefuse [] = Unit {0}
AllRefuse (e ∷ es) = (refuses e.1 ≡ true) × AllRefuse es

refused_code : (b : Bool) (x c : Code) (o : Option Code) → refuses x ≡ true → (o ≡ Some c → refuses c ≡ true) → (if b then Some x else o) ≡ Some c → refuses c ≡ true
refused_code true x c o r others e = subst (λ y. refuses y ≡ true) (same_Some x c e) r
refused_code false x c o r others e = others e

error_refuses : (es : List (Bool × Code)) (c : Code) → AllRefuse es → first_error es ≡ Some c → refuses c ≡ true
error_refuses [] c r e = absurd (none-some c e)
error_refuses (x ∷ es) c r e = refused_code x.0 x.1 c (first_error es) r.0 (error_refuses es c r.1) e

module _ {Q : Type 0} (w : World Q) (p : Proc) (P : World Q × Effect → Type 0) (row : Row Q) where
  -- what holds of a refused call and of its effect holds of the call
  pub by_called : AllRefuse row.errors → ((c : Code) → refuses c ≡ true → P (w, refused c)) → (Accepts w p row → P row.effect) → P (called w p row)
  by_called codes refusal accepted = go (check w p row) refl
    where
      go : (o : Option Code) → check w p row ≡ o → P (called_by w row.effect o)
      go None e = accepted (accepts w p row e)
      go (Some c) e =
          refusal c
          (error_refuses ((is_refused_context w p row.rule, code.Context) ∷ (not row.known, code.Identifier) ∷ (not row.proper, code.Parameter) ∷ row.errors) c
          (refl, (refl, (refl, codes))) e)

  -- the same where it does not matter with which code
  pub either_way : ((c : Code) → P (w, refused c)) → P row.effect → P (called w p row)
  either_way refusal accepted = go (check w p row)
    where
      go : (o : Option Code) → P (called_by w row.effect o)
      go None = accepted
      go (Some c) = refusal c
