-- The first of some errors that applies, and what a row answers whose errors are told.
use Rattle.std.proofs.Common.{◌≡◌, ℤ, Bool, true, false, not, [], ◌∷◌, refl, sym, ap, ◌∙◌, subst, Option, Some, None}
use Rattle.std.specs.Prelude.{if◌then◌else◌, find, option_map}
use Rattle.std.proofs.lemmas.Bool.{cond_both, not-false}
use Rattle.fmp_codes.specs.declared.codes.Code.{Code}
use Rattle.fmp_codes.specs.declared.records.Answer.{Answer}
use Rattle.fmp_rules.specs.Effects.{Effect}
use Rattle.fmp_rules.specs.World.{World}
use Rattle.fmp_rules.specs.Rows.{first_error, called_by}
use Rattle.fmp_law_balance.specs.Accepted.{accepted_value}
use Rattle.fmp_law_records.specs.Refusals.Errors.{Errors}
use Rattle.fmp_law_records.specs.Refusals.Refusals.{first_of}
use Rattle.fmp_law_records.specs.Refusals.Outcomes.{refused_or}

abbrev pub first_in : Errors → Option Code
first_in [] = None
first_in (e ∷ es) = if e.0 then Some e.1 else first_in es

pub first_same : (es : Errors) → first_of es ≡ first_in es
first_same [] = refl
first_same (e ∷ es) =
    elim e.0 as (λ b. option_map (λ (x : Bool × Code). x.1) (if b then Some e else find (λ (x : Bool × Code). x.0) es) ≡ (if b then Some e.1 else first_in es))
    [ true ↦ refl | false ↦ first_same es ]

-- The errors of a row agree with those that are told: one by one they have the same codes, and each test is told if none before it passes. Where none
-- passes, what the row answers is told, by the errors that are left or by this answer.
pub data Agree (does told : Answer) : Errors → Errors → Type 0 where
  past : {rs : Errors} → does ≡ refused_or (first_in rs) told → Agree does told [] rs
  next : {b d : Bool} {z : Code} {es rs : Errors} → b ≡ d → (b ≡ false → Agree does told es rs) → Agree does told ((b, z) ∷ es) ((d, z) ∷ rs)

-- an error that never applies; and one that applies where something is not so
pub never : {does told : Answer} {z : Code} {es rs : Errors} → Agree does told es rs → Agree does told ((false, z) ∷ es) ((false, z) ∷ rs)
never h = next refl (λ _. h)

pub unless : {does told : Answer} {b d : Bool} {z : Code} {es rs : Errors} → b ≡ d → (b ≡ true → Agree does told es rs) →
    Agree does told ((not b, z) ∷ es) ((not d, z) ∷ rs)
unless {b = b} same later = next (ap not same) (λ off. later (not-false b off))

module _ {Q : Type 0} (w : World Q) (did : World Q × Effect) (f : Option ℤ → Answer) where
  abbrev answer_by : Option Code → Answer
  answer_by o = (called_by w did o).1.answer

  -- A row whose errors agree answers what is told. This may go by the value that is answered.
  pub answered : {es rs : Errors} → Agree did.1.answer (f (accepted_value did.1.answer)) es rs →
      answer_by (first_error es) ≡ refused_or (first_in rs) (f (accepted_value (answer_by (first_error es))))
  answered (past same) = same
  answered (next {b = b} {z = z} {es = es} {rs = rs} same later) =
      let Told : Bool → Option Code → Type 0 = λ d o. answer_by o ≡ refused_or (if d then Some z else first_in rs) (f (accepted_value (answer_by o))) in
      subst (λ d. Told d (if b then Some z else first_error es)) same
      (cond_both b (Some z) (first_error es) (Told b)
      (λ yes_. sym (ap (λ d. refused_or (if d then Some z else first_in rs) (f (accepted_value (answer_by (Some z))))) yes_))
      (λ no_. answered (later no_) ∙ sym (ap (λ d. refused_or (if d then Some z else first_in rs) (f (accepted_value (answer_by (first_error es))))) no_)))
