-- Which answer a number is.
use Rattle.std.proofs.Common.{◌≡◌, ◌∙◌, ℕ, ◌==◌, ℤ, refl, sym, ap}
use Rattle.std.proofs.lemmas.Bool.{false≢true}
use Rattle.std.specs.Prelude.{Option, None, Some, Result, Ok, Err, is_some, unsigned_abs, if◌then◌else◌}
use Rattle.fmp_session.specs.Refusals.{number_of}
use Rattle.fmp_session.specs.declared.refused.Refused.{Refused}
use Rattle.fmp_session.specs.declared.refused.Refused.TheVariants as refused
use Rattle.fmp_c.specs.Machines.{outcome}

abbrev numbered : ℕ → Option Refused
numbered n =
    if n == 1 then Some refused.Memory
    else (if n == 2 then Some refused.Text
    else (if n == 3 then Some refused.NoMachine
    else (if n == 4 then Some refused.Processor
    else (if n == 5 then Some refused.Call
    else (if n == 6 then Some refused.Argument
    else (if n == 7 then Some refused.Line
    else (if n == 8 then Some refused.Full
    else (if n == 9 then Some refused.Room
    else (if n == 10 then Some refused.Nothing
    else (if n == 11 then Some refused.Different else None))))))))))

abbrev refusal : ℤ → Option Refused
refusal answer = numbered (unsigned_abs answer)

refusal_is : (why : Refused) → refusal (number_of why) ≡ Some why
refusal_is refused.Memory = refl
refusal_is refused.Text = refl
refusal_is refused.NoMachine = refl
refusal_is refused.Processor = refl
refusal_is refused.Call = refl
refusal_is refused.Argument = refl
refusal_is refused.Line = refl
refusal_is refused.Full = refl
refusal_is refused.Room = refl
refusal_is refused.Nothing = refl
refusal_is refused.Different = refl

abbrev given : Refused → Option Refused → Refused
given why None = why
given why (Some other) = other

-- no two refusals have one number, and none has 0
pub outcome_is : {X : Type 0} (r : Result X Refused) (why : Refused) → outcome r ≡ number_of why → r ≡ Err why
outcome_is (Ok x) why e = absurd (false≢true (ap is_some (ap refusal e ∙ refusal_is why)))
outcome_is (Err other) why e = ap Err (ap (given why) (sym (refusal_is other) ∙ ap refusal e ∙ refusal_is why))
