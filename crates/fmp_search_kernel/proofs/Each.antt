-- A test of the processors one after the other.
use Rattle.std.proofs.Common.{◌≡◌, ℕ, zero, suc, ◌+◌, ◌<◌, Bool, false, ◌&&◌, sym, ap, ◌∙◌, arith, ⊎_elim}
use Rattle.std.proofs.lemmas.Bool.{cases_eq, and_right}
use Rattle.std.proofs.Math.Numerals.{suc-eq-add-one}
use Rattle.fmp_codes.specs.Numbers.{as_proc}
use Rattle.fmp_codes.specs.declared.numbers.Proc.{Proc}
use Rattle.fmp_search_orders.specs.Orders.{each}

-- one that does not pass is among them
pub each_not : (t : Proc → Bool) (n : ℕ) (p : Proc) → p ≡ as_proc (n + 1) → t p ≡ false → (m : ℕ) → n < m → each t m ≡ false
each_not t n p e none zero h = absurd (omega (arith, h))
each_not t n p e none (suc m) h =
    ⊎_elim (λ (f : n ≡ m). and_right (each t m) (t (as_proc (suc m))) (ap t (ap as_proc (ap suc (sym f) ∙ suc-eq-add-one n) ∙ sym e) ∙ none))
    (λ (f : n ≡ m → ⊥). ap (λ (b : Bool). b && t (as_proc (suc m))) (each_not t n p e none m (omega (arith, f, h))))
    (cases_eq n m)
