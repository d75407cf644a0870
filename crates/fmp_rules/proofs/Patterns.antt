-- What is not met at a pattern is not met with fewer bits, and not with none.
use Rattle.std.proofs.Common.{◌≡◌, ℕ, false, refl, sym, ap, ◌∙◌, subst, arith}
use Rattle.std.specs.Prelude.{bit_and}
use Rattle.std.specs.Int.Bits.{and_self, and_zero_l, and_zero_r}
use Rattle.std.proofs.lemmas.Bool.{both_ways, false_from_ne_true, eq-eqb, eqb-true, ltb-false}
use Rattle.std.proofs.lemmas.Nat.{and_assoc, and_comm}
use Rattle.fmp_codes.specs.declared.calls.Mode.{Mode}
use Rattle.fmp_codes.specs.declared.calls.Mode.TheVariants as mode
use Rattle.fmp_rules.specs.Objects.{holds}

met_with_more : (x y pattern : ℕ) → bit_and (bit_and x y) pattern ≡ pattern → bit_and x pattern ≡ pattern
met_with_more x y pattern e =
    ap (bit_and x) (sym e) ∙ ap (bit_and x) (and_assoc pattern x y) ∙ sym (and_assoc (bit_and y pattern) x x) ∙ ap (λ z. bit_and z (bit_and y pattern)) (and_self x)
    ∙ sym (and_assoc pattern x y) ∙ e

pub unmet_with_fewer : (x y pattern : ℕ) (m : Mode) → holds x pattern m ≡ false → holds (bit_and x y) pattern m ≡ false
unmet_with_fewer x y pattern mode.Andw e =
    false_from_ne_true _ (λ h. both_ways _ e (eq-eqb _ _ (met_with_more x y pattern (eqb-true _ _ h))))
unmet_with_fewer x y pattern mode.Orw e =
    let none : bit_and x pattern ≡ 0 = omega (arith, ltb-false 0 (bit_and x pattern) e) in
    let fewer : bit_and (bit_and x y) pattern ≡ 0 =
    and_assoc pattern x y ∙ ap (bit_and x) (and_comm y pattern) ∙ sym (and_assoc y x pattern) ∙ ap (λ z. bit_and z y) none ∙ and_zero_l y in
    rw fewer refl

pub unmet_with_none : (x pattern : ℕ) (m : Mode) → holds x pattern m ≡ false → holds 0 pattern m ≡ false
unmet_with_none x pattern m e = subst (λ z. holds z pattern m ≡ false) (and_zero_r x) (unmet_with_fewer x 0 pattern m e)
