use Rattle.std.proofs.Common.{◌≡◌, ℕ, suc, zero, ◌-◌, ◌≤◌, ◌/◌, ◌%◌, false, List, ◌++◌, refl, sym, ap, subst, ◌∙◌, arith}
use Rattle.std.specs.Prelude.{◌==◌, nat_lt, if◌then◌else◌}
use Rattle.std.proofs.lemmas.Bool.{le-ltb}
use Rattle.fmp_out.specs.Putting.{Adds, Putting}
use Rattle.fmp_out.proofs.Puts.{both}
use Rattle.fmp_run_wave.specs.Values.{bit_text, bits_text}
use Rattle.fmp_run_wave.proofs.values.+put_bits.Goals as goal

bits-suc : (k n : ℕ) → bits_text (suc k) n ≡ (if nat_lt n 2 then bit_text (n == 1) else bits_text k (n / 2) ++ bit_text (n % 2 == 1))
unfolding bits_text
bits-suc k n = refl

-- a number of more than one bit ends with its last one
bits_more : (k n : ℕ) → 2 ≤ n → bits_text (suc k) n ≡ bits_text k (n / 2) ++ bit_text (n % 2 == 1)
bits_more k n big = let large : nat_lt n 2 ≡ false = le-ltb n 2 big in bits-suc k n ∙ rw large refl

one_more_bit : (k n : ℕ) (old between new : Putting) → (k ≡ 0 → ⊥) → 2 ≤ n → Adds (bits_text (k - 1) (n / 2)) old between → Adds (bit_text (n % 2 == 1)) between new
    → Adds (bits_text k n) old new
one_more_bit zero n old between new some big before here = absurd (some refl)
one_more_bit (suc k) n old between new some big before here =
    let less : suc k - 1 ≡ k = omega arith in
    let bit = bit_text (n % 2 == 1) in
    let front : Adds (bits_text k (n / 2)) old between = subst (λ (i : ℕ). Adds (bits_text i (n / 2)) old between) less before in
    subst (λ (xs : List ℕ). Adds xs old new) (sym (bits_more k n big)) (both (bits_text k (n / 2)) bit old between new front here)

pub returns : goal.returns
returns t c = one_more_bit c.args.most c.args.number _ _ _ c.if-most-eq0.false c.if-number-lt2.false c.put_bits.ensures c.put_bit-2.ensures
