-- Bytes that stand in a page as they are.
use Rattle.std.proofs.Common.{◌≡◌, ℕ, zero, suc, ◌-◌, ◌<◌, true, List, [], ◌∷◌, ◌++◌, length, take, drop, slice_index, eqb, append_assoc, refl, ap, ◌∙◌, sym, arith, inl, inr}
use Rattle.std.proofs.lemmas.Bool.{cases_Bool}
use Rattle.std.proofs.lemmas.List.{take_rest}
use Rattle.memchr.specs.Find.{Nowhere, Passes, is_byte2}
use Rattle.fmp_run_page.specs.Escapes.{escaped, escaped_byte}

abbrev pub IsPlain : List ℕ → ℕ → Type 0
IsPlain bytes n = Nowhere (Passes (is_byte2 60 38) bytes) 0 n

plain_byte : (b : ℕ) → (is_byte2 60 38 b ≡ true → ⊥) → escaped_byte b ≡ b ∷ []
plain_byte b clear =
    elim (cases_Bool (eqb b 60)) [
      | inl t ↦ absurd (clear (rw t refl))
      | inr f ↦ elim (cases_Bool (eqb b 38)) [
        | inl t ↦ absurd (clear (rw (f, t) refl))
        | inr g ↦ rw (f, g) refl
      ]
    ]

-- what stands before a byte, the byte, and the rest
pub escaped_front : (bytes : List ℕ) (n : ℕ) → n < length bytes → IsPlain bytes n
    → escaped bytes ≡ take n bytes ++ (escaped_byte (slice_index (drop n bytes) 0) ++ escaped (drop 1 (drop n bytes)))
escaped_front [] n inside clear = absurd (omega (arith, inside))
escaped_front (b ∷ bytes) zero inside clear = refl
escaped_front (b ∷ bytes) (suc n) inside clear =
    rw (plain_byte b (clear 0 (omega arith) (omega arith)))
    (ap (λ (xs : List ℕ). b ∷ xs) (escaped_front bytes n (omega (arith, inside)) (λ j low high. clear (suc j) (omega arith) (omega (arith, high)))))

pub escaped_plain : (bytes : List ℕ) → IsPlain bytes (length bytes) → escaped bytes ≡ bytes
escaped_plain [] clear = refl
escaped_plain (b ∷ bytes) clear =
    rw (plain_byte b (clear 0 (omega arith) (omega arith)))
    (ap (λ (xs : List ℕ). b ∷ xs) (escaped_plain bytes (λ j low high. clear (suc j) (omega arith) (omega (arith, high)))))

-- one more of these bytes, and what stands before it
pub one_escaped : (all out between more bytes from : List ℕ) (n : ℕ) → n < length bytes → IsPlain bytes n → from ≡ drop n bytes → between ≡ out ++ take n bytes
    → more ≡ between ++ escaped_byte (slice_index from 0) → out ++ escaped bytes ≡ all → more ++ escaped (take (length from - 1) (drop 1 from)) ≡ all
one_escaped all out between more bytes from n inside clear at front here whole =
    let byte : List ℕ = escaped_byte (slice_index from 0) in
    let after : List ℕ = escaped (drop 1 from) in
    ap (λ (xs : List ℕ). more ++ escaped xs) (take_rest from 1)
    ∙ ap (λ (xs : List ℕ). xs ++ after) (here ∙ ap (λ (xs : List ℕ). xs ++ byte) front)
    ∙ append_assoc (out ++ take n bytes) byte after
    ∙ append_assoc out (take n bytes) (byte ++ after)
    ∙ ap (λ (xs : List ℕ). out ++ (take n bytes ++ (escaped_byte (slice_index xs 0) ++ escaped (drop 1 xs)))) at
    ∙ ap (λ (xs : List ℕ). out ++ xs) (sym (escaped_front bytes n inside clear))
    ∙ whole

-- the bytes that are left
pub last_escaped : (all out bytes : List ℕ) → IsPlain bytes (length bytes) → out ++ escaped bytes ≡ all → out ++ bytes ≡ all
last_escaped all out bytes clear whole = ap (λ (xs : List ℕ). out ++ xs) (sym (escaped_plain bytes clear)) ∙ whole
