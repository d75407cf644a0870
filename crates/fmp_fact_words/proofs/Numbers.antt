-- Numbers are read of what they are written as.
use Rattle.std.proofs.Common.{◌≡◌, ◌∙◌, ℕ, suc, ◌+◌, ◌-◌, ◌<◌, ◌≤◌, ◌^◌, ℤ, pos, negsuc, true, [], ◌∷◌, Some, refl, ap, arith, decimal}
use Rattle.std.specs.Fmt.{signed_decimal}
use Rattle.std.proofs.lemmas.Bool.{lt-ltb, le-leb}
use Rattle.std.proofs.lemmas.Fmt.{decimal_digit, decimal_is_IsNumeral}
use Rattle.fmp_bytes.specs.Numerals.{are_digits, magnitude_of}
use Rattle.fmp_bytes.proofs.Spelled.{are_digits-from, decimal_alone, following-digits, following-same, magnitude_of-small, not_zero_led}
use Rattle.fmp_codes.specs.declared.numbers.Proc.{Proc}
use Rattle.fmp_codes.proofs.Same.{as_proc-number}
use Rattle.fmp_fact_words.specs.Reading.{number_in, processor_in, value_in}
use Rattle.fmp_fact_words.specs.Words.{processor_word}

pub number_read : (n : ℕ) → n < 2 ^ 64 → number_in (decimal n) ≡ Some n
unfolding number_in
number_read n lt =
    let numeral = decimal_is_IsNumeral n lt in
    let digits : are_digits 10 (decimal n) ≡ true = are_digits-from 10 (decimal n) numeral.0.0 numeral.0.1 in
    let led = not_zero_led (decimal n) (decimal_alone n lt) in
    let size : magnitude_of 10 (decimal n) ≡ Some n = magnitude_of-small 10 (decimal n) (omega (arith, numeral.1, lt)) ∙ ap (λ (m : ℕ). Some m) numeral.1 in
    rw (digits, led, size) refl

pub value_read : (v : ℤ) → ((n : ℕ) → v ≡ pos n → n < 2 ^ 63) → ((n : ℕ) → v ≡ negsuc n → n < 2 ^ 63) → value_in (signed_decimal v) ≡ Some v
unfolding value_in
value_read (pos n) here below =
    let lt = here n refl in
    let numeral = decimal_is_IsNumeral n (omega (arith, lt)) in
    let none = following-digits (decimal n) numeral.0.1 in
    let read = number_read n (omega (arith, lt)) in
    let test = lt-ltb n (2 ^ 63) lt in
    rw (none, read, test) refl
value_read (negsuc n) here below =
    let lt = below n refl in
    let read = number_read (suc n) (omega (arith, lt)) in
    let test = le-leb (suc n) (2 ^ 63) (omega (arith, lt)) in
    rw (following-same 45 (decimal (suc n)), read, test) refl

-- a processor has a number of one digit
pub processor_digit : (p : Proc) → decimal p.number ≡ (48 + p.number) ∷ []
processor_digit p = decimal_digit p.number (let most = p.most in omega (arith, most))

pub processor_read : (n : ℕ) (p : Proc) → p.number ≤ n → processor_in n (processor_word p) ≡ Some p
processor_read n p few =
    let low = le-leb 49 (48 + p.number) (let least = p.least in omega (arith, least)) in
    let high = le-leb (48 + p.number) (48 + n) (omega (arith, few)) in
    let back : 48 + p.number - 48 ≡ p.number = omega arith in
    rw (processor_digit p, low, high, back) (ap (λ (q : Proc). Some q) (as_proc-number p))
