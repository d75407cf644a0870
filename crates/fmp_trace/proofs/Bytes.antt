-- Which bytes stand in the parts of a printed line, and which do not.
use Rattle.std.proofs.Common.{◌≡◌, ℕ, ◌<◌, ◌^◌, Bool, true, false, not, ◌||◌, eqb, inl, inr, List, refl, sym, ap, ◌∙◌, arith}
use Rattle.std.specs.Prelude.{decimal}
use Rattle.std.specs.Char.{is_digit}
use Rattle.std.specs.List.{list_all}
use Rattle.std.proofs.lemmas.Bool.{ne_eqb, eqb-true, false≢true, or_cases}
use Rattle.std.proofs.lemmas.Bool.Decides.{nat_tests}
use Rattle.std.proofs.lemmas.Fmt.{decimal_is_IsNumeral}
use Rattle.fmp_codes.specs.Codes.{name_of}
use Rattle.fmp_codes.specs.declared.codes.Code.{Code}
use Rattle.fmp_codes.specs.declared.codes.Code.TheVariants.{Accepted, Parameter, Identifier, Context, IllegalUse, ObjectState, QueueOverflow, WaitReleased, TimedOut}
use Rattle.fmp_bytes.specs.declared.classes.Class.TheVariants.{Word, Argument, Printed}
use Rattle.fmp_bytes.specs.Bytes.{is_of}
use Rattle.fmp_bytes.proofs.Prefixes.{list_all-weaker}
use Rattle.fmp_bytes.proofs.Included.{argument-word, word-digit}
use Rattle.fmp_bytes.proofs.Spelled.{list_all-digits}

-- ---- classes

-- a byte that fails a test is none of those that pass
pub other_than : (p : ℕ → Bool) (c : ℕ) → p c ≡ false → (xs : List ℕ) → list_all p xs ≡ true → list_all (λ b. not (eqb b c)) xs ≡ true
other_than p c out xs all =
    list_all-weaker p (λ b. not (eqb b c)) (λ b h. let other : eqb b c ≡ false = ne_eqb b c (λ e. false≢true (sym out ∙ ap p (sym e) ∙ h)) in rw other refl) xs all

printed-argument : (b : ℕ) → is_of Argument b ≡ true → is_of Printed b ≡ true
unfolding is_of
printed-argument b h = grind (arith, nat_tests)

-- a byte of a word of a line: of a number or a name, `=`, `:` or a comma
abbrev pub solid : ℕ → Bool
solid b = is_of Argument b || (eqb b 61 || (eqb b 58 || eqb b 44))

-- a byte of a call but its last one: of a number or a name, a blank, a comma or `(`
abbrev pub inner : ℕ → Bool
inner b = is_of Argument b || (eqb b 32 || (eqb b 44 || eqb b 40))

pub solid-argument : (b : ℕ) → is_of Argument b ≡ true → solid b ≡ true
solid-argument b h = rw h refl

pub inner-argument : (b : ℕ) → is_of Argument b ≡ true → inner b ≡ true
inner-argument b h = rw h refl

pub printed-solid : (b : ℕ) → solid b ≡ true → is_of Printed b ≡ true
unfolding is_of
printed-solid b h =
    elim (or_cases (is_of Argument b) (eqb b 61 || (eqb b 58 || eqb b 44)) h) [
      | inl t ↦ printed-argument b t
      | inr t ↦ elim (or_cases (eqb b 61) (eqb b 58 || eqb b 44) t) [
        | inl e ↦ rw (eqb-true b 61 e) refl
        | inr u ↦ elim (or_cases (eqb b 58) (eqb b 44) u) [ inl e ↦ rw (eqb-true b 58 e) refl | inr e ↦ rw (eqb-true b 44 e) refl ]
      ]
    ]

pub printed-inner : (b : ℕ) → inner b ≡ true → is_of Printed b ≡ true
unfolding is_of
printed-inner b h =
    elim (or_cases (is_of Argument b) (eqb b 32 || (eqb b 44 || eqb b 40)) h) [
      | inl t ↦ printed-argument b t
      | inr t ↦ elim (or_cases (eqb b 32) (eqb b 44 || eqb b 40) t) [
        | inl e ↦ rw (eqb-true b 32 e) refl
        | inr u ↦ elim (or_cases (eqb b 44) (eqb b 40) u) [ inl e ↦ rw (eqb-true b 44 e) refl | inr e ↦ rw (eqb-true b 40 e) refl ]
      ]
    ]

-- ---- numbers and codes

pub decimal_words : (n : ℕ) → n < 2 ^ 64 → list_all (is_of Word) (decimal n) ≡ true
decimal_words n lt =
    let numeral = decimal_is_IsNumeral n lt in
    list_all-weaker (λ b. is_digit b 10) (is_of Word) (λ b h. word-digit 10 b (omega arith) h) (decimal n) (list_all-digits 10 (decimal n) numeral.0.1)

pub of_words : (xs : List ℕ) → list_all (is_of Word) xs ≡ true → list_all (is_of Argument) xs ≡ true
of_words xs words = list_all-weaker (is_of Word) (is_of Argument) argument-word xs words

pub decimal_bytes : (n : ℕ) → n < 2 ^ 64 → list_all (is_of Argument) (decimal n) ≡ true
decimal_bytes n lt = of_words (decimal n) (decimal_words n lt)

pub code_words : (c : Code) → list_all (is_of Word) (name_of c) ≡ true
unfolding is_of
code_words Accepted = refl
code_words Parameter = refl
code_words Identifier = refl
code_words Context = refl
code_words IllegalUse = refl
code_words ObjectState = refl
code_words QueueOverflow = refl
code_words WaitReleased = refl
code_words TimedOut = refl
