-- The number before `times`.
use Rattle.std.proofs.Common.{◌≡◌, ℕ, suc, ◌+◌, ◌-◌, ◌^◌, ◌≤◌, ◌<◌, inl, inr, Bool, true, false, ◌&&◌, cond, leb, List, [], ◌∷◌}
use Rattle.std.proofs.Common.{◌++◌, length, take, drop, Option, Some, None, refl, sym, ap, subst, ◌∙◌, arith, length-append}
use Rattle.std.specs.Prelude.{codes, option_and_then}
use Rattle.std.specs.Char.{is_digit}
use Rattle.std.specs.List.{list_all}
use Rattle.std.specs.Str.{bytes_eq}
use Rattle.std.specs.Str.Parse.{digits_value}
use Rattle.std.proofs.lemmas.Bool.{and_parts, leb-true, le-leb, false≢true, cases_Bool}
use Rattle.std.proofs.lemmas.List.{take_at}
use Rattle.std.proofs.Math.Seq.{take-append-add}
use Rattle.fmp_bytes.specs.Bytes.{space}
use Rattle.fmp_bytes.specs.Numerals.{are_digits, magnitude_of}
use Rattle.fmp_bytes.proofs.Prefixes.{list_all-parts}
use Rattle.fmp_bytes.proofs.Spelled.{magnitude_of-some, magnitude_of-small}
use Rattle.fmp_bytes.proofs.Words.{is_word}
use Rattle.fmp_names.specs.Names.{NameLists}
use Rattle.fmp_search_pattern.specs.declared.spot.Spot.{Spot}
use Rattle.fmp_search_question.specs.Reading.{number_in, times_within}
use Rattle.fmp_search_question.specs.Grammar.Grammar.{SpellsCount, spaced}
use Rattle.fmp_law_faults.specs.Words.{is_break}
use Rattle.fmp_law_faults.proofs.Patterns.{IsOpen, refusal, row, text_of}

-- ---- digits are none of the words with which a pattern ends

no_digits : (digits own : List ℕ) → are_digits 10 digits ≡ true → are_digits 10 own ≡ false → bytes_eq digits own ≡ false
no_digits digits own is other =
    elim (cases_Bool (bytes_eq digits own)) [
      | inl t ↦ absurd (false≢true (sym other ∙ ap (are_digits 10) (sym (is_word digits own t)) ∙ is))
      | inr f ↦ f
    ]

pub no_break : (digits : List ℕ) → are_digits 10 digits ≡ true → is_break digits ≡ false
no_break digits is =
    let a = no_digits digits (codes "&") is refl in
    let b = no_digits digits (codes "or") is refl in
    let c = no_digits digits (codes "not") is refl in
    let d = no_digits digits (codes "without") is refl in
    let e = no_digits digits (codes "then") is refl in
    let f = no_digits digits (codes "times") is refl in
    rw (a, b, c, d, e, f) refl

all_digits : (digits : List ℕ) → are_digits 10 digits ≡ true → list_all (λ b. is_digit b 10) digits ≡ true
all_digits [] is = absurd cc
all_digits (b ∷ digits) is = is

-- ---- the digits between the blanks

-- all bytes of a pattern but its first and its last
abbrev inner : List ℕ → List ℕ
inner pattern = take (length pattern - 2) (drop 1 pattern)

one_word : (word : List ℕ) → inner (spaced (word ∷ [])) ≡ word
one_word word = take_at word (space ∷ []) _ (omega (arith, length-append word (space ∷ [])))

-- what two words have between the blanks is no number
two_words : (first second : List ℕ) (rest : List (List ℕ)) → are_digits 10 (inner (spaced (first ∷ second ∷ rest))) ≡ true → ⊥
two_words first second rest is =
    let following = second ++ spaced rest in
    let cut : length (spaced (first ∷ second ∷ rest)) - 2 ≡ length first + suc (length following - 1) =
    omega (arith, length-append first (spaced (second ∷ rest)), length-append second (spaced rest), some rest) in
    let taken : inner (spaced (first ∷ second ∷ rest)) ≡ first ++ space ∷ take (length following - 1) following =
    ap (λ (n : ℕ). take n (first ++ spaced (second ∷ rest))) cut ∙ take-append-add first (spaced (second ∷ rest)) (suc (length following - 1)) in
    let digits = all_digits (first ++ space ∷ take (length following - 1) following) (ap (are_digits 10) (sym taken) ∙ is) in
    let blank = list_all-parts (λ b. is_digit b 10) first (space ∷ take (length following - 1) following) digits in
    false≢true (and_parts (is_digit space 10) (list_all (λ b. is_digit b 10) (take (length following - 1) following)) blank.1).0 where
      some : (words : List (List ℕ)) → 1 ≤ length (spaced words)
      some [] = omega arith
      some (word ∷ words) = omega arith

number_parts : (pattern : List ℕ) (n : ℕ) → number_in pattern ≡ Some n → (are_digits 10 (inner pattern) ≡ true) × (magnitude_of 10 (inner pattern) ≡ Some n)
number_parts pattern n is = parts (are_digits 10 (inner pattern)) is where
  parts : (test : Bool) → cond test (magnitude_of 10 (inner pattern)) None ≡ Some n → (test ≡ true) × (magnitude_of 10 (inner pattern) ≡ Some n)
  parts true e = (refl, e)
  parts false e = absurd cc

-- ---- a pattern that is a number of steps

-- the words are its digits
abbrev pub CountsSteps : List (List ℕ) → ℕ → Type 0
CountsSteps words n = (digits : List ℕ) × (words ≡ digits ∷ []) × SpellsCount digits n

number_is : (names : NameLists) (words : List (List ℕ)) (place : Spot) (n : ℕ) → IsOpen names words place → number_in (text_of words) ≡ Some n → 1 ≤ n → n ≤ 255 → CountsSteps words n
number_is names words place n (refusal are at) is least most =
    let same : number_in (text_of (codes "refused" ∷ [])) ≡ Some n = ap (λ (ws : List (List ℕ)). number_in (text_of ws)) (sym are) ∙ is in absurd (no_number same) where
      no_number : None ≡ Some n → ⊥
      no_number e = cc
number_is names [] place n (row each short stand) is least most = absurd (no_number is) where
  no_number : None ≡ Some n → ⊥
  no_number e = cc
number_is names (first ∷ []) place n (row each short stand) is least most =
    let p = number_parts (spaced (first ∷ [])) n is in
    let same = one_word first in
    let value = magnitude_of-some 10 first n (ap (magnitude_of 10) (sym same) ∙ p.1) in
    (first, refl, record { decimal = ap (are_digits 10) (sym same) ∙ p.0; value = value.1; least = least; most = most; short = short })
number_is names (first ∷ second ∷ rest) place n (row each short stand) is least most =
    absurd (two_words first second rest (number_parts (spaced (first ∷ second ∷ rest)) n is).0)

within_parts : (k n : ℕ) → times_within k ≡ Some n → (k ≡ n) × (1 ≤ k) × (k ≤ 255)
within_parts k n is = parts (leb 1 k && leb k 255) refl is where
  parts : (test : Bool) → (leb 1 k && leb k 255) ≡ test → cond test (Some k) None ≡ Some n → (k ≡ n) × (1 ≤ k) × (k ≤ 255)
  parts true e same = let q = and_parts (leb 1 k) (leb k 255) e in (cc, leb-true 1 k q.0, leb-true k 255 q.1)
  parts false e same = absurd cc

-- the number of steps that a pattern is
abbrev pub count_in : List ℕ → Option ℕ
count_in pattern = option_and_then times_within (number_in pattern)

pub count_is : (names : NameLists) (words : List (List ℕ)) (place : Spot) (n : ℕ) → IsOpen names words place → count_in (text_of words) ≡ Some n → CountsSteps words n
count_is names words place n is e = parts (number_in (text_of words)) refl e where
  parts : (found : Option ℕ) → number_in (text_of words) ≡ found → option_and_then times_within found ≡ Some n → CountsSteps words n
  parts None f g = absurd cc
  parts (Some k) f g =
      let w = within_parts k n g in
      subst (λ (m : ℕ). CountsSteps words m) w.0 (number_is names words place k is f w.1 w.2)

pub count_found : (words : List (List ℕ)) (n : ℕ) → CountsSteps words n → count_in (text_of words) ≡ Some n
count_found words n s =
    let digits = s.0 in
    let c = s.2 in
    let same = one_word digits in
    let decimal = c.decimal in
    let value = c.value in
    let small : digits_value 10 digits < 2 ^ 64 = omega (arith, value, c.most) in
    let magnitude = magnitude_of-small 10 digits small in
    let read : number_in (spaced (digits ∷ [])) ≡ Some n = rw same (rw decimal (magnitude ∙ ap (λ (k : ℕ). Some k) value)) in
    let least = le-leb 1 n c.least in
    let most = le-leb n 255 c.most in
    ap (λ (ws : List (List ℕ)). count_in (text_of ws)) s.1 ∙ ap (option_and_then times_within) read ∙ rw least (rw most refl)
