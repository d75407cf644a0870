-- A number and `times` that are read are spelled.
use Rattle.std.proofs.Common.{◌≡◌, ℕ, suc, ◌+◌, ◌-◌, ◌≤◌, Bool, true, false, not, ◌&&◌, cond, eqb, leb, List, [], ◌∷◌}
use Rattle.std.proofs.Common.{◌++◌, length, take, drop, Option, Some, None, refl, sym, ap, subst, ◌∙◌, arith, length-append}
use Rattle.std.specs.Prelude.{option_and_then, is_some}
use Rattle.std.specs.Char.{is_digit}
use Rattle.std.specs.List.{list_all}
use Rattle.std.proofs.lemmas.Bool.{and_parts, leb-true, false≢true}
use Rattle.std.proofs.lemmas.List.{take_at}
use Rattle.std.proofs.Math.Seq.{take-append-add}
use Rattle.fmp_bytes.specs.Bytes.{space}
use Rattle.fmp_bytes.specs.Numerals.{are_digits, magnitude_of}
use Rattle.fmp_bytes.proofs.Prefixes.{list_all-parts}
use Rattle.fmp_bytes.proofs.Spelled.{magnitude_of-some}
use Rattle.fmp_names.specs.Names.{NameLists}
use Rattle.fmp_search_pattern.specs.declared.spot.Spot.{Spot}
use Rattle.fmp_search_question.specs.Reading.{Draft, has_begun, nothing_read, number_in, times_within, with_times}
use Rattle.fmp_search_question.specs.Grammar.Grammar.{SpellsCount, spaced}
use Rattle.fmp_search_question.proofs.grammar.Patterns.{or_parts, some_length}
use Rattle.fmp_search_question.proofs.grammar.Taken.{map_parts, then_parts, when_true}
use Rattle.fmp_search_question.proofs.grammar.Begun.{Begun, nothing, refusal, some}
use Rattle.fmp_search_question.proofs.grammar.Counts.{all_digits}

-- ---- the digits between the blanks

-- all bytes of a pattern but its first and its last
abbrev pub inner : List ℕ → List ℕ
inner pattern = take (length pattern - 2) (drop 1 pattern)

-- what two words have between the blanks is no number
two_words : (first second : List ℕ) (rest : List (List ℕ)) → are_digits 10 (inner (spaced (first ∷ second ∷ rest))) ≡ true → ⊥
two_words first second rest is =
    let following = second ++ spaced rest in
    let cut : length (spaced (first ∷ second ∷ rest)) - 2 ≡ length first + suc (length following - 1) =
    omega (arith, length-append first (spaced (second ∷ rest)), length-append second (spaced rest), some rest) in
    let taken : inner (spaced (first ∷ second ∷ rest)) ≡ first ++ space ∷ take (length following - 1) following =
    ap (λ (n : ℕ). take n (first ++ spaced (second ∷ rest))) cut ∙ take-append-add first (spaced (second ∷ rest)) (suc (length following - 1)) in
    let digits = all_digits (first ++ space ∷ take (length following - 1) following) (ap (are_digits 10) (sym taken) ∙ is) in
    let blank = list_all-parts (λ b. is_digit b 10) first (space ∷ take (length following - 1) following) digits in
    false≢true (and_parts (is_digit space 10) (list_all (λ b. is_digit b 10) (take (length following - 1) following)) blank.1).0 where
      some : (words : List (List ℕ)) → 1 ≤ length (spaced words)
      some [] = omega arith
      some (word ∷ words) = omega arith

one_word : (word : List ℕ) → inner (spaced (word ∷ [])) ≡ word
one_word word = take_at word (space ∷ []) _ (omega (arith, length-append word (space ∷ [])))

-- what stands there, where it is a number
number_parts : (pattern : List ℕ) (n : ℕ) → number_in pattern ≡ Some n → (are_digits 10 (inner pattern) ≡ true) × (magnitude_of 10 (inner pattern) ≡ Some n)
number_parts pattern n is = parts (are_digits 10 (inner pattern)) is where
  parts : (test : Bool) → cond test (magnitude_of 10 (inner pattern)) None ≡ Some n → (test ≡ true) × (magnitude_of 10 (inner pattern) ≡ Some n)
  parts true e = (refl, e)
  parts false e = absurd cc

-- a pattern that is a number is one word, its digits
number_begun : (names : NameLists) (words : List (List ℕ)) (pattern : List ℕ) (place : Spot) (n : ℕ) → Begun names words pattern place → number_in pattern ≡ Some n
    → 1 ≤ n → n ≤ 255
    → (digits : List ℕ) × (words ≡ digits ∷ []) × SpellsCount digits n
number_begun names words pattern place n (nothing none empty at) is least most = absurd (no_number (sym (ap number_in empty) ∙ is)) where
  no_number : None ≡ Some n → ⊥
  no_number e = cc
number_begun names words pattern place n (refusal only text last) is least most = absurd (no_number (sym (ap number_in text) ∙ is)) where
  no_number : None ≡ Some n → ⊥
  no_number e = cc
number_begun names words pattern place n (some first [] are each text few stand) is least most =
    let p = number_parts (spaced (first ∷ [])) n (ap number_in (sym text) ∙ is) in
    let same = one_word first in
    let value = magnitude_of-some 10 first n (ap (magnitude_of 10) (sym same) ∙ p.1) in
    (first, are, record { decimal = ap (are_digits 10) (sym same) ∙ p.0; value = value.1; least = least; most = most; short = few })
number_begun names words pattern place n (some first (second ∷ rest) are each text few stand) is least most =
    absurd (two_words first second rest (number_parts (spaced (first ∷ second ∷ rest)) n (ap number_in (sym text) ∙ is)).0)

-- ---- nothing but the number

-- nothing else of the step was read
pub record IsAlone (d : Draft) : Type 0 where
  pub times : d.times ≡ None
  pub moment : d.moment ≡ None
  pub parts : d.parts ≡ []
  pub items : d.items ≡ []
  pub negated : d.negated ≡ false

none_from : {A : Type 0} (o : Option A) → is_some o ≡ false → o ≡ None
none_from None is = refl
none_from (Some x) is = absurd cc

empty_from : {A : Type 0} (xs : List A) → not (eqb (length xs) 0) ≡ false → xs ≡ []
empty_from [] is = refl
empty_from (x ∷ xs) is = absurd (contrary (sym (ap not (some_length x xs)) ∙ is)) where
  contrary : true ≡ false → ⊥
  contrary e = cc

alone : (d : Draft) → has_begun d ≡ false → IsAlone d
alone d is =
    let a = or_parts _ d.negated is in
    let b = or_parts _ (not (eqb (length d.items) 0)) a.0 in
    let c = or_parts _ (not (eqb (length d.parts) 0)) b.0 in
    let e = or_parts (is_some d.times) (is_some d.moment) c.0 in
    record { times = none_from d.times e.0; moment = none_from d.moment e.1; parts = empty_from d.parts c.1; items = empty_from d.items b.1; negated = a.1 }

when_none : {A : Type 0} (test : Bool) (o : Option A) (y : A) → cond test None o ≡ Some y → (test ≡ false) × (o ≡ Some y)
when_none false o y is = (refl, is)
when_none true o y is = absurd cc

within_parts : (k n : ℕ) → times_within k ≡ Some n → (k ≡ n) × (1 ≤ k) × (k ≤ 255)
within_parts k n is =
    let p = when_true (leb 1 k && leb k 255) k n is in
    let q = and_parts (leb 1 k) (leb k 255) p.0 in
    (p.1, leb-true 1 k q.0, leb-true k 255 q.1)

-- the step stands so often
abbrev pub after_times : Draft → ℕ → Draft
after_times d n = record d { times = Some n; pattern = []; spot = nothing_read.spot }

pub count_read : (names : NameLists) (words : List (List ℕ)) (d e : Draft) → Begun names words d.pattern d.spot → with_times d ≡ Some e
    → (n : ℕ) × (digits : List ℕ) × (words ≡ digits ∷ []) × SpellsCount digits n × IsAlone d × (after_times d n ≡ e)
unfolding with_times
count_read names words d e s is =
    let p = when_none (has_begun d) _ e is in
    let m = map_parts (after_times d) (option_and_then times_within (number_in d.pattern)) e p.1 in
    let t = then_parts times_within (number_in d.pattern) m.0 m.1 in
    let w = within_parts t.0 m.0 t.2 in
    let c = number_begun names words d.pattern d.spot t.0 s t.1 w.1 w.2 in
    (m.0, c.0, c.1, subst (λ (n : ℕ). SpellsCount c.0 n) w.0 c.2, alone d p.0, m.2)
