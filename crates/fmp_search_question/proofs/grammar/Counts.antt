-- The number of times that a step stands.
use Rattle.std.proofs.Common.{◌≡◌, ℕ, ◌-◌, ◌≤◌, inl, inr, Bool, true, false, not, ◌&&◌, ◌||◌, eqb, List, [], ◌∷◌, ◌++◌, length}
use Rattle.std.proofs.Common.{get_or, take, Option, Some, None, Ok, refl, sym, ap, ◌∙◌, arith, length-append}
use Rattle.std.specs.Prelude.{codes, unwrap_or}
use Rattle.std.specs.Char.{digit_value, is_digit, is_ascii_digit}
use Rattle.std.specs.List.{list_all, list_any}
use Rattle.std.specs.Str.{bytes_eq}
use Rattle.std.proofs.lemmas.Bool.{and_parts, le-leb, ltb-true, false≢true, cases_Bool}
use Rattle.std.proofs.lemmas.Bool.Decides.{nat_tests}
use Rattle.std.proofs.lemmas.List.{take_at}
use Rattle.std.proofs.lemmas.List.Splits.{slice_split_none}
use Rattle.std.proofs.lemmas.Str.Parse.{digit_from_value}
use Rattle.fmp_bytes.specs.declared.classes.Class.TheVariants.{Printed}
use Rattle.fmp_bytes.specs.Bytes.{cut_at, equals_sign, is_of, space}
use Rattle.fmp_bytes.proofs.Cutting.{cut_at-parts, no_cut, pieces_of-join}
use Rattle.fmp_bytes.specs.Numerals.{are_digits, magnitude_of}
use Rattle.fmp_bytes.proofs.Included.{word-digit}
use Rattle.fmp_bytes.proofs.Prefixes.{list_all-parts, list_all-weaker}
use Rattle.fmp_bytes.proofs.Spelled.{magnitude_of-small}
use Rattle.fmp_bytes.proofs.Words.{is_word}
use Rattle.fmp_names.specs.Names.{NameLists}
use Rattle.fmp_names.proofs.Listed.{list_all-at}
use Rattle.fmp_search_pattern.specs.declared.spot.Spot.{Spot}
use Rattle.fmp_search_pattern.specs.declared.question.Step.{Step}
use Rattle.fmp_search_pattern.specs.Forms.{spot_of}
use Rattle.fmp_fact_words.specs.Asking.{is_star}
use Rattle.fmp_fact_words.specs.Reading.{row_of, words}
use Rattle.fmp_fact_words.specs.Speaking.{is_of_state, is_run, is_thing, must_ask}
use Rattle.fmp_search_question.specs.Places.{filled, last_spot, longer, next_spot, words_of}
use Rattle.fmp_search_question.specs.Reading.{Draft, after_word, nothing_read, number_in, times_within, with_times}
use Rattle.fmp_search_pattern.specs.Spots.{may_follow}
use Rattle.fmp_search_pattern.specs.Words.{is_fine, is_outside, runs_of}
use Rattle.fmp_search_question.specs.Grammar.Grammar.{SpellsCount, is_pattern_word, own_words, spaced}
use Rattle.fmp_search_question.proofs.grammar.Led.{led_first}
use Rattle.fmp_search_question.proofs.grammar.Steps.{fresh, led}
use Rattle.fmp_search_question.proofs.grammar.Patterns.{not_parts, some_length, word_taken}

-- ---- digits are a word of a pattern

digit_printed : (b : ℕ) → is_digit b 10 ≡ true → is_of Printed b ≡ true
unfolding is_of
digit_printed b is = let range = digit_from_value b (ltb-true (digit_value b) 10 is) in grind (arith, nat_tests)

digit_inside : (b : ℕ) → is_digit b 10 ≡ true → is_outside b ≡ false
digit_inside b is = let word = word-digit 10 b (omega arith) is in rw word refl

digit_no_star : (b : ℕ) → is_digit b 10 ≡ true → eqb b 42 ≡ false
digit_no_star b is = let range = digit_from_value b (ltb-true (digit_value b) 10 is) in grind (arith, nat_tests)

digit_ascii : (b : ℕ) → is_digit b 10 ≡ true → is_ascii_digit b ≡ true
digit_ascii b is = let range = digit_from_value b (ltb-true (digit_value b) 10 is) in grind (arith, nat_tests)

no_star : (bytes : List ℕ) → list_all (λ b. is_digit b 10) bytes ≡ true → list_any (λ b. eqb b 42) bytes ≡ false
no_star [] all = refl
no_star (b ∷ bytes) all =
    let p = and_parts (is_digit b 10) (list_all (λ c. is_digit c 10) bytes) all in
    let first = digit_no_star b p.0 in
    rw first (no_star bytes p.1)

pub all_digits : (digits : List ℕ) → are_digits 10 digits ≡ true → list_all (λ b. is_digit b 10) digits ≡ true
all_digits [] is = absurd cc
all_digits (b ∷ digits) is = is

one_run : (digits : List ℕ) → list_all (λ b. is_digit b 10) digits ≡ true → runs_of digits ≡ digits ∷ []
unfolding runs_of
one_run digits all = slice_split_none is_outside digits (λ k d lt. digit_inside (get_or digits k d) (list_all-at (λ b. is_digit b 10) digits k d lt all))

-- digits are none of the words of the language
no_own : (digits own : List ℕ) → are_digits 10 digits ≡ true → are_digits 10 own ≡ false → bytes_eq digits own ≡ false
no_own digits own is other =
    elim (cases_Bool (bytes_eq digits own)) [
      | inl t ↦ absurd (false≢true (sym other ∙ ap (are_digits 10) (sym (is_word digits own t)) ∙ is))
      | inr f ↦ f
    ]

no_own_word : (digits : List ℕ) → are_digits 10 digits ≡ true → list_any (bytes_eq digits) own_words ≡ false
no_own_word digits is =
    let a = no_own digits (codes "&") is refl in
    let b = no_own digits (codes "or") is refl in
    let c = no_own digits (codes "not") is refl in
    let d = no_own digits (codes "refused") is refl in
    let e = no_own digits (codes "without") is refl in
    let f = no_own digits (codes "then") is refl in
    let g = no_own digits (codes "times") is refl in
    rw (a, b, c, d, e, f, g) refl

digits_fine : (names : NameLists) (digits : List ℕ) → are_digits 10 digits ≡ true → is_fine names digits ≡ true
unfolding is_fine
digits_fine names [] is = absurd cc
digits_fine names (b ∷ digits) is =
    let none = no_star (b ∷ digits) is in
    let first = digit_ascii b (and_parts (is_digit b 10) (list_all (λ c. is_digit c 10) digits) is).0 in
    rw (none, first) refl

some_digits : (digits : List ℕ) → are_digits 10 digits ≡ true → eqb (length digits) 0 ≡ false
some_digits [] is = absurd cc
some_digits (b ∷ digits) is = some_length b digits

pub digits_word : (names : NameLists) (digits : List ℕ) → are_digits 10 digits ≡ true → is_pattern_word names digits ≡ true
digits_word names digits is =
    let all = all_digits digits is in
    let printed = list_all-weaker (λ b. is_digit b 10) (is_of Printed) digit_printed digits all in
    let some = some_digits digits is in
    let own = no_own_word digits is in
    let runs = one_run digits all in
    let fine = digits_fine names digits is in
    rw (some, printed, own, runs, fine) refl

-- nor are they a word of a state
no_digits : (digits own : List ℕ) → are_digits 10 digits ≡ true → are_digits 10 own ≡ false → bytes_eq own digits ≡ false
no_digits digits own is other =
    elim (cases_Bool (bytes_eq own digits)) [
      | inl t ↦ absurd (false≢true (sym other ∙ ap (are_digits 10) (is_word own digits t) ∙ is))
      | inr f ↦ f
    ]

no_row : {A : Type 0} (digits : List ℕ) (rows : List (List ℕ × A)) → are_digits 10 digits ≡ true → list_all (λ row. not (are_digits 10 row.0)) rows ≡ true
    → row_of rows digits ≡ None
no_row digits [] is others = refl
no_row digits (row ∷ rows) is others =
    let p = and_parts (not (are_digits 10 row.0)) (list_all (λ row. not (are_digits 10 row.0)) rows) others in
    let first = no_digits digits row.0 is (not_parts (are_digits 10 row.0) p.0) in
    rw first (no_row digits rows is p.1)

-- there is no `=` in them
no_equals : (b : ℕ) → is_digit b 10 ≡ true → not (eqb b 61) ≡ true
no_equals b is = let range = digit_from_value b (ltb-true (digit_value b) 10 is) in grind (arith, nat_tests)

uncut : (digits : List ℕ) → are_digits 10 digits ≡ true → cut_at equals_sign digits ≡ (digits, None)
uncut digits is = go (cut_at equals_sign digits).1 refl where
  go : (rest : Option (List ℕ)) → (cut_at equals_sign digits).1 ≡ rest → cut_at equals_sign digits ≡ (digits, None)
  go None none = ap (λ (front : List ℕ). (front, (cut_at equals_sign digits).1)) (no_cut equals_sign digits none) ∙ ap (λ (o : Option (List ℕ)). (digits, o)) none
  go (Some rest) some =
      let apart = list_all-weaker (λ b. is_digit b 10) (λ b. not (eqb b 61)) no_equals digits (all_digits digits is) in
      let whole = cut_at-parts equals_sign digits rest some in
      let parts = list_all-parts (λ b. not (eqb b 61)) (cut_at equals_sign digits).0 (61 ∷ rest) (ap (list_all (λ b. not (eqb b 61))) (sym whole) ∙ apart) in
      absurd (false≢true (and_parts (not (eqb 61 61)) (list_all (λ b. not (eqb b 61)) rest) parts.1).0)

-- alone they are the only word
no_blank : (b : ℕ) → is_digit b 10 ≡ true → not (eqb b 32) ≡ true
no_blank b is = let range = digit_from_value b (ltb-true (digit_value b) 10 is) in grind (arith, nat_tests)

digits_alone : (digits : List ℕ) → are_digits 10 digits ≡ true → words_of (longer [] digits) ≡ digits ∷ []
digits_alone digits is =
    let apart = list_all-weaker (λ b. is_digit b 10) (λ b. not (eqb b 32)) no_blank digits (all_digits digits is) in
    let some = some_digits digits is in
    ap (λ (pieces : List (List ℕ)). filled pieces) (pieces_of-join space ([] ∷ digits ∷ [] ∷ []) (omega arith) (rw apart refl)) ∙ rw some refl

-- digits speak of no state
no_state : (digits : List ℕ) → are_digits 10 digits ≡ true → is_of_state digits ≡ false
unfolding is_of_state
no_state digits is =
    let whole = uncut digits is in
    let none = no_row digits words is refl in
    let no_end = no_own digits (codes "end") is refl in
    let stars = no_star digits (all_digits digits is) in
    rw (whole, none, no_end, stars) (and_nothing (not (is_star digits))) where
      and_nothing : (b : Bool) → (b && false) ≡ false
      and_nothing true = refl
      and_nothing false = refl

no_asking : (names : NameLists) (digits : List ℕ) → are_digits 10 digits ≡ true → must_ask names (digits ∷ []) ≡ false
unfolding must_ask is_run
no_asking names digits is =
    let state = no_state digits is in
    let whole = uncut digits is in
    rw (state, whole) (nothing_asked (not (is_thing names digits))) where
      nothing_asked : (b : Bool) → (((b && false) || false) || false) ≡ false
      nothing_asked true = refl
      nothing_asked false = refl

-- they may stand at the front
number_place : (names : NameLists) (digits : List ℕ) → are_digits 10 digits ≡ true → (place : Spot) × (next_spot names [] nothing_read.spot digits ≡ Some place)
unfolding last_spot spot_of may_follow
number_place names digits is =
    let none = no_star digits (all_digits digits is) in
    let only = digits_alone digits is in
    let asking = no_asking names digits is in
    (unwrap_or (next_spot names [] nothing_read.spot digits) nothing_read.spot, rw (only, asking, none, is) refl)

-- ---- the number

pub number_read : (digits : List ℕ) (n : ℕ) → SpellsCount digits n → number_in (spaced (digits ∷ [])) ≡ Some n
number_read digits n s =
    let taken : take (length (spaced (digits ∷ [])) - 2) (digits ++ space ∷ []) ≡ digits =
    take_at digits (space ∷ []) _ (omega (arith, length-append digits (space ∷ []))) in
    let is = s.decimal in
    let value = s.value in
    let most = s.most in
    let number : magnitude_of 10 digits ≡ Some n = magnitude_of-small 10 digits (omega (arith, value, most)) ∙ ap (λ (m : ℕ). Some m) value in
    rw (taken, is) number

number_within : (n : ℕ) → 1 ≤ n → n ≤ 255 → times_within n ≡ Some n
number_within n least most = let a = le-leb 1 n least in let b = le-leb n 255 most in rw (a, b) refl

-- ---- a number and `times`

-- the number was read
abbrev numbered : List Step → List ℕ → Spot → Draft
numbered steps digits place = record (fresh steps None None [] []) { pattern = spaced (digits ∷ []); spot = place }

times_taken : (names : NameLists) (steps : List Step) (digits : List ℕ) (n : ℕ) (place : Spot) → SpellsCount digits n
    → after_word names (numbered steps digits place) (codes "times") ≡ Ok (fresh steps (Some n) None [] [])
unfolding after_word with_times is_of
times_taken names steps digits n place s =
    let read = number_read digits n s in
    let within = number_within n s.least s.most in
    rw (read, within) refl

pub count_led : (names : NameLists) (steps : List Step) (digits : List ℕ) (n : ℕ) → SpellsCount digits n
    → led names (fresh steps None None [] []) (digits ∷ codes "times" ∷ []) ≡ Some (fresh steps (Some n) None [] [])
count_led names steps digits n s =
    let place = number_place names digits s.decimal in
    led_first (after_word names) (fresh steps None None [] []) (numbered steps digits place.0) digits (codes "times" ∷ [])
    (word_taken names (fresh steps None None [] []) digits place.0 (digits_word names digits s.decimal) s.short place.1)
    ∙ led_first (after_word names) (numbered steps digits place.0) (fresh steps (Some n) None [] []) (codes "times") [] (times_taken names steps digits n place.0 s)
