-- What is put into a line, and what it leaves out, where an answer follows a plain text.
use Rattle.std.proofs.Common.{◌≡◌, ℕ, true, not, eqb, List, [], ◌∷◌, ◌++◌, None, refl, sym, ap, ◌∙◌, arith, append_assoc}
use Rattle.std.specs.List.{list_all, join_with_byte}
use Rattle.std.proofs.lemmas.Bool.{and_parts, and_from}
use Rattle.std.proofs.lemmas.List.Folds.{list_all-append}
use Rattle.fmp_bytes.specs.declared.classes.Class.TheVariants.{Line}
use Rattle.fmp_bytes.specs.Bytes.{is_of, cut_at, pieces_of}
use Rattle.fmp_bytes.proofs.Cutting.{pieces_left, pieces_of-cut, pieces_of-join, join-pieces_of, apart-pieces_of}
use Rattle.fmp_bytes.proofs.Prefixes.{list_all-parts}
use Rattle.fmp_trace.proofs.GuessedCalls.{led, join-led}
use Rattle.fmp_trace_partial.specs.Marks.{filled, filled_led, filled_words, ends_answer, answer_kept_in, with_marks, no_marks, marks_in}
use Rattle.fmp_trace_partial.proofs.FilledWords.{IsPlain, AllPlain, plain_words, answer_marked}

-- ---- words

abbrev pub AreApart : List (List ℕ) → Type 0
AreApart words = list_all (list_all (λ b. not (eqb b 32))) words ≡ true

pub led-append : (c : ℕ) (xs ys : List (List ℕ)) → led c (xs ++ ys) ≡ led c xs ++ led c ys
led-append c [] ys = refl
led-append c (x ∷ xs) ys = ap (λ (r : List ℕ). c ∷ (x ++ r)) (led-append c xs ys) ∙ ap (λ (r : List ℕ). c ∷ r) (sym (append_assoc x (led c xs) (led c ys)))

-- the words of a text, as it is cut
words_pieces : (word : List ℕ) (words : List (List ℕ)) → AreApart (word ∷ words) → pieces_of 32 (word ++ led 32 words) ≡ word ∷ words
words_pieces word words apart = ap (pieces_of 32) (sym (join-led 32 word words)) ∙ pieces_of-join 32 (word ∷ words) (omega arith) apart

words_filled : (word : List ℕ) (words : List (List ℕ)) → AreApart (word ∷ words) → filled (word ++ led 32 words) ≡ word ++ filled_words words
unfolding filled
words_filled word words apart =
    let line = word ++ led 32 words in
    let whole = sym (pieces_of-cut 32 line) ∙ words_pieces word words apart in
    let first : (cut_at 32 line).0 ≡ word = cc in
    let others : pieces_left 32 (cut_at 32 line).1 ≡ words = cc in
    rw (first, others) refl

led_plain : (words : List (List ℕ)) → list_all (is_of Line) (led 32 words) ≡ true → AllPlain words
unfolding is_of
led_plain [] all = refl
led_plain (word ∷ words) all =
    let parts = list_all-parts (is_of Line) word (led 32 words) all in
    and_from (list_all (is_of Line) word) (list_all (list_all (is_of Line)) words) parts.0 (led_plain words parts.1)

-- ---- a plain text, an answer, and words after it

module _ (front answer : List ℕ) (words : List (List ℕ)) (plain : IsPlain front) (apart : AreApart (answer ∷ words)) where
  abbrev first : List ℕ
  first = (cut_at 32 front).0

  abbrev others : List (List ℕ)
  others = pieces_left 32 (cut_at 32 front).1

  front_is : front ≡ first ++ led 32 others
  front_is = sym (join-pieces_of 32 front) ∙ ap (join_with_byte 32) (pieces_of-cut 32 front) ∙ join-led 32 first others

  front_apart : AreApart (first ∷ others)
  front_apart = ap (list_all (list_all (λ b. not (eqb b 32)))) (sym (pieces_of-cut 32 front)) ∙ apart-pieces_of 32 front

  front_plain : IsPlain first × AllPlain others
  front_plain =
      let parts = list_all-parts (is_of Line) first (led 32 others) (ap (list_all (is_of Line)) (sym front_is) ∙ plain) in
      (parts.0, led_plain others parts.1)

  line_is : front ++ led 32 (answer ∷ words) ≡ first ++ led 32 (others ++ answer ∷ words)
  line_is =
      ap (λ (t : List ℕ). t ++ led 32 (answer ∷ words)) front_is
      ∙ append_assoc first (led 32 others) (led 32 (answer ∷ words))
      ∙ ap (λ (t : List ℕ). first ++ t) (sym (led-append 32 others (answer ∷ words)))

  line_apart : AreApart (first ∷ (others ++ answer ∷ words))
  line_apart =
      let space = λ (b : ℕ). not (eqb b 32) in
      let parts = and_parts (list_all space first) (list_all (list_all space) others) front_apart in
      and_from (list_all space first) (list_all (list_all space) (others ++ answer ∷ words)) parts.0
      (list_all-append (list_all space) others (answer ∷ words) ∙ and_from (list_all (list_all space) others) (list_all (list_all space) (answer ∷ words)) parts.1 apart)

  module _ (equals : cut_at 61 answer ≡ (answer, None)) where
    pub line_filled : filled (front ++ 32 ∷ (answer ++ led 32 words)) ≡ front ++ (filled_led (ends_answer words) answer ++ filled_words words)
    line_filled =
        let after = filled_led (ends_answer words) answer ++ filled_words words in
        ap filled line_is
        ∙ words_filled first (others ++ answer ∷ words) line_apart
        ∙ ap (λ (t : List ℕ). first ++ t) (plain_words others answer words front_plain.1 equals)
        ∙ sym (append_assoc first (led 32 others) after)
        ∙ ap (λ (t : List ℕ). t ++ after) (sym front_is)

    pub line_marked : marks_in (front ++ 32 ∷ (answer ++ led 32 words)) ≡ with_marks (record no_marks { answer = answer_kept_in answer }) words
    line_marked =
        let plain_all : AllPlain (first ∷ others) = and_from (list_all (is_of Line) first) (list_all (list_all (is_of Line)) others) front_plain.0 front_plain.1 in
        ap (λ (t : List ℕ). with_marks no_marks (pieces_of 32 t)) line_is
        ∙ ap (with_marks no_marks) (words_pieces first (others ++ answer ∷ words) line_apart)
        ∙ answer_marked no_marks (first ∷ others) answer words plain_all equals
