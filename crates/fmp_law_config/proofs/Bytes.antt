-- What one byte does to the reader of tokens.
use Rattle.std.proofs.Common.{◌≡◌, ℕ, true, false, ◌&&◌, not, eqb, inl, inr, List, ◌∷◌, refl, ◌∙◌, arith}
use Rattle.std.specs.Char.{is_ascii_graphic}
use Rattle.std.proofs.lemmas.Bool.{cases_Bool, and_parts, or_parts, not-true, false≢true}
use Rattle.std.proofs.lemmas.Bool.Decides.{nat_tests}
use Rattle.fmp_bytes.specs.declared.classes.Class.TheVariants.{Space, Word, Letter, Digit as DigitClass}
use Rattle.fmp_bytes.specs.Bytes.{is_of}
use Rattle.fmp_bytes.proofs.Included.{word-letter}
use Rattle.fmp_config_statements.specs.declared.tokens.TokenKind.{TokenKind}
use Rattle.fmp_config_statements.specs.declared.tokens.TokenKind.TheVariants as kinds
use Rattle.fmp_config_statements.specs.declared.tokens.End.{End}
use Rattle.fmp_config_statements.specs.declared.modes.Place.{Place}
use Rattle.fmp_config_statements.specs.declared.modes.Place.TheVariants as places
use Rattle.fmp_config_statements.specs.declared.modes.Mode.{Mode}
use Rattle.fmp_config_statements.specs.declared.modes.Mode.TheVariants as modes
use Rattle.fmp_config_statements.specs.declared.modes.Step.TheVariants.{Pass, Give, Stop}
use Rattle.fmp_config_statements.specs.Steps.{is_next, following, at_line_end, single_in_code, single, begun, in_gap, step_of, line_after}
use Rattle.fmp_config_statements.specs.Lexing.{with_lexeme, ended, text_of, lexed}
use Rattle.fmp_law_config.specs.Parts.{Blank, Symbol, is_directive, opens_comment, stands_alone, may_stand}
use Rattle.fmp_law_config.specs.Tokens.{place_after}

-- ---- a step, and what is read

module _ (mode : Mode) (line b : ℕ) (bytes : List ℕ) where
  pub passes : (next : Mode) → step_of mode line b bytes ≡ Pass next → lexed mode line (b ∷ bytes) ≡ lexed next (line_after line b) bytes
  unfolding lexed
  passes next e = rw e refl

  pub gives : (kind : TokenKind) (at : ℕ) (next : Mode) → step_of mode line b bytes ≡ Give kind at next
      → lexed mode line (b ∷ bytes) ≡ with_lexeme (record { kind = kind; text = text_of kind (b ∷ bytes); line = at }) (lexed next (line_after line b) bytes)
  unfolding lexed
  gives kind at next e = rw e refl

  pub stops : (end : End) → step_of mode line b bytes ≡ Stop end → lexed mode line (b ∷ bytes) ≡ ended end
  unfolding lexed
  stops end e = rw e refl

-- ---- classes

pub no_space_no_feed : (b : ℕ) → is_of Space b ≡ false → eqb b 10 ≡ false
unfolding is_of
no_space_no_feed b space = grind (arith, nat_tests)

pub word_no_space : (b : ℕ) → is_of Word b ≡ true → is_of Space b ≡ false
unfolding is_of
word_no_space b word = grind (arith, nat_tests)

pub word_no_slash : (b : ℕ) → is_of Word b ≡ true → eqb b 47 ≡ false
unfolding is_of
word_no_slash b word = grind (arith, nat_tests)

pub digit_is_word : (b : ℕ) → is_of DigitClass b ≡ true → is_of Word b ≡ true
unfolding is_of
digit_is_word b digit = grind (arith, nat_tests)

pub digit_no_letter : (b : ℕ) → is_of DigitClass b ≡ true → is_of Letter b ≡ false
unfolding is_of
digit_no_letter b digit = grind (arith, nat_tests)

pub word_no_letter : (b : ℕ) → is_of Word b ≡ false → is_of Letter b ≡ false
unfolding is_of
word_no_letter b word = grind (arith, nat_tests)

pub word_no_digit : (b : ℕ) → is_of Word b ≡ false → is_of DigitClass b ≡ false
unfolding is_of
word_no_digit b word = grind (arith, nat_tests)

pub word_is_digit : (b : ℕ) → is_of Word b ≡ true → is_of Letter b ≡ false → is_of DigitClass b ≡ true
unfolding is_of
word_is_digit b word letter = grind (arith, nat_tests)

pub graphic_no_space : (b : ℕ) → is_ascii_graphic b ≡ true → is_of Space b ≡ false
unfolding is_of
graphic_no_space b graphic = grind (arith, nat_tests)

-- ---- a byte in a gap

pub begun_in_gap : (place : Place) (line b : ℕ) (rest : List ℕ) → is_of Space b ≡ false → opens_comment b rest ≡ false → in_gap place line b rest ≡ begun place line b rest
unfolding in_gap
begun_in_gap place line b rest space opens =
    let feed = no_space_no_feed b space in
    elim (cases_Bool (eqb b 47)) [
      | inl slash ↦
          let parts = or_parts (is_next 47 rest) (is_next 42 rest) (rw slash at opens) in
          rw (feed, space, slash, parts.0, parts.1) refl
      | inr other ↦ rw (feed, space, other) refl
    ]

pub blank_in_gap : (place : Place) (line b : ℕ) (rest : List ℕ) → may_stand place (Blank b) rest ≡ true → in_gap place line b rest ≡ Pass (modes.Gap (place_after place (Blank b)))
unfolding in_gap at_line_end
blank_in_gap place line b rest may =
    let parts = and_parts (is_of Space b) _ may in
    elim (cases_Bool (eqb b 10)) [
      | inl feed ↦ elim place as (λ p. not (is_directive p && eqb b 10) ≡ true → in_gap p line b rest ≡ Pass (modes.Gap (place_after p (Blank b)))) [
        | places.LineStart ↦ λ h. rw feed refl
        | places.Code ↦ λ h. rw feed refl
        | places.Directive ↦ λ h. let no = rw feed at h in absurd (false≢true no)
      ] parts.1
      | inr other ↦ rw (other, parts.0) refl
    ]

pub identifier_in_gap : (place : Place) (line b : ℕ) (rest : List ℕ) → is_of Letter b ≡ true → in_gap place line b rest ≡ Give kinds.Identifier line (modes.Word (following place))
unfolding begun
identifier_in_gap place line b rest letter =
    let word = word-letter b letter in
    let slash = word_no_slash b word in
    let opens : opens_comment b rest ≡ false = rw slash refl in
    begun_in_gap place line b rest (word_no_space b word) opens ∙ rw letter refl

pub digits_in_gap : (place : Place) (line b : ℕ) (rest : List ℕ) → is_of DigitClass b ≡ true → in_gap place line b rest ≡ Give kinds.Digits line (modes.Word (following place))
unfolding begun
digits_in_gap place line b rest digit =
    let word = digit_is_word b digit in
    let slash = word_no_slash b word in
    let opens : opens_comment b rest ≡ false = rw slash refl in
    begun_in_gap place line b rest (word_no_space b word) opens ∙ rw (digit_no_letter b digit, digit) refl

-- a byte of no word that stands alone
single_alone : (place : Place) (line b : ℕ) (rest : List ℕ) → stands_alone place b rest ≡ true → single place line b rest ≡ Give kinds.Symbol line (modes.Gap (following place))
unfolding single single_in_code
single_alone places.LineStart line b rest alone =
    let parts = and_parts (is_ascii_graphic b) _ alone in
    let marks = or_parts (eqb b 34) (eqb b 35) (not-true _ parts.1) in
    rw (marks.1, marks.0, parts.0) refl
single_alone places.Code line b rest alone =
    let parts = and_parts (is_ascii_graphic b) _ alone in
    let quote = not-true (eqb b 34) parts.1 in
    rw (quote, parts.0) refl
single_alone places.Directive line b rest alone =
    let parts = or_parts (is_of Space b) (eqb b 92 && is_next 10 rest) (not-true _ alone) in
    rw parts.1 refl

alone_no_space : (place : Place) (b : ℕ) (rest : List ℕ) → stands_alone place b rest ≡ true → is_of Space b ≡ false
alone_no_space places.LineStart b rest alone = graphic_no_space b (and_parts (is_ascii_graphic b) _ alone).0
alone_no_space places.Code b rest alone = graphic_no_space b (and_parts (is_ascii_graphic b) _ alone).0
alone_no_space places.Directive b rest alone = (or_parts (is_of Space b) (eqb b 92 && is_next 10 rest) (not-true _ alone)).0

pub symbol_in_gap : (place : Place) (line b : ℕ) (rest : List ℕ) → may_stand place (Symbol b) rest ≡ true → in_gap place line b rest ≡ Give kinds.Symbol line (modes.Gap (following place))
unfolding begun
symbol_in_gap place line b rest may =
    let parts = and_parts (stands_alone place b rest) _ may in
    let others = or_parts (is_of Word b) (opens_comment b rest) (not-true _ parts.1) in
    let space = alone_no_space place b rest parts.0 in
    begun_in_gap place line b rest space others.1 ∙ rw (word_no_letter b others.0, word_no_digit b others.0) (single_alone place line b rest parts.0)
