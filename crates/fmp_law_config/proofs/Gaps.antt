-- What is read from a gap on is spelled.
use Rattle.std.proofs.Common.{◌≡◌, ℕ, Bool, true, false, ◌&&◌, not, cond, eqb, inl, inr, List, [], ◌∷◌, ◌++◌, refl, sym, ap, subst, ◌∙◌, arith}
use Rattle.std.specs.Char.{is_ascii_graphic}
use Rattle.std.specs.List.{list_all, prefix_len}
use Rattle.std.proofs.lemmas.Bool.{cases_Bool, and_parts, and_from, or_cases, or_from, not-false, not_from_false, eqb-true, false≢true}
use Rattle.std.proofs.lemmas.List.Sums.{take_while-cons}
use Rattle.fmp_bytes.specs.declared.classes.Class.TheVariants.{Space, Word, Letter}
use Rattle.fmp_bytes.specs.declared.classes.Class.TheVariants as class
use Rattle.fmp_bytes.specs.Bytes.{is_of, prefix, after}
use Rattle.fmp_bytes.proofs.Prefixes.{prefix-after, after-stops, list_all-take_while}
use Rattle.fmp_bytes.proofs.Included.{word-letter}
use Rattle.fmp_config_statements.specs.declared.tokens.TokenKind.{TokenKind}
use Rattle.fmp_config_statements.specs.declared.tokens.TokenKind.TheVariants as kinds
use Rattle.fmp_config_statements.specs.declared.tokens.End.TheVariants.{Done, Bad}
use Rattle.fmp_config_statements.specs.declared.modes.Place.{Place}
use Rattle.fmp_config_statements.specs.declared.modes.Place.TheVariants as places
use Rattle.fmp_config_statements.specs.declared.modes.Mode.TheVariants as modes
use Rattle.fmp_config_statements.specs.declared.modes.Step.TheVariants.{Pass, Give, Stop}
use Rattle.fmp_config_statements.specs.Steps.{is_next, at_line_end, single_in_code, single, begun, in_gap, step_of, line_after}
use Rattle.fmp_config_statements.specs.Lexing.{text_of, lexed}
use Rattle.fmp_law_config.specs.Parts.{Blank, BlockComment, LineComment, JoinedLine, Identifier, Digits, Symbol, Quoted, Hash, LineEnd, is_directive, begins_with, ends_comment, ends_after, opens_comment, stands_alone, may_stand}
use Rattle.fmp_law_config.specs.Tokens.{Glyph}
use Rattle.fmp_law_config.proofs.Bytes.{passes, gives, stops, word_no_letter, word_no_digit, word_is_digit, digit_is_word, begun_in_gap, blank_in_gap, identifier_in_gap, digits_in_gap, symbol_in_gap}
use Rattle.fmp_law_config.proofs.Left.{glyphs_in, GapLeft, IsLeft, part_before}

-- ---- words

pub prefix_more : (b : ℕ) (bytes : List ℕ) → is_of Word b ≡ true → prefix Word (b ∷ bytes) ≡ b ∷ prefix Word bytes
prefix_more b bytes word = take_while-cons (is_of Word) b bytes ∙ ap (λ (t : Bool). cond t (b ∷ prefix Word bytes) []) word

word_stops : (text : List ℕ) → prefix_len (is_of Word) text ≡ 0 → begins_with Word text ≡ false
word_stops [] none = refl
word_stops (b ∷ bytes) none =
    elim (cases_Bool (is_of Word b)) [
      | inl t ↦ let one = rw t at none in absurd (omega (arith, one))
      | inr f ↦ f
    ]

-- ---- comments

-- a comment `// ..` does not end before its second `/`
slash_runs : (place : Place) (bytes : List ℕ) → is_next 47 bytes ≡ true → ends_comment place bytes ≡ false
slash_runs place [] next = absurd (false≢true next)
slash_runs places.LineStart (b ∷ bytes) next = let is = eqb-true b 47 next in rw is refl
slash_runs places.Code (b ∷ bytes) next = let is = eqb-true b 47 next in rw is refl
slash_runs places.Directive (b ∷ bytes) next = let is = eqb-true b 47 next in rw is refl

comment_left : (place : Place) (bytes : List ℕ) (glyphs : List Glyph) (inner rest : List ℕ) → bytes ≡ inner ++ rest → ends_after place inner rest ≡ true → GapLeft place rest glyphs → is_next 47 bytes ≡ true
    → GapLeft place (47 ∷ bytes) glyphs
comment_left place bytes glyphs [] rest parts ends left next = absurd (false≢true (sym (slash_runs place bytes next) ∙ ap (ends_comment place) parts ∙ ends))
comment_left place bytes glyphs (c ∷ inner) rest parts ends left next =
    let is = eqb-true c 47 (rw parts at next) in
    let following = and_parts (not (ends_comment place (c ∷ (inner ++ rest)))) _ ends in
    rw (parts, is) (part_before place (LineComment inner) rest glyphs following.1 left)

at_byte : (place : Place) (b c : ℕ) (bytes : List ℕ) (glyphs : List Glyph) → b ≡ c → GapLeft place (c ∷ bytes) glyphs → GapLeft place (b ∷ bytes) glyphs
at_byte place b c bytes glyphs is left = subst (λ (x : ℕ). GapLeft place (x ∷ bytes) glyphs) (sym is) left

slashes_in_gap : (place : Place) (line : ℕ) (bytes : List ℕ) → is_next 47 bytes ≡ true → in_gap place line 47 bytes ≡ Pass (modes.LineComment place)
unfolding in_gap is_of
slashes_in_gap place line bytes next = rw next refl

star_no_slash : (bytes : List ℕ) → is_next 42 bytes ≡ true → is_next 47 bytes ≡ false
star_no_slash [] next = refl
star_no_slash (b ∷ bytes) next = let is = eqb-true b 42 next in rw is refl

opening_in_gap : (place : Place) (line : ℕ) (bytes : List ℕ) → is_next 42 bytes ≡ true → in_gap place line 47 bytes ≡ Pass (modes.Opening place line)
unfolding in_gap is_of
opening_in_gap place line bytes next = rw (star_no_slash bytes next, next) refl

-- ---- bytes that are no tokens by themselves

single_in_gap : (place : Place) (line b : ℕ) (bytes : List ℕ) → is_of Space b ≡ false → opens_comment b bytes ≡ false → is_of Word b ≡ false → in_gap place line b bytes ≡ single place line b bytes
unfolding begun
single_in_gap place line b bytes space opens word = begun_in_gap place line b bytes space opens ∙ rw (word_no_letter b word, word_no_digit b word) refl

no_graphic : (graphic : Bool) → (graphic && true) ≡ false → graphic ≡ false
no_graphic true e = e
no_graphic false e = refl

module _ (line b : ℕ) (bytes : List ℕ) (tail : IsLeft bytes) where
  quote_left : (place : Place) → is_directive place ≡ false → b ≡ 34 → in_gap place line b bytes ≡ Pass (modes.Quoted line) → (lexed (modes.Gap place) line (b ∷ bytes)).end ≡ Done
      → GapLeft place (b ∷ bytes) (glyphs_in (modes.Gap place) line (b ∷ bytes))
  unfolding step_of
  quote_left place outside is step done =
      let e = passes (modes.Gap place) line b bytes _ step in
      let string = tail (modes.Quoted line) (line_after line b) (rw e at done) in
      let may = and_from (not (is_directive place)) _ (not_from_false _ outside) string.is in
      let here = part_before place (Quoted string.inner) string.rest string.others may string.left in
      let tokens = sym string.tokens in
      let parts = sym string.parts in
      rw e (subst (λ (gs : List Glyph). GapLeft place (b ∷ bytes) gs) tokens (at_byte place b 34 bytes _ is (subst (λ (t : List ℕ). GapLeft place (34 ∷ t) (record { kind = kinds.Text; text = [] } ∷ string.others)) parts here)))

  bad_left : (place : Place) → in_gap place line b bytes ≡ Stop (Bad line) → (lexed (modes.Gap place) line (b ∷ bytes)).end ≡ Done → GapLeft place (b ∷ bytes) (glyphs_in (modes.Gap place) line (b ∷ bytes))
  unfolding step_of
  bad_left place step done =
      let e = stops (modes.Gap place) line b bytes _ step in
      let bad = rw e at done in
      absurd cc

  -- outside directives a byte that is no token begins a string
  code_left : (place : Place) → is_directive place ≡ false → in_gap place line b bytes ≡ single_in_code line b → (eqb b 34 ≡ false → is_ascii_graphic b ≡ false) → (lexed (modes.Gap place) line (b ∷ bytes)).end ≡ Done
      → GapLeft place (b ∷ bytes) (glyphs_in (modes.Gap place) line (b ∷ bytes))
  unfolding single_in_code
  code_left place outside step graphic done =
      elim (cases_Bool (eqb b 34)) [
        | inl quote ↦ quote_left place outside (eqb-true b 34 quote) (step ∙ rw quote refl) done
        | inr other ↦ bad_left place (step ∙ rw (other, graphic other) refl) done
      ]

  hash_left : b ≡ 35 → in_gap places.LineStart line b bytes ≡ Give kinds.Directive line (modes.Gap places.Directive) → (lexed (modes.Gap places.LineStart) line (b ∷ bytes)).end ≡ Done
      → GapLeft places.LineStart (b ∷ bytes) (glyphs_in (modes.Gap places.LineStart) line (b ∷ bytes))
  unfolding step_of text_of
  hash_left is step done =
      let e = gives (modes.Gap places.LineStart) line b bytes kinds.Directive line _ step in
      rw e (at_byte places.LineStart b 35 bytes _ is (part_before places.LineStart Hash bytes _ refl (tail _ _ (rw e at done))))

  joined_left : b ≡ 92 → is_next 10 bytes ≡ true → in_gap places.Directive line b bytes ≡ Pass modes.Continued → (lexed (modes.Gap places.Directive) line (b ∷ bytes)).end ≡ Done
      → GapLeft places.Directive (b ∷ bytes) (glyphs_in (modes.Gap places.Directive) line (b ∷ bytes))
  unfolding step_of
  joined_left is next step done =
      let e = passes (modes.Gap places.Directive) line b bytes _ step in
      let joined = tail modes.Continued (line_after line b) (rw e at done) next in
      let here = part_before places.Directive JoinedLine joined.rest _ refl joined.left in
      let parts = sym joined.parts in
      rw e (at_byte places.Directive b 92 bytes _ is (subst (λ (t : List ℕ). GapLeft places.Directive (92 ∷ t) (glyphs_in modes.Continued (line_after line b) bytes)) parts here))

  mark_left : (place : Place) → is_of Space b ≡ false → opens_comment b bytes ≡ false → is_of Word b ≡ false → stands_alone place b bytes ≡ false → (lexed (modes.Gap place) line (b ∷ bytes)).end ≡ Done
      → GapLeft place (b ∷ bytes) (glyphs_in (modes.Gap place) line (b ∷ bytes))
  unfolding single
  mark_left places.LineStart space opens word alone done =
      let step = single_in_gap places.LineStart line b bytes space opens word in
      elim (cases_Bool (eqb b 35)) [
        | inl hash ↦ hash_left (eqb-true b 35 hash) (step ∙ rw hash refl) done
        | inr other ↦ code_left places.LineStart refl (step ∙ rw other refl) (λ quote. no_graphic (is_ascii_graphic b) (rw (quote, other) at alone)) done
      ]
  mark_left places.Code space opens word alone done =
      code_left places.Code refl (single_in_gap places.Code line b bytes space opens word) (λ quote. no_graphic (is_ascii_graphic b) (rw quote at alone)) done
  mark_left places.Directive space opens word alone done =
      let joins : (eqb b 92 && is_next 10 bytes) ≡ true = not-false _ (rw space at alone) in
      let parts = and_parts (eqb b 92) _ joins in
      joined_left (eqb-true b 92 parts.0) parts.1 (single_in_gap places.Directive line b bytes space opens word ∙ rw joins refl) done

  -- in a directive a line feed is no blank
  feed_left : (place : Place) → is_of Space b ≡ true → may_stand place (Blank b) bytes ≡ false → (lexed (modes.Gap place) line (b ∷ bytes)).end ≡ Done → GapLeft place (b ∷ bytes) (glyphs_in (modes.Gap place) line (b ∷ bytes))
  unfolding step_of text_of in_gap at_line_end
  feed_left places.LineStart space may done = absurd (false≢true (sym (rw space at may)))
  feed_left places.Code space may done = absurd (false≢true (sym (rw space at may)))
  feed_left places.Directive space may done =
      let feed = not-false (eqb b 10) (rw space at may) in
      let step : in_gap places.Directive line b bytes ≡ Give kinds.DirectiveEnd line (modes.Gap places.LineStart) = rw feed refl in
      let e = gives (modes.Gap places.Directive) line b bytes kinds.DirectiveEnd line _ step in
      rw e (at_byte places.Directive b 10 bytes _ (eqb-true b 10 feed) (part_before places.Directive LineEnd bytes _ refl (tail _ _ (rw e at done))))

-- a word is whole, and what follows it
whole_word : (place : Place) (kind : TokenKind) (b : ℕ) (bytes : List ℕ) (glyphs : List Glyph) → is_of Word b ≡ true
    → GapLeft place (b ∷ (prefix Word bytes ++ after Word bytes)) (record { kind = kind; text = b ∷ prefix Word bytes } ∷ glyphs) → GapLeft place (b ∷ bytes) (record { kind = kind; text = prefix Word (b ∷ bytes) } ∷ glyphs)
whole_word place kind b bytes glyphs word left =
    let more = sym (prefix_more b bytes word) in
    let joined = subst (λ (t : List ℕ). GapLeft place (b ∷ t) (record { kind = kind; text = b ∷ prefix Word bytes } ∷ glyphs)) (prefix-after Word bytes) left in
    subst (λ (w : List ℕ). GapLeft place (b ∷ bytes) (record { kind = kind; text = w } ∷ glyphs)) more joined

-- ---- any byte

module _ (place : Place) (line b : ℕ) (bytes : List ℕ) (tail : IsLeft bytes) (done : (lexed (modes.Gap place) line (b ∷ bytes)).end ≡ Done) where
  blank_left : may_stand place (Blank b) bytes ≡ true → GapLeft place (b ∷ bytes) (glyphs_in (modes.Gap place) line (b ∷ bytes))
  unfolding step_of
  blank_left may =
      let e = passes (modes.Gap place) line b bytes _ (blank_in_gap place line b bytes may) in
      rw e (part_before place (Blank b) bytes _ may (tail _ _ (rw e at done)))

  symbol_left : may_stand place (Symbol b) bytes ≡ true → GapLeft place (b ∷ bytes) (glyphs_in (modes.Gap place) line (b ∷ bytes))
  unfolding step_of text_of
  symbol_left may =
      let e = gives (modes.Gap place) line b bytes kinds.Symbol line _ (symbol_in_gap place line b bytes may) in
      rw e (part_before place (Symbol b) bytes _ may (tail _ _ (rw e at done)))

  identifier_left : is_of Letter b ≡ true → GapLeft place (b ∷ bytes) (glyphs_in (modes.Gap place) line (b ∷ bytes))
  unfolding step_of text_of
  identifier_left letter =
      let e = gives (modes.Gap place) line b bytes kinds.Identifier line _ (identifier_in_gap place line b bytes letter) in
      let word = list_all-take_while (is_of Word) bytes in
      let may = and_from (is_of Letter b && list_all (is_of Word) (prefix Word bytes)) _ (and_from (is_of Letter b) _ letter word) (not_from_false _ (word_stops (after Word bytes) (after-stops Word bytes))) in
      let here = part_before place (Identifier (b ∷ prefix Word bytes)) (after Word bytes) _ may (tail _ _ (rw e at done)) in
      rw e (whole_word place kinds.Identifier b bytes _ (word-letter b letter) here)

  digits_left : is_of class.Digit b ≡ true → GapLeft place (b ∷ bytes) (glyphs_in (modes.Gap place) line (b ∷ bytes))
  unfolding step_of text_of
  digits_left digit =
      let e = gives (modes.Gap place) line b bytes kinds.Digits line _ (digits_in_gap place line b bytes digit) in
      let word = list_all-take_while (is_of Word) bytes in
      let may = and_from (is_of class.Digit b && list_all (is_of Word) (prefix Word bytes)) _ (and_from (is_of class.Digit b) _ digit word) (not_from_false _ (word_stops (after Word bytes) (after-stops Word bytes))) in
      let here = part_before place (Digits (b ∷ prefix Word bytes)) (after Word bytes) _ may (tail _ _ (rw e at done)) in
      rw e (whole_word place kinds.Digits b bytes _ (digit_is_word b digit) here)

  word_left : is_of Word b ≡ true → GapLeft place (b ∷ bytes) (glyphs_in (modes.Gap place) line (b ∷ bytes))
  word_left word =
      elim (cases_Bool (is_of Letter b)) [
        | inl letter ↦ identifier_left letter
        | inr other ↦ digits_left (word_is_digit b word other)
      ]

  slashes_left : b ≡ 47 → is_next 47 bytes ≡ true → GapLeft place (b ∷ bytes) (glyphs_in (modes.Gap place) line (b ∷ bytes))
  unfolding step_of
  slashes_left is next =
      let step : in_gap place line b bytes ≡ Pass (modes.LineComment place) = rw is (slashes_in_gap place line bytes next) in
      let e = passes (modes.Gap place) line b bytes _ step in
      let comment = tail (modes.LineComment place) (line_after line b) (rw e at done) in
      rw e (at_byte place b 47 bytes _ is (comment_left place bytes _ comment.inner comment.rest comment.parts comment.ends comment.left next))

  block_left : b ≡ 47 → is_next 42 bytes ≡ true → GapLeft place (b ∷ bytes) (glyphs_in (modes.Gap place) line (b ∷ bytes))
  unfolding step_of
  block_left is next =
      let step : in_gap place line b bytes ≡ Pass (modes.Opening place line) = rw is (opening_in_gap place line bytes next) in
      let e = passes (modes.Gap place) line b bytes _ step in
      let opening = tail (modes.Opening place line) (line_after line b) (rw e at done) next in
      let comment = opening.left in
      let here = part_before place (BlockComment comment.inner) comment.rest _ (not_from_false _ comment.unclosed) comment.left in
      let parts = sym (opening.parts ∙ ap (λ (r : List ℕ). 42 ∷ r) comment.parts) in
      rw e (at_byte place b 47 bytes _ is (subst (λ (t : List ℕ). GapLeft place (47 ∷ t) (glyphs_in (modes.Opening place line) (line_after line b) bytes)) parts here))

  pub gap_left : GapLeft place (b ∷ bytes) (glyphs_in (modes.Gap place) line (b ∷ bytes))
  gap_left =
      elim (cases_Bool (is_of Space b)) [
        | inl space ↦ elim (cases_Bool (may_stand place (Blank b) bytes)) [
          | inl may ↦ blank_left may
          | inr feed ↦ feed_left line b bytes tail place space feed done
        ]
        | inr space ↦ elim (cases_Bool (opens_comment b bytes)) [
          | inl opens ↦
              let parts = and_parts (eqb b 47) _ opens in
              let is = eqb-true b 47 parts.0 in
              elim (or_cases (is_next 47 bytes) (is_next 42 bytes) parts.1) [
                | inl slash ↦ slashes_left is slash
                | inr star ↦ block_left is star
              ]
          | inr opens ↦ elim (cases_Bool (is_of Word b)) [
            | inl word ↦ word_left word
            | inr word ↦ elim (cases_Bool (stands_alone place b bytes)) [
              | inl alone ↦ symbol_left (and_from (stands_alone place b bytes) _ alone (not_from_false _ (or_from (is_of Word b) (opens_comment b bytes) word opens)))
              | inr alone ↦ mark_left line b bytes tail place space opens word alone done
            ]
          ]
        ]
      ]
