-- The tokens that are read are spelled.
use Rattle.std.proofs.Common.{◌≡◌, ℕ, Bool, true, false, ◌&&◌, not, eqb, inl, inr, List, [], ◌∷◌, ◌++◌, map, refl, sym, ap, subst, ◌∙◌}
use Rattle.std.proofs.lemmas.Bool.{cases_Bool, and_from, or_parts, not_from_false, eqb-true}
use Rattle.std.proofs.Math.Numerals.{one-add}
use Rattle.fmp_bytes.specs.declared.classes.Class.TheVariants.{Word}
use Rattle.fmp_bytes.specs.Bytes.{is_of, after}
use Rattle.fmp_config_statements.specs.declared.tokens.TokenKind.TheVariants as kinds
use Rattle.fmp_config_statements.specs.declared.tokens.End.TheVariants.{Done}
use Rattle.fmp_config_statements.specs.declared.modes.Place.{Place}
use Rattle.fmp_config_statements.specs.declared.modes.Place.TheVariants as places
use Rattle.fmp_config_statements.specs.declared.modes.Mode.TheVariants as modes
use Rattle.fmp_config_statements.specs.Steps.{is_next, in_line_comment, step_of, line_after}
use Rattle.fmp_config_statements.specs.Lexing.{text_of, lexed, lexed_text}
use Rattle.fmp_law_config.specs.Parts.{ends_comment}
use Rattle.fmp_law_config.specs.Tokens.{Glyph, glyph_of, SpellsTokens}
use Rattle.fmp_law_config.proofs.Bytes.{passes, gives}
use Rattle.fmp_law_config.proofs.Passing.{comment_as_gap, word_as_gap, goes_on_is}
use Rattle.fmp_law_config.proofs.Left.{glyphs_in, GapLeft, StringLeft, LineLeft, BlockLeft, OpeningLeft, JoinedLeft, IsLeft, ends_left}
use Rattle.fmp_law_config.proofs.Gaps.{gap_left}

-- ---- one more byte of a string or a comment

byte_in_string : (b : ℕ) (text : List ℕ) (glyphs : List Glyph) (escaped : Bool) → (not escaped && eqb b 34) ≡ false → StringLeft (not escaped && eqb b 92) text glyphs → StringLeft escaped (b ∷ text) glyphs
byte_in_string b text glyphs true no_quote left = record {
  inner = b ∷ left.inner;
  rest = left.rest;
  others = left.others;
  parts = ap (λ (r : List ℕ). b ∷ r) left.parts;
  is = left.is;
  tokens = left.tokens;
  left = left.left;
}
byte_in_string b text glyphs false no_quote left = record {
  inner = b ∷ left.inner;
  rest = left.rest;
  others = left.others;
  parts = ap (λ (r : List ℕ). b ∷ r) left.parts;
  is = and_from (not (eqb b 34)) _ (not_from_false _ no_quote) left.is;
  tokens = left.tokens;
  left = left.left;
}

byte_in_line : (place : Place) (b : ℕ) (text : List ℕ) (glyphs : List Glyph) → ends_comment place (b ∷ text) ≡ false → LineLeft place text glyphs → LineLeft place (b ∷ text) glyphs
byte_in_line place b text glyphs runs left =
    let parts = left.parts in
    let same : ends_comment place (b ∷ (left.inner ++ left.rest)) ≡ false = subst (λ (t : List ℕ). ends_comment place (b ∷ t) ≡ false) parts runs in
    record {
      inner = b ∷ left.inner;
      rest = left.rest;
      parts = ap (λ (r : List ℕ). b ∷ r) parts;
      ends = and_from (not (ends_comment place (b ∷ (left.inner ++ left.rest)))) _ (not_from_false _ same) left.ends;
      left = left.left;
    }

byte_in_block : (place : Place) (b : ℕ) (text : List ℕ) (glyphs : List Glyph) → (left : BlockLeft place text glyphs) → (eqb b 42 && is_next 47 (left.inner ++ (42 ∷ []))) ≡ false → BlockLeft place (b ∷ text) glyphs
byte_in_block place b text glyphs left apart =
    let unclosed = left.unclosed in
    record { inner = b ∷ left.inner; rest = left.rest; parts = ap (λ (r : List ℕ). b ∷ r) left.parts; unclosed = rw (apart, unclosed) refl; left = left.left }

-- a comment whose rest does not begin with `/`
no_slash : (inner rest : List ℕ) (b : ℕ) (bytes : List ℕ) → (b ∷ bytes) ≡ (inner ++ (42 ∷ 47 ∷ [])) ++ rest → eqb b 47 ≡ false → is_next 47 (inner ++ (42 ∷ [])) ≡ false
no_slash [] rest b bytes parts other = refl
no_slash (c ∷ inner) rest b bytes parts other = let same : b ≡ c = cc in subst (λ (x : ℕ). eqb x 47 ≡ false) same other

after_more : (b : ℕ) (bytes : List ℕ) → is_of Word b ≡ true → after Word (b ∷ bytes) ≡ after Word bytes
after_more b bytes word = rw (word, one-add) refl

module _ (line b : ℕ) (bytes : List ℕ) (tail : IsLeft bytes) where
  word_left : (place : Place) → (lexed (modes.Word place) line (b ∷ bytes)).end ≡ Done → GapLeft place (after Word (b ∷ bytes)) (glyphs_in (modes.Word place) line (b ∷ bytes))
  unfolding step_of
  word_left place done =
      elim (cases_Bool (is_of Word b)) [
        | inl word ↦
            let e = passes (modes.Word place) line b bytes (modes.Word place) (rw word refl) in
            rw (e, after_more b bytes word) (tail _ _ (rw e at done))
        | inr ends ↦
            let e = word_as_gap place line (b ∷ bytes) ends in
            let same : after Word (b ∷ bytes) ≡ b ∷ bytes = rw ends refl in
            rw (e, same) (gap_left place line b bytes tail (rw e at done))
      ]

  string_left : (began : ℕ) → (lexed (modes.Quoted began) line (b ∷ bytes)).end ≡ Done → StringLeft false (b ∷ bytes) (glyphs_in (modes.Quoted began) line (b ∷ bytes))
  unfolding step_of text_of
  string_left began done =
      elim (cases_Bool (eqb b 34)) [
        | inl quote ↦
            let is = eqb-true b 34 quote in
            let e = gives (modes.Quoted began) line b bytes kinds.Text began (modes.Gap places.Code) (rw quote refl) in
            rw e (record { inner = []; rest = bytes; others = glyphs_in (modes.Gap places.Code) (line_after line b) bytes; parts = ap (λ (x : ℕ). x ∷ bytes) is; is = refl; tokens = refl; left = tail _ _ (rw e at done) })
        | inr no_quote ↦ elim (cases_Bool (eqb b 92)) [
          | inl back ↦
              let e = passes (modes.Quoted began) line b bytes (modes.Escaped began) (rw (no_quote, back) refl) in
              rw e (byte_in_string b bytes _ false no_quote (rw back (tail _ _ (rw e at done))))
          | inr other ↦
              let e = passes (modes.Quoted began) line b bytes (modes.Quoted began) (rw (no_quote, other) refl) in
              rw e (byte_in_string b bytes _ false no_quote (rw other (tail _ _ (rw e at done))))
        ]
      ]

  escaped_left : (began : ℕ) → (lexed (modes.Escaped began) line (b ∷ bytes)).end ≡ Done → StringLeft true (b ∷ bytes) (glyphs_in (modes.Escaped began) line (b ∷ bytes))
  unfolding step_of
  escaped_left began done =
      let e = passes (modes.Escaped began) line b bytes (modes.Quoted began) refl in
      rw e (byte_in_string b bytes _ true refl (tail _ _ (rw e at done)))

  line_left : (place : Place) → (lexed (modes.LineComment place) line (b ∷ bytes)).end ≡ Done → LineLeft place (b ∷ bytes) (glyphs_in (modes.LineComment place) line (b ∷ bytes))
  unfolding step_of in_line_comment
  line_left place done =
      elim (cases_Bool (ends_comment place (b ∷ bytes))) [
        | inl ends ↦
            let e = comment_as_gap place line (b ∷ bytes) ends in
            rw e (record { inner = []; rest = b ∷ bytes; parts = refl; ends = ends; left = gap_left place line b bytes tail (rw e at done) })
        | inr runs ↦
            let parts = or_parts (eqb b 10) _ runs in
            let on = goes_on_is place b bytes ∙ parts.1 in
            let e = passes (modes.LineComment place) line b bytes (modes.LineComment place) (rw (parts.0, on) refl) in
            rw e (byte_in_line place b bytes _ runs (tail _ _ (rw e at done)))
      ]

  opening_left : (place : Place) (began : ℕ) → (lexed (modes.Opening place began) line (b ∷ bytes)).end ≡ Done → eqb b 42 ≡ true → OpeningLeft place (b ∷ bytes) (glyphs_in (modes.Opening place began) line (b ∷ bytes))
  unfolding step_of
  opening_left place began done next =
      let e = passes (modes.Opening place began) line b bytes (modes.Block place began) refl in
      let is = eqb-true b 42 next in
      rw e (record { rest = bytes; parts = ap (λ (x : ℕ). x ∷ bytes) is; left = tail _ _ (rw e at done) })

  block_left : (place : Place) (began : ℕ) → (lexed (modes.Block place began) line (b ∷ bytes)).end ≡ Done → BlockLeft place (b ∷ bytes) (glyphs_in (modes.Block place began) line (b ∷ bytes))
  unfolding step_of
  block_left place began done =
      elim (cases_Bool (eqb b 42)) [
        | inl star ↦
            let is = sym (eqb-true b 42 star) in
            let e = passes (modes.Block place began) line b bytes (modes.Star place began) (rw star refl) in
            rw e (subst (λ (x : ℕ). BlockLeft place (x ∷ bytes) (glyphs_in (modes.Star place began) (line_after line b) bytes)) is (tail _ _ (rw e at done)))
        | inr other ↦
            let e = passes (modes.Block place began) line b bytes (modes.Block place began) (rw other refl) in
            rw e (byte_in_block place b bytes _ (tail _ _ (rw e at done)) (rw other refl))
      ]

  star_as_block : (place : Place) (began : ℕ) → eqb b 47 ≡ false → lexed (modes.Star place began) line (b ∷ bytes) ≡ lexed (modes.Block place began) line (b ∷ bytes)
  unfolding lexed step_of
  star_as_block place began other = rw other refl

  star_left : (place : Place) (began : ℕ) → (lexed (modes.Star place began) line (b ∷ bytes)).end ≡ Done → BlockLeft place (42 ∷ b ∷ bytes) (glyphs_in (modes.Star place began) line (b ∷ bytes))
  unfolding step_of
  star_left place began done =
      elim (cases_Bool (eqb b 47)) [
        | inl slash ↦
            let is = eqb-true b 47 slash in
            let e = passes (modes.Star place began) line b bytes (modes.Gap place) (rw slash refl) in
            rw e (record { inner = []; rest = bytes; parts = ap (λ (x : ℕ). 42 ∷ x ∷ bytes) is; unclosed = refl; left = tail _ _ (rw e at done) })
        | inr other ↦
            let e = star_as_block place began other in
            let left = block_left place began (rw e at done) in
            rw e (byte_in_block place 42 (b ∷ bytes) _ left (no_slash left.inner left.rest b bytes left.parts other))
      ]

  joined_left : (lexed modes.Continued line (b ∷ bytes)).end ≡ Done → eqb b 10 ≡ true → JoinedLeft (b ∷ bytes) (glyphs_in modes.Continued line (b ∷ bytes))
  unfolding step_of
  joined_left done next =
      let e = passes modes.Continued line b bytes (modes.Gap places.Directive) refl in
      let is = eqb-true b 10 next in
      rw e (record { rest = bytes; parts = ap (λ (x : ℕ). x ∷ bytes) is; left = tail _ _ (rw e at done) })

text_left : (text : List ℕ) → IsLeft text
text_left [] mode line done = ends_left mode line done
text_left (b ∷ bytes) (modes.Gap place) line done = gap_left place line b bytes (text_left bytes) done
text_left (b ∷ bytes) (modes.Word place) line done = word_left line b bytes (text_left bytes) place done
text_left (b ∷ bytes) (modes.Quoted began) line done = string_left line b bytes (text_left bytes) began done
text_left (b ∷ bytes) (modes.Escaped began) line done = escaped_left line b bytes (text_left bytes) began done
text_left (b ∷ bytes) (modes.LineComment place) line done = line_left line b bytes (text_left bytes) place done
text_left (b ∷ bytes) (modes.Opening place began) line done = opening_left line b bytes (text_left bytes) place began done
text_left (b ∷ bytes) (modes.Block place began) line done = block_left line b bytes (text_left bytes) place began done
text_left (b ∷ bytes) (modes.Star place began) line done = star_left line b bytes (text_left bytes) place began done
text_left (b ∷ bytes) modes.Continued line done = joined_left line b bytes (text_left bytes) done

pub tokens_are_spelled : (text : List ℕ) → (lexed_text text).end ≡ Done → SpellsTokens (map glyph_of (lexed_text text).lexemes) text
unfolding lexed_text
tokens_are_spelled text done = let left = text_left text (modes.Gap places.LineStart) 1 done in record { parts = left.parts; spelled = left.spelled; tokens = left.tokens }
