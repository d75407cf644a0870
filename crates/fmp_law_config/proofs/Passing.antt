-- What is spelled is read: comments, strings and words, whose bytes the reader passes one by one.
use Rattle.std.proofs.Common.{◌≡◌, ℕ, Bool, true, false, ◌&&◌, not, eqb, inl, inr, List, [], ◌∷◌, ◌++◌, map, refl, ◌∙◌}
use Rattle.std.specs.List.{list_all}
use Rattle.std.proofs.lemmas.Bool.{cases_Bool, and_parts, or_parts, or_cases, not-true, eqb-true, false≢true}
use Rattle.fmp_bytes.specs.declared.classes.Class.TheVariants.{Word}
use Rattle.fmp_bytes.specs.Bytes.{is_of}
use Rattle.fmp_config_statements.specs.declared.tokens.TokenKind.TheVariants as kinds
use Rattle.fmp_config_statements.specs.declared.tokens.End.TheVariants.{Done}
use Rattle.fmp_config_statements.specs.declared.modes.Place.{Place}
use Rattle.fmp_config_statements.specs.declared.modes.Place.TheVariants as places
use Rattle.fmp_config_statements.specs.declared.modes.Mode.{Mode}
use Rattle.fmp_config_statements.specs.declared.modes.Mode.TheVariants as modes
use Rattle.fmp_config_statements.specs.Steps.{is_next, goes_on, single, begun, in_gap, in_line_comment, step_of, line_after}
use Rattle.fmp_config_statements.specs.Lexing.{Lexeme, Lexed, with_lexeme, text_of, ended_in, lexed}
use Rattle.fmp_law_config.specs.Parts.{is_directive, begins_with, has_pair, ends_comment, ends_after, is_inner}
use Rattle.fmp_law_config.specs.Tokens.{Glyph, glyph_of}

-- a text was read to its end as these tokens
pub record ReadsTo (read : Lexed) (glyphs : List Glyph) : Type 0 where
  pub done : read.end ≡ Done
  pub same : map glyph_of read.lexemes ≡ glyphs

-- a text is read so after whole parts, whatever its line
abbrev pub Follows : Place → List ℕ → List Glyph → Type 0
Follows place rest glyphs = (line : ℕ) → ReadsTo (lexed (modes.Gap place) line rest) glyphs

pub one_read : (lexeme : Lexeme) (read : Lexed) (glyph : Glyph) (glyphs : List Glyph) → glyph_of lexeme ≡ glyph → ReadsTo read glyphs → ReadsTo (with_lexeme lexeme read) (glyph ∷ glyphs)
one_read lexeme read glyph glyphs e r = let same = r.same in record { done = r.done; same = rw (e, same) refl }

-- ---- comments

-- the rest of a comment after these bytes, and after a `*`
block_both : (place : Place) (began : ℕ) (rest : List ℕ) (glyphs : List Glyph) → Follows place rest glyphs → (inner : List ℕ) → has_pair 42 47 (inner ++ (42 ∷ [])) ≡ false
    → ((line : ℕ) → ReadsTo (lexed (modes.Block place began) line ((inner ++ (42 ∷ 47 ∷ [])) ++ rest)) glyphs)
    × (is_next 47 (inner ++ (42 ∷ [])) ≡ false → (line : ℕ) → ReadsTo (lexed (modes.Star place began) line ((inner ++ (42 ∷ 47 ∷ [])) ++ rest)) glyphs)
unfolding lexed step_of
block_both place began rest glyphs follows [] none = (λ line. follows line, λ other line. follows line)
block_both place began rest glyphs follows (b ∷ inner) none =
    let parts = or_parts (eqb b 42 && is_next 47 (inner ++ (42 ∷ []))) _ none in
    let both = block_both place began rest glyphs follows inner parts.1 in
    elim (cases_Bool (eqb b 42)) [
      | inl star ↦
          let next : is_next 47 (inner ++ (42 ∷ [])) ≡ false = rw star at parts.0 in
          (λ line. rw star (both.1 next (line_after line b)), λ other line. rw (other, star) (both.1 next (line_after line b)))
      | inr no_star ↦ (λ line. rw no_star (both.0 (line_after line b)), λ other line. rw (other, no_star) (both.0 (line_after line b)))
    ]

pub block_passes : (place : Place) (began : ℕ) (rest : List ℕ) (glyphs : List Glyph) → Follows place rest glyphs → (inner : List ℕ) → has_pair 42 47 (inner ++ (42 ∷ [])) ≡ false
    → (line : ℕ) → ReadsTo (lexed (modes.Block place began) line ((inner ++ (42 ∷ 47 ∷ [])) ++ rest)) glyphs
block_passes place began rest glyphs follows inner none = (block_both place began rest glyphs follows inner none).0

joined_as_gap : (line : ℕ) (bytes : List ℕ) → is_next 10 bytes ≡ true → lexed (modes.LineComment places.Directive) line (92 ∷ bytes) ≡ lexed (modes.Gap places.Directive) line (92 ∷ bytes)
unfolding lexed step_of in_line_comment in_gap begun single is_of
joined_as_gap line bytes next = rw next refl

joins_as_gap : (place : Place) (line b : ℕ) (bytes : List ℕ) → (is_directive place && (eqb b 92 && is_next 10 bytes)) ≡ true → lexed (modes.LineComment place) line (b ∷ bytes) ≡ lexed (modes.Gap place) line (b ∷ bytes)
joins_as_gap places.LineStart line b bytes joins = absurd (false≢true joins)
joins_as_gap places.Code line b bytes joins = absurd (false≢true joins)
joins_as_gap places.Directive line b bytes joins =
    let parts = and_parts (eqb b 92) _ joins in
    let is = eqb-true b 92 parts.0 in
    rw is (joined_as_gap line bytes parts.1)

-- where a comment `// ..` ends, it is like a gap
pub comment_as_gap : (place : Place) (line : ℕ) (rest : List ℕ) → ends_comment place rest ≡ true → lexed (modes.LineComment place) line rest ≡ lexed (modes.Gap place) line rest
unfolding lexed ended_in step_of in_line_comment in_gap
comment_as_gap place line [] ends = refl
comment_as_gap place line (b ∷ bytes) ends =
    elim (or_cases (eqb b 10) _ ends) [
      | inl feed ↦ rw feed refl
      | inr joins ↦ joins_as_gap place line b bytes joins
    ]

pub goes_on_is : (place : Place) (b : ℕ) (rest : List ℕ) → goes_on place b rest ≡ (is_directive place && (eqb b 92 && is_next 10 rest))
goes_on_is places.LineStart b rest = refl
goes_on_is places.Code b rest = refl
goes_on_is places.Directive b rest = refl

pub line_comment_passes : (place : Place) (rest : List ℕ) (glyphs : List Glyph) → Follows place rest glyphs → (inner : List ℕ) → ends_after place inner rest ≡ true
    → (line : ℕ) → ReadsTo (lexed (modes.LineComment place) line (inner ++ rest)) glyphs
unfolding lexed step_of in_line_comment
line_comment_passes place rest glyphs follows [] ends line = rw (comment_as_gap place line rest ends) (follows line)
line_comment_passes place rest glyphs follows (b ∷ inner) ends line =
    let parts = and_parts (not (ends_comment place (b ∷ (inner ++ rest)))) _ ends in
    let goes = or_parts (eqb b 10) _ (not-true _ parts.0) in
    let on : goes_on place b (inner ++ rest) ≡ false = goes_on_is place b (inner ++ rest) ∙ goes.1 in
    rw (goes.0, on) (line_comment_passes place rest glyphs follows inner parts.1 line)

pub slash_first : (place : Place) (inner rest : List ℕ) → ends_after place inner rest ≡ true → ends_after place (47 ∷ inner) rest ≡ true
slash_first places.LineStart inner rest ends = ends
slash_first places.Code inner rest ends = ends
slash_first places.Directive inner rest ends = ends

-- ---- strings

abbrev pub mode_in : Bool → ℕ → Mode
mode_in true began = modes.Escaped began
mode_in false began = modes.Quoted began

pub string_passes : (began : ℕ) (rest : List ℕ) (glyphs : List Glyph) → Follows places.Code rest glyphs → (inner : List ℕ) (escaped : Bool) → is_inner escaped inner ≡ true
    → (line : ℕ) → ReadsTo (lexed (mode_in escaped began) line ((inner ++ (34 ∷ [])) ++ rest)) (record { kind = kinds.Text; text = [] } ∷ glyphs)
unfolding lexed step_of text_of
string_passes began rest glyphs follows [] true is line = absurd (false≢true is)
string_passes began rest glyphs follows [] false is line = one_read _ _ _ glyphs refl (follows line)
string_passes began rest glyphs follows (b ∷ inner) true is line = string_passes began rest glyphs follows inner false is (line_after line b)
string_passes began rest glyphs follows (b ∷ inner) false is line =
    let parts = and_parts (not (eqb b 34)) _ is in
    let quote = not-true (eqb b 34) parts.0 in
    let more = string_passes began rest glyphs follows inner (eqb b 92) parts.1 (line_after line b) in
    elim (cases_Bool (eqb b 92)) [
      | inl back ↦ rw (quote, back) (rw back at more)
      | inr other ↦ rw (quote, other) (rw other at more)
    ]

-- ---- words

-- where a word ends, it is like a gap
pub word_as_gap : (place : Place) (line : ℕ) (rest : List ℕ) → begins_with Word rest ≡ false → lexed (modes.Word place) line rest ≡ lexed (modes.Gap place) line rest
unfolding lexed ended_in step_of
word_as_gap place line [] ends = refl
word_as_gap place line (b ∷ bytes) ends = rw ends refl

pub word_passes : (place : Place) (rest : List ℕ) (glyphs : List Glyph) → Follows place rest glyphs → begins_with Word rest ≡ false → (word : List ℕ) → list_all (is_of Word) word ≡ true
    → (line : ℕ) → ReadsTo (lexed (modes.Word place) line (word ++ rest)) glyphs
unfolding lexed step_of
word_passes place rest glyphs follows ends [] all line = rw (word_as_gap place line rest ends) (follows line)
word_passes place rest glyphs follows ends (b ∷ word) all line =
    let parts = and_parts (is_of Word b) _ all in
    rw parts.0 (word_passes place rest glyphs follows ends word parts.1 (line_after line b))
