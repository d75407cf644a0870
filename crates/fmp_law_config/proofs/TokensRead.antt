-- The tokens that are spelled are read.
use Rattle.std.proofs.Common.{◌≡◌, ℕ, ◌+◌, true, false, List, [], ◌∷◌, ◌++◌, map, refl, sym, ap, ◌∙◌}
use Rattle.std.specs.List.{list_all, flat_map, prefix_len}
use Rattle.std.proofs.lemmas.Bool.{and_parts, and_from, not-true, false≢true}
use Rattle.fmp_bytes.specs.declared.classes.Class.TheVariants.{Word, Letter}
use Rattle.fmp_bytes.specs.declared.classes.Class.TheVariants as class
use Rattle.fmp_bytes.specs.Bytes.{is_of, prefix, is_identifier}
use Rattle.fmp_bytes.proofs.Prefixes.{prefix-append, stops-cons}
use Rattle.fmp_bytes.proofs.Included.{word-letter}
use Rattle.fmp_config_statements.specs.declared.tokens.TokenKind.{TokenKind}
use Rattle.fmp_config_statements.specs.declared.tokens.TokenKind.TheVariants as kinds
use Rattle.fmp_config_statements.specs.declared.tokens.End.TheVariants.{Done}
use Rattle.fmp_config_statements.specs.declared.modes.Place.{Place}
use Rattle.fmp_config_statements.specs.declared.modes.Place.TheVariants as places
use Rattle.fmp_config_statements.specs.declared.modes.Mode.TheVariants as modes
use Rattle.fmp_config_statements.specs.declared.modes.Step.TheVariants.{Give}
use Rattle.fmp_config_statements.specs.Steps.{following, at_line_end, single_in_code, single, begun, in_gap, step_of, line_after}
use Rattle.fmp_config_statements.specs.Lexing.{text_of, ended_in, lexed, lexed_text}
use Rattle.fmp_law_config.specs.Parts.{Part, Blank, BlockComment, LineComment, JoinedLine, Identifier, Digits, Symbol, Quoted, Hash, LineEnd, TextEnd, written, is_directive, begins_with, is_number, may_stand}
use Rattle.fmp_law_config.specs.Tokens.{Glyph, glyph_of, glyphs_of, place_after, SpellsParts, SpellsTokens}
use Rattle.fmp_law_config.proofs.Bytes.{passes, gives, digit_is_word, blank_in_gap, identifier_in_gap, digits_in_gap, symbol_in_gap}
use Rattle.fmp_law_config.proofs.Passing.{ReadsTo, Follows, one_read, block_passes, line_comment_passes, slash_first, string_passes, word_passes}

no_word_first : (rest : List ℕ) → begins_with Word rest ≡ false → prefix_len (is_of Word) rest ≡ 0
no_word_first [] ends = refl
no_word_first (b ∷ bytes) ends = stops-cons (is_of Word) b bytes ends

-- a word whose first byte gives a token of this kind
word_read : (place : Place) (kind : TokenKind) (b : ℕ) (word rest : List ℕ) (glyphs : List Glyph) (line : ℕ) → in_gap place line b (word ++ rest) ≡ Give kind line (modes.Word (following place))
    → text_of kind (b ∷ (word ++ rest)) ≡ prefix Word (b ∷ (word ++ rest)) → list_all (is_of Word) (b ∷ word) ≡ true → begins_with Word rest ≡ false → Follows (following place) rest glyphs
    → ReadsTo (lexed (modes.Gap place) line (b ∷ (word ++ rest))) (record { kind = kind; text = b ∷ word } ∷ glyphs)
unfolding step_of
word_read place kind b word rest glyphs line step text all ends follows =
    let whole = (prefix-append Word (b ∷ word) rest all (no_word_first rest ends)).0 in
    let parts = and_parts (is_of Word b) _ all in
    rw (gives (modes.Gap place) line b (word ++ rest) kind line (modes.Word (following place)) step)
    (one_read _ _ (record { kind = kind; text = b ∷ word }) glyphs (ap (λ (t : List ℕ). record { kind = kind; text = t }) (text ∙ whole)) (word_passes (following place) rest glyphs follows ends word parts.1 (line_after line b)))

identifier_read : (place : Place) (word rest : List ℕ) (glyphs : List Glyph) → may_stand place (Identifier word) rest ≡ true → Follows (following place) rest glyphs
    → Follows place (word ++ rest) (record { kind = kinds.Identifier; text = word } ∷ glyphs)
unfolding text_of
identifier_read place [] rest glyphs may follows line = absurd (false≢true may)
identifier_read place (b ∷ word) rest glyphs may follows line =
    let ends = and_parts (is_identifier (b ∷ word)) _ may in
    let parts = and_parts (is_of Letter b) _ ends.0 in
    let all = and_from (is_of Word b) _ (word-letter b parts.0) parts.1 in
    word_read place kinds.Identifier b word rest glyphs line (identifier_in_gap place line b (word ++ rest) parts.0) refl all (not-true _ ends.1) follows

digits_read : (place : Place) (word rest : List ℕ) (glyphs : List Glyph) → may_stand place (Digits word) rest ≡ true → Follows (following place) rest glyphs
    → Follows place (word ++ rest) (record { kind = kinds.Digits; text = word } ∷ glyphs)
unfolding text_of
digits_read place [] rest glyphs may follows line = absurd (false≢true may)
digits_read place (b ∷ word) rest glyphs may follows line =
    let ends = and_parts (is_number (b ∷ word)) _ may in
    let parts = and_parts (is_of class.Digit b) _ ends.0 in
    let all = and_from (is_of Word b) _ (digit_is_word b parts.0) parts.1 in
    word_read place kinds.Digits b word rest glyphs line (digits_in_gap place line b (word ++ rest) parts.0) refl all (not-true _ ends.1) follows

-- a part at the beginning of a text
part_read : (place : Place) (part : Part) (rest : List ℕ) (glyphs : List Glyph) → may_stand place part rest ≡ true → Follows (place_after place part) rest glyphs → Follows place (written part ++ rest) (glyphs_of part ++ glyphs)
unfolding lexed ended_in step_of in_gap begun single single_in_code at_line_end text_of is_of
part_read place (Blank b) rest glyphs may follows line = rw (passes (modes.Gap place) line b rest _ (blank_in_gap place line b rest may)) (follows (line_after line b))
part_read place (BlockComment inner) rest glyphs may follows line = block_passes place line rest glyphs follows inner (not-true _ may) line
part_read place (LineComment inner) rest glyphs may follows line = line_comment_passes place rest glyphs follows (47 ∷ inner) (slash_first place inner rest may) line
part_read places.LineStart JoinedLine rest glyphs may follows line = absurd (false≢true may)
part_read places.Code JoinedLine rest glyphs may follows line = absurd (false≢true may)
part_read places.Directive JoinedLine rest glyphs may follows line = follows (line + 1)
part_read place (Identifier word) rest glyphs may follows line = identifier_read place word rest glyphs may follows line
part_read place (Digits word) rest glyphs may follows line = digits_read place word rest glyphs may follows line
part_read place (Symbol b) rest glyphs may follows line =
    rw (gives (modes.Gap place) line b rest kinds.Symbol line _ (symbol_in_gap place line b rest may)) (one_read _ _ _ glyphs refl (follows (line_after line b)))
part_read places.LineStart (Quoted inner) rest glyphs may follows line = string_passes line rest glyphs follows inner false may line
part_read places.Code (Quoted inner) rest glyphs may follows line = string_passes line rest glyphs follows inner false may line
part_read places.Directive (Quoted inner) rest glyphs may follows line = absurd (false≢true may)
part_read places.LineStart Hash rest glyphs may follows line = one_read _ _ _ glyphs refl (follows line)
part_read places.Code Hash rest glyphs may follows line = absurd (false≢true may)
part_read places.Directive Hash rest glyphs may follows line = absurd (false≢true may)
part_read places.LineStart LineEnd rest glyphs may follows line = absurd (false≢true may)
part_read places.Code LineEnd rest glyphs may follows line = absurd (false≢true may)
part_read places.Directive LineEnd rest glyphs may follows line = one_read _ _ _ glyphs refl (follows (line + 1))
part_read places.LineStart TextEnd rest glyphs may follows line = absurd (false≢true may)
part_read places.Code TextEnd rest glyphs may follows line = absurd (false≢true may)
part_read places.Directive TextEnd [] glyphs may follows line = one_read _ _ _ glyphs refl (follows line)
part_read places.Directive TextEnd (b ∷ rest) glyphs may follows line = absurd (false≢true may)

none_left : (place : Place) (line : ℕ) → is_directive place ≡ false → ReadsTo (lexed (modes.Gap place) line []) []
unfolding lexed ended_in
none_left places.LineStart line closed = record { done = refl; same = refl }
none_left places.Code line closed = record { done = refl; same = refl }
none_left places.Directive line closed = absurd (false≢true (sym closed))

parts_read : (place : Place) (parts : List Part) (text : List ℕ) → SpellsParts place parts text → Follows place text (flat_map glyphs_of parts)
parts_read place [] text s line = rw s.0 (none_left place line s.1)
parts_read place (part ∷ parts) text s line = rw s.1 (part_read place part s.0 (flat_map glyphs_of parts) s.2 (parts_read (place_after place part) parts s.0 s.3) line)

pub tokens_are_read : (text : List ℕ) (glyphs : List Glyph) → SpellsTokens glyphs text → ((lexed_text text).end ≡ Done) × (map glyph_of (lexed_text text).lexemes ≡ glyphs)
unfolding lexed_text
tokens_are_read text glyphs s = let r = parts_read places.LineStart s.parts text s.spelled 1 in (r.done, r.same ∙ s.tokens)
