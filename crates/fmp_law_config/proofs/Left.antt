-- What a text is made of, that is left after what was read: in gaps, words, strings and comments.
use Rattle.std.proofs.Common.{◌≡◌, ℕ, Bool, true, false, List, [], ◌∷◌, ◌++◌, map, refl, ap}
use Rattle.std.specs.List.{flat_map}
use Rattle.std.proofs.lemmas.Bool.{false≢true}
use Rattle.fmp_bytes.specs.declared.classes.Class.TheVariants.{Word}
use Rattle.fmp_bytes.specs.Bytes.{after}
use Rattle.fmp_config_statements.specs.declared.tokens.TokenKind.TheVariants as kinds
use Rattle.fmp_config_statements.specs.declared.tokens.End.TheVariants.{Done, CutShort}
use Rattle.fmp_config_statements.specs.declared.modes.Place.{Place}
use Rattle.fmp_config_statements.specs.declared.modes.Place.TheVariants as places
use Rattle.fmp_config_statements.specs.declared.modes.Mode.{Mode}
use Rattle.fmp_config_statements.specs.declared.modes.Mode.TheVariants as modes
use Rattle.fmp_config_statements.specs.Steps.{is_next}
use Rattle.fmp_config_statements.specs.Lexing.{ended_in, lexed}
use Rattle.fmp_law_config.specs.Parts.{Part, TextEnd, written, has_pair, ends_after, is_inner, may_stand}
use Rattle.fmp_law_config.specs.Tokens.{Glyph, glyph_of, glyphs_of, place_after, SpellsParts}

-- the tokens that are read, apart from their lines
abbrev pub glyphs_in : Mode → ℕ → List ℕ → List Glyph
glyphs_in mode line bytes = map glyph_of (lexed mode line bytes).lexemes

-- a text from a gap on
pub record GapLeft (place : Place) (text : List ℕ) (glyphs : List Glyph) : Type 0 where
  pub parts : List Part
  pub spelled : SpellsParts place parts text
  pub tokens : flat_map glyphs_of parts ≡ glyphs

-- the rest of a string, and what follows it
pub record StringLeft (escaped : Bool) (text : List ℕ) (glyphs : List Glyph) : Type 0 where
  pub inner : List ℕ
  pub rest : List ℕ
  pub others : List Glyph
  pub parts : text ≡ (inner ++ (34 ∷ [])) ++ rest
  pub is : is_inner escaped inner ≡ true
  pub tokens : glyphs ≡ record { kind = kinds.Text; text = [] } ∷ others
  pub left : GapLeft places.Code rest others

-- the rest of a comment `// ..`, and what follows it
pub record LineLeft (place : Place) (text : List ℕ) (glyphs : List Glyph) : Type 0 where
  pub inner : List ℕ
  pub rest : List ℕ
  pub parts : text ≡ inner ++ rest
  pub ends : ends_after place inner rest ≡ true
  pub left : GapLeft place rest glyphs

-- the rest of a comment `/* .. */`, and what follows it
pub record BlockLeft (place : Place) (text : List ℕ) (glyphs : List Glyph) : Type 0 where
  pub inner : List ℕ
  pub rest : List ℕ
  pub parts : text ≡ (inner ++ (42 ∷ 47 ∷ [])) ++ rest
  pub unclosed : has_pair 42 47 (inner ++ (42 ∷ [])) ≡ false
  pub left : GapLeft place rest glyphs

-- such a comment after its `*`, and a directive after its line feed
pub record OpeningLeft (place : Place) (text : List ℕ) (glyphs : List Glyph) : Type 0 where
  pub rest : List ℕ
  pub parts : text ≡ 42 ∷ rest
  pub left : BlockLeft place rest glyphs

pub record JoinedLeft (text : List ℕ) (glyphs : List Glyph) : Type 0 where
  pub rest : List ℕ
  pub parts : text ≡ 10 ∷ rest
  pub left : GapLeft places.Directive rest glyphs

abbrev pub Left : Mode → List ℕ → List Glyph → Type 0
Left (modes.Gap place) text glyphs = GapLeft place text glyphs
Left (modes.Word place) text glyphs = GapLeft place (after Word text) glyphs
Left (modes.Quoted began) text glyphs = StringLeft false text glyphs
Left (modes.Escaped began) text glyphs = StringLeft true text glyphs
Left (modes.LineComment place) text glyphs = LineLeft place text glyphs
Left (modes.Opening place began) text glyphs = is_next 42 text ≡ true → OpeningLeft place text glyphs
Left (modes.Block place began) text glyphs = BlockLeft place text glyphs
Left (modes.Star place began) text glyphs = BlockLeft place (42 ∷ text) glyphs
Left modes.Continued text glyphs = is_next 10 text ≡ true → JoinedLeft text glyphs

-- what is left of a text that is read to its end
abbrev pub IsLeft : List ℕ → Type 0
IsLeft text = (mode : Mode) (line : ℕ) → (lexed mode line text).end ≡ Done → Left mode text (glyphs_in mode line text)

-- one more part
pub part_before : (place : Place) (part : Part) (rest : List ℕ) (glyphs : List Glyph) → may_stand place part rest ≡ true → GapLeft (place_after place part) rest glyphs → GapLeft place (written part ++ rest) (glyphs_of part ++ glyphs)
part_before place part rest glyphs may left = record {
  parts = part ∷ left.parts;
  spelled = (rest, refl, may, left.spelled);
  tokens = ap (λ (gs : List Glyph). glyphs_of part ++ gs) left.tokens;
}

-- ---- the end of the text

none_left : (place : Place) (line : ℕ) → GapLeft place [] (glyphs_in (modes.Gap place) line [])
unfolding lexed ended_in
none_left places.LineStart line = record { parts = []; spelled = (refl, refl); tokens = refl }
none_left places.Code line = record { parts = []; spelled = (refl, refl); tokens = refl }
none_left places.Directive line = record { parts = TextEnd ∷ []; spelled = ([], refl, refl, (refl, refl)); tokens = refl }

cut_short : {A : Type 0} (began : ℕ) → CutShort began ≡ Done → A
cut_short began e = absurd cc

pub ends_left : IsLeft []
unfolding lexed ended_in
ends_left (modes.Gap place) line done = none_left place line
ends_left (modes.Word place) line done = none_left place line
ends_left (modes.Quoted began) line done = cut_short began done
ends_left (modes.Escaped began) line done = cut_short began done
ends_left (modes.LineComment place) line done = record { inner = []; rest = []; parts = refl; ends = refl; left = none_left place line }
ends_left (modes.Opening place began) line done = cut_short began done
ends_left (modes.Block place began) line done = cut_short began done
ends_left (modes.Star place began) line done = cut_short began done
ends_left modes.Continued line done = λ next. absurd (false≢true next)
