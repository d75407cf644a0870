-- believed: see docs/PROOF.md, "What has to be believed"
-- The grammar of tokens, apart from how they are read: which texts are spelled by which tokens.
use Rattle.std.specs.Prelude.{◌≡◌, ℕ, true, false, List, [], ◌∷◌, ◌++◌, ◌==◌, if◌then◌else◌}
use Rattle.std.specs.List.{flat_map}
use Rattle.fmp_bytes.specs.Bytes.{line_feed}
use Rattle.fmp_config_statements.specs.declared.modes.Place.{Place}
use Rattle.fmp_config_statements.specs.declared.modes.Place.TheVariants.{LineStart, Code, Directive}
use Rattle.fmp_config_statements.specs.declared.tokens.TokenKind.{TokenKind}
use Rattle.fmp_config_statements.specs.declared.tokens.TokenKind.TheVariants as kinds
use Rattle.fmp_config_statements.specs.Steps.{following}
use Rattle.fmp_config_statements.specs.Lexing.{Lexeme}
use Rattle.fmp_law_config.specs.Parts.{Part, Blank, Identifier, Digits, Symbol, Quoted, Hash, LineEnd, TextEnd, written, is_directive, may_stand}

-- a token apart from its line
pub record Glyph : Type 0 where
  pub kind : TokenKind
  pub text : List ℕ

abbrev pub glyph_of : Lexeme → Glyph
glyph_of t = record { kind = t.kind; text = t.text }

-- the tokens that a part is: blanks, comments and joined lines are none
abbrev pub glyphs_of : Part → List Glyph
glyphs_of (Identifier word) = record { kind = kinds.Identifier; text = word } ∷ []
glyphs_of (Digits word) = record { kind = kinds.Digits; text = word } ∷ []
glyphs_of (Symbol b) = record { kind = kinds.Symbol; text = b ∷ [] } ∷ []
glyphs_of (Quoted inner) = record { kind = kinds.Text; text = [] } ∷ []
glyphs_of Hash = record { kind = kinds.Directive; text = [] } ∷ []
glyphs_of LineEnd = record { kind = kinds.DirectiveEnd; text = [] } ∷ []
glyphs_of TextEnd = record { kind = kinds.DirectiveEnd; text = [] } ∷ []
glyphs_of _ = []

-- the place after a part: line feeds in comments end no line
abbrev pub place_after : Place → Part → Place
place_after place (Blank b) = if b == line_feed then LineStart else place
place_after place (Identifier word) = following place
place_after place (Digits word) = following place
place_after place (Symbol b) = following place
place_after place (Quoted inner) = Code
place_after place Hash = Directive
place_after place LineEnd = LineStart
place_after place TextEnd = LineStart
place_after place _ = place

-- a text is these parts, one after the other, each where it may stand, and no directive is left open
abbrev pub SpellsParts : Place → List Part → List ℕ → Type 0
SpellsParts place [] text = (text ≡ []) × (is_directive place ≡ false)
SpellsParts place (part ∷ parts) text =
    (rest : List ℕ) × (text ≡ written part ++ rest) × (may_stand place part rest ≡ true) × SpellsParts (place_after place part) parts rest

-- a whole text is parts that are these tokens
pub record SpellsTokens (glyphs : List Glyph) (text : List ℕ) : Type 0 where
  pub parts : List Part
  pub spelled : SpellsParts LineStart parts text
  pub tokens : flat_map glyphs_of parts ≡ glyphs
