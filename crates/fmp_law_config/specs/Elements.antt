-- believed: see docs/PROOF.md, "What has to be believed"
-- Directives, apart from how they are read: which tokens are those of the statements, and which names stand for which numbers.
use Rattle.std.specs.Prelude.{◌≡◌, ℕ, ◌≤◌, Bool, true, not, ◌||◌, List, [], ◌∷◌, ◌++◌, codes}
use Rattle.std.specs.List.{list_all}
use Rattle.fmp_bytes.specs.Spelling.{SpellsUnsigned}
use Rattle.fmp_names.specs.Names.{is_name}
use Rattle.fmp_config_statements.specs.declared.tokens.TokenKind.TheVariants as kinds
use Rattle.fmp_config_statements.specs.Words.{is_directive_kind, is_end_kind}
use Rattle.fmp_law_config.specs.Tokens.{Glyph}

-- a token of a statement, a name with the number for which it stands from here on, or a directive without effect
pub data Element : Type 0 where
  Plain : Glyph → Element
  Defined : List ℕ → ℕ → Element
  Skipped : Element

abbrev pub identifier : List ℕ → Glyph
identifier text = record { kind = kinds.Identifier; text = text }

abbrev pub symbol : ℕ → Glyph
symbol byte = record { kind = kinds.Symbol; text = byte ∷ [] }

-- a token that neither begins nor ends a directive
abbrev pub is_plain : Glyph → Bool
is_plain g = not (is_directive_kind g.kind || is_end_kind g.kind)

-- the tokens of a directive of these words
abbrev pub directive_of : List Glyph → List Glyph
directive_of words = record { kind = kinds.Directive; text = [] } ∷ (words ++ (record { kind = kinds.DirectiveEnd; text = [] } ∷ []))

-- `define`, a name and a number of 32 bits
pub record Defines (words : List Glyph) (name : List ℕ) (number : ℕ) : Type 0 where
  pub named : Glyph
  pub numeral : Glyph
  pub name_is : named.text ≡ name
  pub is_one : is_name name ≡ true
  pub number_is : SpellsUnsigned numeral.text number
  pub most : number ≤ 4294967295
  pub parts : words ≡ identifier (codes "define") ∷ named ∷ numeral ∷ []

-- `include` and anything, or `define` and what is no name and number
pub data Skips (words : List Glyph) : Type 0 where
  Included : (rest : List Glyph) → words ≡ identifier (codes "include") ∷ rest → Skips words
  Undefined : (rest : List Glyph) → words ≡ identifier (codes "define") ∷ rest → ((name : List ℕ) (number : ℕ) → ¬ (Defines words name number)) → Skips words

-- directives hold what may stand in them: neither the beginning nor the end of another one
abbrev pub SpellsElements : List Element → List Glyph → Type 0
SpellsElements [] glyphs = glyphs ≡ []
SpellsElements (Plain g ∷ elements) glyphs = (rest : List Glyph) × (glyphs ≡ g ∷ rest) × (is_plain g ≡ true) × SpellsElements elements rest
SpellsElements (Defined name number ∷ elements) glyphs =
    (words : List Glyph) × (rest : List Glyph) × (glyphs ≡ directive_of words ++ rest) × Defines words name number × SpellsElements elements rest
SpellsElements (Skipped ∷ elements) glyphs =
    (words : List Glyph) × (rest : List Glyph) × (glyphs ≡ directive_of words ++ rest) × (list_all is_plain words ≡ true) × Skips words × SpellsElements elements rest

-- the tokens of statements among them
abbrev pub plain_of : List Element → List Glyph
plain_of [] = []
plain_of (Plain g ∷ elements) = g ∷ plain_of elements
plain_of (_ ∷ elements) = plain_of elements

-- a name and its number
pub record Definition : Type 0 where
  pub name : List ℕ
  pub number : ℕ

-- the definitions among them
abbrev pub definitions_of : List Element → List Definition
definitions_of [] = []
definitions_of (Defined name number ∷ elements) = record { name = name; number = number } ∷ definitions_of elements
definitions_of (_ ∷ elements) = definitions_of elements
