-- believed: see docs/PROOF.md, "What has to be believed"
-- What a text says, one after the other, apart from how it is read.
use Rattle.std.specs.Prelude.{◌≡◌, List, [], ◌∷◌, ◌++◌}
use Rattle.fmp_bytes.specs.Bytes.{close_brace}
use Rattle.fmp_config_statements.specs.declared.table.StatementName.{StatementName}
use Rattle.fmp_config_statements.specs.Table.{text_of, parts_of}
use Rattle.fmp_law_config.specs.Tokens.{Glyph}
use Rattle.fmp_law_config.specs.Elements.{Element, Plain, Defined, Skipped, Definition, identifier, symbol, plain_of, definitions_of}
use Rattle.fmp_law_config.specs.Phrases.{Phrase, no_words, SpellsParts}

-- a statement with its words and the definitions that stand among them, the end of a class, or a directive between statements
pub data Clause : Type 0 where
  Statement : StatementName → Phrase → List Definition → Clause
  EndOfClass : Clause
  Defining : Definition → Clause
  Skipping : Clause

-- a statement's word and parts, with directives among them, but none after its last token
pub record SpellsStatement (elements : List Element) (name : StatementName) (phrase : Phrase) (definitions : List Definition) : Type 0 where
  pub inner : List Element
  pub last : Glyph
  pub elements_are : elements ≡ Plain (identifier (text_of name)) ∷ (inner ++ Plain last ∷ [])
  pub parts_are : SpellsParts (parts_of name) no_words phrase (plain_of inner ++ last ∷ [])
  pub definitions_are : definitions_of inner ≡ definitions

abbrev pub SpellsClause : List Element → Clause → Type 0
SpellsClause elements (Statement name phrase definitions) = SpellsStatement elements name phrase definitions
SpellsClause elements EndOfClass = elements ≡ Plain (symbol close_brace) ∷ []
SpellsClause elements (Defining d) = elements ≡ Defined d.name d.number ∷ []
SpellsClause elements Skipping = elements ≡ Skipped ∷ []

-- clauses, one after the other
abbrev pub SpellsClauses : List Element → List Clause → Type 0
SpellsClauses elements [] = elements ≡ []
SpellsClauses elements (clause ∷ clauses) =
    (first : List Element) × (rest : List Element) × (elements ≡ first ++ rest) × SpellsClause first clause × SpellsClauses rest clauses
