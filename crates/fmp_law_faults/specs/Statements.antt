-- Where a token of a configuration stands, by the tokens before it.
use Rattle.std.specs.Prelude.{◌≡◌, ◌≤◌, ℕ, ◌⊎◌, true, List, [], ◌∷◌, ◌++◌, length, map, Err, codes}
use Rattle.std.specs.List.{list_all}
use Rattle.fmp_config.specs.Limits.{most_bytes}
use Rattle.fmp_config.specs.Reading.{config_in}
use Rattle.fmp_config_statements.specs.declared.fault.ConfigKind.{ConfigKind}
use Rattle.fmp_config_statements.specs.declared.table.StatementName.{StatementName}
use Rattle.fmp_config_statements.specs.Faults.{Fault}
use Rattle.fmp_config_statements.specs.Table.{text_of}
use Rattle.fmp_config_statements.specs.Lexing.{Lexeme, lexed_text}
use Rattle.fmp_config_statements.specs.declared.tokens.TokenKind.TheVariants as kinds
use Rattle.fmp_law_config.specs.Clauses.{Clause, SpellsClauses}
use Rattle.fmp_law_config.specs.Elements.{Element, Plain, SpellsElements, definitions_of, identifier, is_plain, plain_of}
use Rattle.fmp_law_config.specs.Meaning.{SayClauses, may_stand}
use Rattle.fmp_law_config.specs.Stages.{AddsAll, Stage, no_stage}
use Rattle.fmp_law_config.specs.Tokens.{Glyph, SpellsTokens, glyph_of}
use Rattle.fmp_law_faults.specs.StatementFaults.{GoOn}

-- some text is spelled by these tokens
abbrev pub AreSpelled : List Lexeme → Type 0
AreSpelled tokens = (text : List ℕ) × SpellsTokens (map glyph_of tokens) text

-- after whole statements and directives, which lead to a stage
pub record IsBetween (before : List Lexeme) (s : Stage) : Type 0 where
  pub elements : List Element
  pub clauses : List Clause
  pub spelled : AreSpelled before
  pub elements_are : SpellsElements elements (map glyph_of before)
  pub clauses_are : SpellsClauses elements clauses
  pub say : SayClauses no_stage clauses s

-- in a statement that may stand there, after its first word, these tokens and directives, which lead to a stage. Others follow in it
pub record IsWithin (before : List Lexeme) (s : Stage) (name : StatementName) (glyphs : List Glyph) : Type 0 where
  pub first : List Element
  pub clauses : List Clause
  pub inner : List Element
  pub from : Stage
  pub spelled : AreSpelled before
  pub elements_are : SpellsElements (first ++ Plain (identifier (text_of name)) ∷ inner) (map glyph_of before)
  pub clauses_are : SpellsClauses first clauses
  pub say : SayClauses no_stage clauses from
  pub stands : may_stand from name ≡ true
  pub glyphs_are : plain_of inner ≡ glyphs
  pub goes_on : GoOn name glyphs
  pub adds : AddsAll from (definitions_of inner) s

-- outside directives this token may be the next, as far as tokens are asked
pub record IsNext (before : List Lexeme) (t : Lexeme) : Type 0 where
  pub spelled : AreSpelled (before ++ t ∷ [])
  pub is : is_plain (glyph_of t) ≡ true

-- ---- directives

-- between statements or in one
pub data IsAt (before : List Lexeme) (s : Stage) : Type 0 where
  between : IsBetween before s → IsAt before s
  within : (name : StatementName) (glyphs : List Glyph) → IsWithin before s name glyphs → IsAt before s

abbrev pub end_of_directive : Glyph
end_of_directive = record { kind = kinds.DirectiveEnd; text = [] }

-- no word, or words that begin with a name of a directive
abbrev pub BeginDirective : List Glyph → Type 0
BeginDirective words =
    (words ≡ []) ⊎ ((rest : List Glyph) × ((words ≡ identifier (codes "include") ∷ rest) ⊎ (words ≡ identifier (codes "define") ∷ rest)))

-- in a directive, after its `#` and these words; the token is a word, too, or its end
pub record IsInDirective (before : List Lexeme) (hash : Lexeme) (words : List Lexeme) (t : Lexeme) (s : Stage) : Type 0 where
  pub at : IsAt before s
  pub hash_is : glyph_of hash ≡ record { kind = kinds.Directive; text = [] }
  pub words_are : list_all is_plain (map glyph_of words) ≡ true
  pub begins : BeginDirective (map glyph_of words)
  pub is : (is_plain (glyph_of t) ≡ true) ⊎ ((glyph_of t ≡ end_of_directive) × AreSpelled ((before ++ hash ∷ words) ++ t ∷ []))

-- ---- faults

-- each text within the limit that begins with these tokens has a first fault of this kind
abbrev pub HaveFault : List Lexeme → ConfigKind → Type 0
HaveFault tokens kind =
    (text : List ℕ) (more : List Lexeme) → (lexed_text text).lexemes ≡ tokens ++ more → length text ≤ most_bytes
    → (fault : Fault) × (config_in text ≡ Err fault) × (fault.kind ≡ kind)
