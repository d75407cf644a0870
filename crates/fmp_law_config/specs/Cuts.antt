-- Texts that are cut before a token.
use Rattle.std.specs.Prelude.{◌≡◌, ℕ, ◌⊎◌, List, [], ◌∷◌, ◌++◌}
use Rattle.fmp_config_statements.specs.declared.tokens.TokenKind.TheVariants.{DirectiveEnd}
use Rattle.fmp_config_statements.specs.Lexing.{Lexeme, lexed_text}

-- these tokens, or they and the end of the directive in which the last of them stands
abbrev pub AreTokens : List Lexeme → List Lexeme → Type 0
AreTokens lexemes before = (lexemes ≡ before) ⊎ ((end : Lexeme) × (end.kind ≡ DirectiveEnd) × (lexemes ≡ before ++ end ∷ []))

-- a beginning of the text has these tokens; a directive that was cut is ended by its end
pub record IsCutAfter (text : List ℕ) (before : List Lexeme) : Type 0 where
  pub front : List ℕ
  pub following : List ℕ
  pub parts : text ≡ front ++ following
  pub tokens : AreTokens (lexed_text front).lexemes before
