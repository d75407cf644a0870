-- believed: see docs/PROOF.md, "What has to be believed"
-- Words: what is kept of a token.
use Rattle.std.specs.Prelude.{ℕ, Bool, true, false, ◌&&◌, List, [], ◌∷◌, ◌==◌}
use Rattle.fmp_config_statements.specs.declared.tokens.TokenKind.{TokenKind}
use Rattle.fmp_config_statements.specs.declared.tokens.TokenKind.TheVariants as kinds
use Rattle.fmp_config_statements.specs.Lexing.{Lexeme}

-- the bytes of a token, and its line
pub record Word : Type 0 where
  pub text : List ℕ
  pub line : ℕ

abbrev pub word_of : Lexeme → Word
word_of t = record { text = t.text; line = t.line }

-- what stands where a statement has no such word
abbrev pub no_word : Word
no_word = record { text = []; line = 0 }

-- a text of one byte
abbrev pub is_one : ℕ → List ℕ → Bool
is_one byte [] = false
is_one byte (b ∷ []) = b == byte
is_one byte (b ∷ c ∷ bytes) = false

abbrev pub is_symbol_kind : TokenKind → Bool
is_symbol_kind kinds.Symbol = true
is_symbol_kind _ = false

-- a token that is this byte alone
abbrev pub is_mark : ℕ → Lexeme → Bool
is_mark byte t = is_symbol_kind t.kind && is_one byte t.text

abbrev pub is_identifier_kind : TokenKind → Bool
is_identifier_kind kinds.Identifier = true
is_identifier_kind _ = false

abbrev pub is_digits_kind : TokenKind → Bool
is_digits_kind kinds.Digits = true
is_digits_kind _ = false

abbrev pub is_text_kind : TokenKind → Bool
is_text_kind kinds.Text = true
is_text_kind _ = false

abbrev pub is_directive_kind : TokenKind → Bool
is_directive_kind kinds.Directive = true
is_directive_kind _ = false

abbrev pub is_end_kind : TokenKind → Bool
is_end_kind kinds.DirectiveEnd = true
is_end_kind _ = false
