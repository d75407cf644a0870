-- The tokens of a text, with their lines, byte by byte.
use Rattle.std.specs.Prelude.{ℕ, List, [], ◌∷◌, take}
use Rattle.fmp_bytes.specs.declared.classes.Class.TheVariants as class
use Rattle.fmp_bytes.specs.Bytes.{prefix}
use Rattle.fmp_config_statements.specs.declared.tokens.TokenKind.{TokenKind}
use Rattle.fmp_config_statements.specs.declared.tokens.TokenKind.TheVariants as kinds
use Rattle.fmp_config_statements.specs.declared.tokens.End.{End}
use Rattle.fmp_config_statements.specs.declared.tokens.End.TheVariants as ends
use Rattle.fmp_config_statements.specs.declared.modes.Place.{Place}
use Rattle.fmp_config_statements.specs.declared.modes.Place.TheVariants as places
use Rattle.fmp_config_statements.specs.declared.modes.Mode.{Mode}
use Rattle.fmp_config_statements.specs.declared.modes.Mode.TheVariants as modes
use Rattle.fmp_config_statements.specs.declared.modes.Step.{Step}
use Rattle.fmp_config_statements.specs.declared.modes.Step.TheVariants.{Pass, Give, Stop}
use Rattle.fmp_config_statements.specs.Steps.{step_of, line_after}

-- a token: its kind, its bytes, and the line in which it begins, or in which the directive ends that it ends.
-- Strings and the two tokens of directives have no bytes
pub record Lexeme : Type 0 where
  pub kind : TokenKind
  pub text : List ℕ
  pub line : ℕ

-- the tokens of a text, and how they end
pub record Lexed : Type 0 where
  pub lexemes : List Lexeme
  pub end : End

-- the bytes of the token at the beginning of a text
unfoldable pub text_of : TokenKind → List ℕ → List ℕ
text_of kinds.Identifier bytes = prefix class.Word bytes
text_of kinds.Digits bytes = prefix class.Word bytes
text_of kinds.Symbol bytes = take 1 bytes
text_of kinds.Text bytes = []
text_of kinds.Directive bytes = []
text_of kinds.DirectiveEnd bytes = []

-- no tokens, and a token with what follows it
abbrev pub ended : End → Lexed
ended end = record { lexemes = []; end = end }

abbrev pub with_lexeme : Lexeme → Lexed → Lexed
with_lexeme lexeme others = record { lexemes = lexeme ∷ others.lexemes; end = others.end }

-- the end of the text ends a directive
abbrev pub ended_at : Place → ℕ → Lexed
ended_at places.LineStart line = ended ends.Done
ended_at places.Code line = ended ends.Done
ended_at places.Directive line = with_lexeme (record { kind = kinds.DirectiveEnd; text = []; line = line }) (ended ends.Done)

-- what the end of the text does, by what stands before it
unfoldable pub ended_in : Mode → ℕ → Lexed
ended_in (modes.Gap place) line = ended_at place line
ended_in (modes.Word place) line = ended_at place line
ended_in (modes.Quoted began) line = ended (ends.CutShort began)
ended_in (modes.Escaped began) line = ended (ends.CutShort began)
ended_in (modes.LineComment place) line = ended_at place line
ended_in (modes.Opening place began) line = ended (ends.CutShort began)
ended_in (modes.Block place began) line = ended (ends.CutShort began)
ended_in (modes.Star place began) line = ended (ends.CutShort began)
ended_in modes.Continued line = ended_at places.Directive line

-- a step at the beginning of a text, and what is read after its first byte
abbrev pub stepped : Step → List ℕ → (Mode → Lexed) → Lexed
stepped (Pass next) bytes others = others next
stepped (Give kind line next) bytes others = with_lexeme (record { kind = kind; text = text_of kind bytes; line = line }) (others next)
stepped (Stop end) bytes others = ended end

-- the tokens of the rest of a text, from this line on
unfoldable pub lexed : Mode → ℕ → List ℕ → Lexed
lexed mode line [] = ended_in mode line
lexed mode line (b ∷ bytes) = stepped (step_of mode line b bytes) (b ∷ bytes) (λ next. lexed next (line_after line b) bytes)

-- the tokens of a whole text
unfoldable pub lexed_text : List ℕ → Lexed
lexed_text bytes = lexed (modes.Gap places.LineStart) 1 bytes
