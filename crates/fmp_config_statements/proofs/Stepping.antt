-- Reading a text byte by byte, as a loop does.
use Rattle.std.proofs.Common.{◌≡◌, ℕ, List, [], ◌∷◌, refl, sym, ◌∙◌, length, arith}
use Rattle.fmp_config_statements.specs.declared.tokens.TokenKind.{TokenKind}
use Rattle.fmp_config_statements.specs.declared.tokens.End.{End}
use Rattle.fmp_config_statements.specs.declared.modes.Mode.{Mode}
use Rattle.fmp_config_statements.specs.declared.modes.Step.TheVariants.{Pass, Give, Stop}
use Rattle.fmp_config_statements.specs.Steps.{step_of, line_after}
use Rattle.fmp_config_statements.specs.Lexing.{Lexed, text_of, with_lexeme, ended, ended_in, lexed}

module _ (mode : Mode) (line : ℕ) (whole : List ℕ) (total : Lexed) (b : ℕ) (bytes : List ℕ) where
  pub passes : (next : Mode) → whole ≡ b ∷ bytes → Pass next ≡ step_of mode line b bytes → lexed mode line whole ≡ total → lexed next (line_after line b) bytes ≡ total
  unfolding lexed
  passes next e h so_far =
      let one : lexed mode line whole ≡ lexed next (line_after line b) bytes = rw (e, ← h) refl in
      sym one ∙ so_far

  pub gives : (kind : TokenKind) (at : ℕ) (next : Mode) → whole ≡ b ∷ bytes → Give kind at next ≡ step_of mode line b bytes → lexed mode line whole ≡ total
      → total ≡ with_lexeme (record { kind = kind; text = text_of kind whole; line = at }) (lexed next (line_after line b) bytes)
  unfolding lexed
  gives kind at next e h so_far =
      let one : lexed mode line whole ≡ with_lexeme (record { kind = kind; text = text_of kind whole; line = at }) (lexed next (line_after line b) bytes) = rw (e, ← h) refl in
      sym so_far ∙ one

  pub stops : (end : End) → whole ≡ b ∷ bytes → Stop end ≡ step_of mode line b bytes → lexed mode line whole ≡ total → total ≡ ended end
  unfolding lexed
  stops end e h so_far =
      let one : lexed mode line whole ≡ ended end = rw (e, ← h) refl in
      sym so_far ∙ one

pub ends : (mode : Mode) (line : ℕ) (whole : List ℕ) (total : Lexed) → length whole ≡ 0 → lexed mode line whole ≡ total → total ≡ ended_in mode line
unfolding lexed
ends mode line [] total e so_far = sym so_far
ends mode line (b ∷ bytes) total e so_far = absurd (omega arith)
