-- At which token the first fault of a configuration text is found: what stands before it has none, and which texts have the same fault.
use Rattle.std.specs.Prelude.{◌≡◌, ◌<◌, ◌≤◌, ℕ, ◌⊎◌, List, ◌∷◌, ◌++◌, length, Err}
use Rattle.fmp_config.specs.Limits.{most_bytes}
use Rattle.fmp_config.specs.Reading.{config_in}
use Rattle.fmp_setup.specs.Setup.{Setup}
use Rattle.fmp_config_statements.specs.Faults.{Fault, fault_of_line}
use Rattle.fmp_config_statements.specs.declared.fault.ConfigKind.TheVariants as faults
use Rattle.fmp_config_statements.specs.Lexing.{Lexeme, lexed_text}
use Rattle.fmp_config_statements.specs.declared.tokens.End.{End}
use Rattle.fmp_config_statements.specs.declared.tokens.End.TheVariants.{Bad, CutShort, Done}
use Rattle.fmp_law_config.specs.Cuts.{IsCutAfter}
use Rattle.fmp_law_config.specs.Grammar.{Configures}

-- a fault of the end of the tokens: a byte that may not stand there, a string or a comment that is open, or else a statement or a class that is open, or no
-- number of processors
abbrev pub IsOfEnd : End → Fault → Type 0
IsOfEnd (Bad line) fault = fault ≡ fault_of_line faults.Syntax line
IsOfEnd (CutShort line) fault = fault ≡ fault_of_line faults.CutShort line
IsOfEnd Done fault = ((line : ℕ) × (fault ≡ fault_of_line faults.CutShort line)) ⊎ (fault ≡ fault_of_line faults.NoProcessors 1)

-- these tokens have no fault: a text within the limit whose tokens are the first of them, be it all, has no fault but one of its end
abbrev pub HaveNoFault : List Lexeme → Type 0
HaveNoFault tokens =
    (first others : List Lexeme) (text : List ℕ) (fault : Fault) → tokens ≡ first ++ others → (lexed_text text).lexemes ≡ first → length text ≤ most_bytes
    → config_in text ≡ Err fault
    → IsOfEnd (lexed_text text).end fault

-- the fault is found at a token: those before it have none, and are the tokens of a beginning of the text, but for the end of a directive that is cut there;
-- no text with the same tokens up to this one says a configuration, and each of them, within the limit, has this fault
pub record FaultAtToken (text : List ℕ) (fault : Fault) : Type 0 where
  pub before : List Lexeme
  pub token : Lexeme
  pub rest : List Lexeme
  pub parts : (lexed_text text).lexemes ≡ before ++ (token ∷ rest)
  pub faultless : HaveNoFault before
  pub cut : IsCutAfter text before
  pub never : (other : List ℕ) (more : List Lexeme) (c : Setup) → (lexed_text other).lexemes ≡ before ++ (token ∷ more) → Configures other c → ⊥
  pub report : (other : List ℕ) (more : List Lexeme) → (lexed_text other).lexemes ≡ before ++ (token ∷ more) → length other ≤ most_bytes → config_in other ≡ Err fault

-- the text is too long, or its fault is found at a token, or after all its tokens at their end
abbrev pub FirstFault : List ℕ → Fault → Type 0
FirstFault text fault =
    ((most_bytes < length text) × (fault ≡ fault_of_line faults.TooMany 0))
    ⊎ ((length text ≤ most_bytes) × (FaultAtToken text fault ⊎ (HaveNoFault (lexed_text text).lexemes × IsOfEnd (lexed_text text).end fault)))
