-- What is wrong with the end of a configuration whose tokens have no fault, apart from how it is read.
use Rattle.std.specs.Prelude.{◌≡◌, ◌⊎◌, true, false, List, is_some}
use Rattle.fmp_config.specs.Drafts.{is_start}
use Rattle.fmp_config_statements.specs.declared.fault.ConfigKind.{ConfigKind}
use Rattle.fmp_config_statements.specs.declared.fault.ConfigKind.TheVariants.{CutShort, NoProcessors}
use Rattle.fmp_config_statements.specs.Lexing.{Lexeme}
use Rattle.fmp_law_config.specs.Stages.{Stage}
use Rattle.fmp_law_faults.specs.Statements.{IsAt, between, within}

-- between statements a class is open, or else there is no number of processors; within a statement this is open
abbrev pub EndFault : (tokens : List Lexeme) (s : Stage) → IsAt tokens s → ConfigKind → Type 0
EndFault tokens s (between at) fault =
    ((fault ≡ CutShort) × (is_some s.class ≡ true)) ⊎ ((is_some s.class ≡ false) × (fault ≡ NoProcessors) × (is_start s.phase ≡ true))
EndFault tokens s (within name glyphs at) fault = fault ≡ CutShort
