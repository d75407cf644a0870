-- believed: see docs/PROOF.md, "What has to be believed"
-- What was read of a configuration.
use Rattle.std.specs.Prelude.{Bool, true, false, Option, None}
use Rattle.fmp_config.specs.declared.draft.OpenClass.{OpenClass}
use Rattle.fmp_config.specs.declared.draft.Phase.{Phase}
use Rattle.fmp_config.specs.declared.draft.Phase.TheVariants as phases
use Rattle.fmp_setup.specs.Building.{of_processors}
use Rattle.fmp_setup.specs.Setup.{Setup}

-- the configuration so far, the class whose statements follow, how far the text has come, and which statements stood
pub record Draft : Type 0 where
  pub setup : Setup
  pub open_class : Option OpenClass
  pub phase : Phase
  pub timer_stood : Bool
  pub limits_stood : Bool

-- before the first statement
abbrev pub blank_draft : Draft
blank_draft = record { setup = of_processors 1; open_class = None; phase = phases.Start; timer_stood = false; limits_stood = false }

-- before the number of processors
abbrev pub is_start : Phase → Bool
is_start phases.Start = true
is_start _ = false

-- after the head of the first class
abbrev pub is_body : Phase → Bool
is_body phases.Body = true
is_body _ = false
