-- What is left of a list of events, and what is written of it.
use Rattle.std.specs.Prelude.{◌≡◌, ℕ, Bool, List, [], ◌++◌, Ok}
use Rattle.fmp_codes.specs.declared.records.Event.{Event}
use Rattle.fmp_run_devices.specs.Devices.{BeginsWith}
use Rattle.fmp_run_texts.specs.declared.status.Status.{Status}
use Rattle.fmp_run_texts.specs.declared.status.Status.TheVariants.{Done, Different}
use Rattle.fmp_run_texts.specs.Texts.{SaysConfig}
use Rattle.fmp_search_pattern.specs.declared.question.Step.{Step}
use Rattle.fmp_search_question.specs.Reading.{question_in}
use Rattle.fmp_setup.specs.Setup.{Setup}
use Rattle.fmp_search_shrink.specs.Shrinking.{AnswersShow, IsShrunk}
use Rattle.fmp_text.specs.TextGrammar.{SpellsText}
use Rattle.fmp_run_shrink.specs.declared.finding.Shrinking.{Shrinking}
use Rattle.fmp_run_shrink.specs.declared.finding.Shrinking.TheVariants as shrinking
use Rattle.fmp_run_shrink.specs.Written.Telling.{IsReadBack, event_lines}

-- The text that tells what is left of the events: nothing, where their answers do not show what the question asks. A list of events is
-- read back as what is left.
abbrev pub Leaves : Setup → List Step → Bool → List Event → List ℕ → Shrinking → Type 0
Leaves c question runs whole text shrinking.Shrunk =
    (es : List Event) × IsShrunk c question runs whole es × (text ≡ event_lines c.names es) × IsReadBack c.names text es
Leaves c question runs whole text shrinking.NotShown = (AnswersShow c question whole → ⊥) × (text ≡ [])

-- the output tells what is left of the one text's events on the other's machine, by what the third asks, where runs are to be kept or not
pub record Shrunk (config_text event_text question_text : List ℕ) (runs : Bool) (output : List ℕ) (found : Shrinking) : Type 0 where
  pub config : Setup
  pub events : List Event
  pub question : List Step
  pub says : SaysConfig config_text config
  pub lists : SpellsText config.names event_text events
  pub asks : question_in config.names question_text ≡ Ok question
  pub leaves : Leaves config question runs events output found

-- the output was written after old, all of it
abbrev pub IsShrunkOut : List ℕ → List ℕ → List ℕ → Bool → List ℕ → List ℕ → Shrinking → Type 0
IsShrunkOut config_text event_text question_text runs old new found =
    (output : List ℕ) × Shrunk config_text event_text question_text runs output found × (new ≡ old ++ output)

-- a beginning of such an output was written after old
abbrev pub IsBegun : List ℕ → List ℕ → List ℕ → Bool → List ℕ → List ℕ → Type 0
IsBegun config_text event_text question_text runs old new =
    (output : List ℕ) × (found : Shrinking) × Shrunk config_text event_text question_text runs output found × BeginsWith old output new

-- how the program ends after it
abbrev pub status_of : Shrinking → Status
status_of shrinking.Shrunk = Done
status_of shrinking.NotShown = Different
