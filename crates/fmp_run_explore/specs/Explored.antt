-- What a search through all orders says, and what is written of it.
use Rattle.std.specs.Prelude.{◌≡◌, ◌≤◌, ◌<◌, ℕ, Bool, true, List, ◌++◌, length, Ok, codes, decimal}
use Rattle.fmp_codes.specs.declared.records.Record.{Record}
use Rattle.fmp_setup.specs.Setup.{Setup}
use Rattle.fmp_text_scripts.specs.ScriptGrammar.{SpellsScripts}
use Rattle.fmp_text_scripts.specs.Scripts.{Steps}
use Rattle.fmp_trace.specs.Lines.{lines_from}
use Rattle.fmp_trace_check.specs.Checking.{PrintsAnswers}
use Rattle.fmp_run_devices.specs.Devices.{BeginsWith}
use Rattle.fmp_smp_histories.specs.Histories.{events_of}
use Rattle.fmp_search.specs.Answers.{StopsAt}
use Rattle.fmp_search_pattern.specs.declared.question.Step.{Step}
use Rattle.fmp_search_question.specs.Reading.{question_in}
use Rattle.fmp_search_orders.specs.declared.rules.Rules.{Rules}
use Rattle.fmp_search_orders.specs.Places.{after, origin}
use Rattle.fmp_search_orders.specs.Shown.{NoneShows, NoneShowsWithin, IsShortestShow}
use Rattle.fmp_run_texts.specs.declared.status.Status.{Status}
use Rattle.fmp_run_texts.specs.declared.status.Status.TheVariants.{Done, Different, Limit}
use Rattle.fmp_run_texts.specs.Texts.{SaysConfig}
use Rattle.fmp_run_explore.specs.declared.finding.Finding.{Finding}
use Rattle.fmp_run_explore.specs.declared.finding.Finding.TheVariants as finding

-- the text is the trace of an order that shows the question, and no order that does is shorter. It is a trace of this machine's
-- answers, and within the limits of texts
pub record IsShown (c : Setup) (scripts : List Steps) (rules : Rules) (question : List Step) (turns : ℕ) (text : List ℕ) : Type 0 where
  pub records : List Record
  pub shortest : IsShortestShow c scripts rules question records
  pub within : length records ≤ turns
  pub prints : text ≡ lines_from c.names 1 records
  pub answers : PrintsAnswers c text (events_of records)

-- what is known of all orders, and the text that tells it. Where that is not all, a place is as far as was asked for, the room for places was used up, memory
-- for them was wanting, or the search was ended
abbrev pub Finds : Setup → List Steps → Rules → List Step → ℕ → ℕ → List ℕ → Finding → Type 0
Finds c scripts rules question turns room text finding.Shown = IsShown c scripts rules question turns text
Finds c scripts rules question turns room text finding.Never = NoneShows c scripts rules question × (text ≡ codes "never\n")
Finds c scripts rules question turns room text (finding.NotWithin n) =
    NoneShowsWithin c scripts rules question n × (text ≡ codes "not within " ++ decimal n ++ codes "\n")
    × StopsAt after (origin c scripts rules question) turns room n
Finds c scripts rules question turns room text (finding.Wanting n) =
    (n < turns) × NoneShowsWithin c scripts rules question n × (text ≡ codes "not within " ++ decimal n ++ codes "\n")
Finds c scripts rules question turns room text (finding.Ended n) =
    (n < turns) × NoneShowsWithin c scripts rules question n × (text ≡ codes "not within " ++ decimal n ++ codes "\n")

-- where a search was ended, who may end it did
abbrev pub IsEndedBy : Bool → Finding → Type 0
IsEndedBy over finding.Shown = Unit {0}
IsEndedBy over finding.Never = Unit {0}
IsEndedBy over (finding.NotWithin n) = Unit {0}
IsEndedBy over (finding.Wanting n) = Unit {0}
IsEndedBy over (finding.Ended n) = over ≡ true

-- the output says whether orders of the one text's machine, by the other's scripts, show what the third asks, where there is room for so
-- many places besides the first
pub record Explored (config_text script_text question_text : List ℕ) (rules : Rules) (turns room : ℕ) (output : List ℕ) (found : Finding) : Type 0 where
  pub config : Setup
  pub scripts : List Steps
  pub question : List Step
  pub says : SaysConfig config_text config
  pub spells : SpellsScripts config.names script_text scripts
  pub asks : question_in config.names question_text ≡ Ok question
  pub finds : Finds config scripts rules question turns room output found

-- the output was written after old, all of it
abbrev pub IsExplored : List ℕ → List ℕ → List ℕ → Rules → ℕ → ℕ → List ℕ → List ℕ → Finding → Type 0
IsExplored config_text script_text question_text rules turns room old new found =
    (output : List ℕ) × Explored config_text script_text question_text rules turns room output found × (new ≡ old ++ output)

-- a beginning of such an output was written after old
abbrev pub IsBegun : List ℕ → List ℕ → List ℕ → Rules → ℕ → ℕ → List ℕ → List ℕ → Type 0
IsBegun config_text script_text question_text rules turns room old new =
    (output : List ℕ) × (found : Finding) × Explored config_text script_text question_text rules turns room output found × BeginsWith old output new

-- what is known of the orders of one machine was written after old, all of it, or a beginning
abbrev pub IsWritten : Setup → List Steps → Rules → List Step → ℕ → ℕ → List ℕ → List ℕ → Finding → Type 0
IsWritten c scripts rules question turns room old new found = (output : List ℕ) × Finds c scripts rules question turns room output found × (new ≡ old ++ output)

abbrev pub IsPartWritten : Setup → List Steps → Rules → List Step → ℕ → ℕ → List ℕ → List ℕ → Type 0
IsPartWritten c scripts rules question turns room old new =
    (output : List ℕ) × (found : Finding) × Finds c scripts rules question turns room output found × BeginsWith old output new

-- how the program ends after it
abbrev pub status_of : Finding → Status
status_of finding.Shown = Different
status_of finding.Never = Done
status_of (finding.NotWithin n) = Limit
status_of (finding.Wanting n) = Limit
status_of (finding.Ended n) = Limit
