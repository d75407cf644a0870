-- What a search through the orders that go on from a trace says, and what is written of it.
use Rattle.std.specs.Prelude.{◌≡◌, ◌≤◌, ◌<◌, ℕ, List, ◌++◌, length, Ok, codes, decimal}
use Rattle.fmp_codes.specs.declared.records.Record.{Record}
use Rattle.fmp_setup.specs.Setup.{Setup}
use Rattle.fmp_text_scripts.specs.ScriptGrammar.{SpellsScripts}
use Rattle.fmp_text_scripts.specs.Scripts.{Steps}
use Rattle.fmp_trace.specs.Lines.{lines_from}
use Rattle.fmp_trace_check.specs.Checking.{PrintsAnswers}
use Rattle.fmp_run_devices.specs.Devices.{BeginsWith}
use Rattle.fmp_smp_histories.specs.Histories.{events_of}
use Rattle.fmp_search.specs.Answers.{StopsAt}
use Rattle.fmp_search.specs.Guides.{guide, guided_after}
use Rattle.fmp_search_pattern.specs.declared.question.Step.{Step}
use Rattle.fmp_search_question.specs.Reading.{question_in}
use Rattle.fmp_search_orders.specs.declared.rules.Rules.{Rules}
use Rattle.fmp_search_orders.specs.Orders.{IsOrder}
use Rattle.fmp_search_orders.specs.Places.{after, origin}
use Rattle.fmp_search_orders.specs.Begun.{NoneShowsFrom, NoneShowsWithinFrom, IsShortestShowFrom, choices_of}
use Rattle.fmp_run_texts.specs.Texts.{SaysConfig}
use Rattle.fmp_run_explore.specs.declared.finding.Finding.{Finding}
use Rattle.fmp_run_explore.specs.declared.finding.Finding.TheVariants as finding

-- the text is the whole trace of an order that goes on from this one and shows the question, and no shorter one does. It is a trace of this
-- machine's answers, and within the limits of texts
pub record IsShownFrom (c : Setup) (scripts : List Steps) (rules : Rules) (question : List Step) (begun : List Record) (turns : ℕ) (text : List ℕ) : Type 0 where
  pub records : List Record
  pub shortest : IsShortestShowFrom c scripts rules question begun records
  pub within : length records ≤ turns
  pub prints : text ≡ lines_from c.names 1 records
  pub answers : PrintsAnswers c text (events_of records)

-- what is known of all orders that go on from one, and the text that tells it. Where that is not all, a place is as far as was asked for, the room for places was
-- used up, memory for them was wanting, or the search was ended
abbrev pub FindsFrom : Setup → List Steps → Rules → List Step → List Record → ℕ → ℕ → List ℕ → Finding → Type 0
FindsFrom c scripts rules question begun turns room text finding.Shown = IsShownFrom c scripts rules question begun turns text
FindsFrom c scripts rules question begun turns room text finding.Never = NoneShowsFrom c scripts rules question begun × (text ≡ codes "never\n")
FindsFrom c scripts rules question begun turns room text (finding.NotWithin n) =
    NoneShowsWithinFrom c scripts rules question begun n × (text ≡ codes "not within " ++ decimal n ++ codes "\n")
    × StopsAt (guided_after after) (guide (choices_of begun) (origin c scripts rules question)) turns room n
FindsFrom c scripts rules question begun turns room text (finding.Wanting n) =
    (n < turns) × NoneShowsWithinFrom c scripts rules question begun n × (text ≡ codes "not within " ++ decimal n ++ codes "\n")
FindsFrom c scripts rules question begun turns room text (finding.Ended n) =
    (n < turns) × NoneShowsWithinFrom c scripts rules question begun n × (text ≡ codes "not within " ++ decimal n ++ codes "\n")

-- a text is the trace of an order, and the other tells what is known of those that go on from it
pub record IsFoundFrom (c : Setup) (scripts : List Steps) (rules : Rules) (begun_text : List ℕ) (question : List Step) (turns room : ℕ) (text : List ℕ)
    (found : Finding) : Type 0 where
  pub begun : List Record
  pub order : IsOrder c scripts rules begun
  pub trace : begun_text ≡ lines_from c.names 1 begun
  pub finds : FindsFrom c scripts rules question begun turns room text found

-- the output says whether orders of the one text's machine, by the other's scripts, that go on from the trace of one show what is asked, where
-- there is room for so many places besides the first
pub record ExploredFrom (config_text script_text begun_text question_text : List ℕ) (rules : Rules) (turns room : ℕ) (output : List ℕ) (found : Finding) : Type 0 where
  pub config : Setup
  pub scripts : List Steps
  pub question : List Step
  pub says : SaysConfig config_text config
  pub spells : SpellsScripts config.names script_text scripts
  pub asks : question_in config.names question_text ≡ Ok question
  pub begun : List Record
  pub order : IsOrder config scripts rules begun
  pub trace : begun_text ≡ lines_from config.names 1 begun
  pub finds : FindsFrom config scripts rules question begun turns room output found

-- the output was written after old, all of it
abbrev pub IsExploredFrom : List ℕ → List ℕ → List ℕ → List ℕ → Rules → ℕ → ℕ → List ℕ → List ℕ → Finding → Type 0
IsExploredFrom config_text script_text begun_text question_text rules turns room old new found =
    (output : List ℕ) × ExploredFrom config_text script_text begun_text question_text rules turns room output found × (new ≡ old ++ output)

-- a beginning of such an output was written after old
abbrev pub IsBegunFrom : List ℕ → List ℕ → List ℕ → List ℕ → Rules → ℕ → ℕ → List ℕ → List ℕ → Type 0
IsBegunFrom config_text script_text begun_text question_text rules turns room old new =
    (output : List ℕ) × (found : Finding) × ExploredFrom config_text script_text begun_text question_text rules turns room output found × BeginsWith old output new
