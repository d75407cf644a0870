-- What was searched, as contracts see it.
use Rattle.std.specs.Prelude.{◌≡◌, ℕ, List, Ok}
use Rattle.fmp_setup.specs.Setup.{Setup}
use Rattle.fmp_text_scripts.specs.ScriptGrammar.{SpellsScripts}
use Rattle.fmp_text_scripts.specs.Scripts.{Steps}
use Rattle.fmp_search_pattern.specs.declared.question.Step.{Step}
use Rattle.fmp_search_question.specs.Reading.{question_in}
use Rattle.fmp_search_orders.specs.declared.rules.Rules.{Rules}
use Rattle.fmp_run_texts.specs.Texts.{SaysConfig}

-- the orders by the scripts of a machine and these rules, and what is looked for in them
pub record Searched : Type 0 where
  pub config : Setup
  pub scripts : List Steps
  pub rules : Rules
  pub question : List Step

abbrev pub searched : Setup → List Steps → Rules → List Step → Searched
searched c scripts rules question = record { config = c; scripts = scripts; rules = rules; question = question }

-- it is the one text's machine, the other's scripts, these rules, and the question of the third
pub record IsOfTexts (config_text script_text question_text : List ℕ) (rules : Rules) (s : Searched) : Type 0 where
  pub config : Setup
  pub scripts : List Steps
  pub question : List Step
  pub says : SaysConfig config_text config
  pub spells : SpellsScripts config.names script_text scripts
  pub asks : question_in config.names question_text ≡ Ok question
  pub is : s ≡ searched config scripts rules question
