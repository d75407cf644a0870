-- Texts that begin with the trace of an order, and the first line that no order has.
use Rattle.std.specs.Prelude.{◌≡◌, ◌≢◌, ℕ, ◌+◌, ◌≤◌, List, ◌++◌, length}
use Rattle.fmp_codes.specs.declared.records.Record.{Record}
use Rattle.fmp_text_scripts.specs.Scripts.{Steps}
use Rattle.fmp_text_scripts.specs.ScriptGrammar.{SpellsScripts}
use Rattle.fmp_setup.specs.Setup.{Setup}
use Rattle.fmp_trace.specs.Lines.{lines_from}
use Rattle.fmp_search.specs.declared.guided.Choice.{Choice}
use Rattle.fmp_search_orders.specs.declared.rules.Rules.{Rules}
use Rattle.fmp_search_orders.specs.Orders.{IsOrder}
use Rattle.fmp_search_orders.specs.Begun.{choices_of}
use Rattle.fmp_run_texts.specs.Texts.{SaysConfig}
use Rattle.fmp_run_explore_from.specs.declared.begun.BegunFault.{BegunFault}
use Rattle.fmp_run_explore_from.specs.declared.begun.BegunFault.TheVariants as begun

-- the text begins with the trace of this history
abbrev pub BeginsSo : Setup → List ℕ → List Record → Type 0
BeginsSo c text h = (rest : List ℕ) × (text ≡ lines_from c.names 1 h ++ rest)

-- line n of the text is the first that no order has there: the longest order whose trace the text begins with has the lines before it, and
-- the text goes on after them
pub record FirstStray (c : Setup) (scripts : List Steps) (rules : Rules) (text : List ℕ) (n : ℕ) : Type 0 where
  pub records : List Record
  pub order : IsOrder c scripts rules records
  pub line : length records + 1 ≡ n
  pub begins : BeginsSo c text records
  pub longest : (other : List Record) → IsOrder c scripts rules other → BeginsSo c text other → length other ≤ length records
  pub goes_on : text ≢ lines_from c.names 1 records

-- the same of the one text's machine and the other's scripts
pub record IsStray (config_text script_text : List ℕ) (rules : Rules) (text : List ℕ) (n : ℕ) : Type 0 where
  pub config : Setup
  pub scripts : List Steps
  pub says : SaysConfig config_text config
  pub spells : SpellsScripts config.names script_text scripts
  pub stray : FirstStray config scripts rules text n

-- the text is the trace of an order, and these are the choices of its events
pub record IsBegunBy (c : Setup) (scripts : List Steps) (rules : Rules) (text : List ℕ) (choices : List Choice) : Type 0 where
  pub records : List Record
  pub order : IsOrder c scripts rules records
  pub trace : text ≡ lines_from c.names 1 records
  pub chosen : choices ≡ choices_of records

-- or it is none, by its first line that is none's
abbrev pub IsBegunFault : Setup → List Steps → Rules → List ℕ → BegunFault → Type 0
IsBegunFault c scripts rules text begun.Memory = Unit {0}
IsBegunFault c scripts rules text (begun.Stray n) = FirstStray c scripts rules text n
