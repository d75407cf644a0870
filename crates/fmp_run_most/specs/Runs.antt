-- What the run writes: the table of the figures of a configuration.
use Rattle.std.specs.Prelude.{◌≡◌, ℕ, Bool, true, false, List, ◌++◌}
use Rattle.fmp_setup.specs.Setup.{Setup}
use Rattle.fmp_text_scripts.specs.ScriptGrammar.{SpellsScripts}
use Rattle.fmp_text_scripts.specs.Scripts.{Steps}
use Rattle.fmp_search_orders.specs.declared.rules.Rules.{Rules}
use Rattle.fmp_run_devices.specs.Devices.{BeginsWith}
use Rattle.fmp_run_texts.specs.Texts.{SaysConfig}
use Rattle.fmp_run_most.specs.declared.settling.Reach.{Reach}
use Rattle.fmp_run_most.specs.declared.settling.Reach.TheVariants.{Whole}
use Rattle.fmp_run_most.specs.Figures.{figures_of}
use Rattle.fmp_run_most.specs.Most.{IsSettled}
use Rattle.fmp_run_most.specs.Table.{table_text}

abbrev pub is_whole : Reach → Bool
is_whole Whole = true
is_whole other = false

-- the text tells of each figure of a machine how far it goes in the orders of scripts, and of which orders that is known, by a search with room for so many places besides the first
pub record IsTable (c : Setup) (scripts : List Steps) (rules : Rules) (turns room : ℕ) (over : Bool) (text : List ℕ) (reach : Reach) : Type 0 where
  pub bounds : List ℕ
  pub settled : IsSettled c scripts rules turns room over reach (figures_of c) bounds
  pub prints : text ≡ table_text c (is_whole reach) (figures_of c) bounds

-- the same of the one text's machine, by the other's scripts
pub record Tells (config_text script_text : List ℕ) (rules : Rules) (turns room : ℕ) (over : Bool) (output : List ℕ) (reach : Reach) : Type 0 where
  pub config : Setup
  pub scripts : List Steps
  pub says : SaysConfig config_text config
  pub spells : SpellsScripts config.names script_text scripts
  pub tells : IsTable config scripts rules turns room over output reach

-- it was written after old, all of it
abbrev pub IsTold : List ℕ → List ℕ → Rules → ℕ → ℕ → Bool → List ℕ → List ℕ → Reach → Type 0
IsTold config_text script_text rules turns room over old new reach =
    (output : List ℕ) × Tells config_text script_text rules turns room over output reach × (new ≡ old ++ output)

-- a beginning of it was
abbrev pub IsBegun : List ℕ → List ℕ → Rules → ℕ → ℕ → Bool → List ℕ → List ℕ → Type 0
IsBegun config_text script_text rules turns room over old new =
    (output : List ℕ) × (reach : Reach) × Tells config_text script_text rules turns room over output reach × BeginsWith old output new
