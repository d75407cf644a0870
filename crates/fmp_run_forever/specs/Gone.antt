-- How far a search for what stays went: how many places it found, and by how many lines the farthest of them.
use Rattle.std.specs.Prelude.{◌≡◌, ℕ, ◌+◌, Bool, true, List, [], length, Ok}
use Rattle.fmp_setup.specs.Setup.{Setup}
use Rattle.fmp_text_scripts.specs.ScriptGrammar.{SpellsScripts}
use Rattle.fmp_text_scripts.specs.Scripts.{Steps}
use Rattle.fmp_search.specs.declared.extent.Extent.{Extent}
use Rattle.fmp_search.specs.declared.nodes.Node.{Node}
use Rattle.fmp_search.specs.Answers.{IsComplete}
use Rattle.fmp_search.specs.Extents.{HasGone as HasFound}
use Rattle.fmp_search.specs.Forever.{AreNearest}
use Rattle.fmp_search_pattern.specs.Lasting.{Lasting}
use Rattle.fmp_search_question.specs.Lasting.{lasting_in}
use Rattle.fmp_search_orders.specs.declared.rules.Rules.{Rules}
use Rattle.fmp_search_orders.specs.Places.{origin}
use Rattle.fmp_search_orders.specs.Watched.{Watched, watched, watched_after}
use Rattle.fmp_run_texts.specs.Texts.{SaysConfig}
use Rattle.fmp_run_forever.specs.declared.staying.Staying.{Staying}
use Rattle.fmp_run_forever.specs.declared.staying.Staying.TheVariants as staying

-- where all runs begin that were gone through
abbrev pub begin_of : Setup → List Steps → Rules → List Lasting → Watched
begin_of c scripts rules lasting = watched lasting (origin c scripts rules [])

-- After `never` every order leads to one of the places, and after `not within` every order of so many lines. Where the search was ended, who may end it did
abbrev pub AreAll : Watched → Bool → Staying → List Node → Type 0
AreAll q over staying.Never nodes = AreNearest watched_after q nodes
AreAll q over (staying.Shortest number lines) nodes = Unit {0}
AreAll q over (staying.Found number lines) nodes = Unit {0}
AreAll q over (staying.NotWithin n) nodes = IsComplete watched_after q nodes n (length nodes + 1)
AreAll q over (staying.Wanting n) nodes = IsComplete watched_after q nodes n (length nodes + 1)
AreAll q over (staying.Ended n) nodes = IsComplete watched_after q nodes n (length nodes + 1) × (over ≡ true)

-- the search found so many places
abbrev pub IsGone : Setup → List Steps → Rules → List Lasting → Bool → Staying → Extent → Type 0
IsGone c scripts rules lasting over found e =
    (nodes : List Node) × HasFound watched_after (begin_of c scripts rules lasting) nodes e × AreAll (begin_of c scripts rules lasting) over found nodes

-- likewise, through the orders of the one text's machine, by the other's scripts, of what the third asks
pub record HasGone (config_text script_text question_text : List ℕ) (rules : Rules) (lasting : List Lasting) (over : Bool) (found : Staying)
    (e : Extent) : Type 0 where
  pub config : Setup
  pub scripts : List Steps
  pub says : SaysConfig config_text config
  pub spells : SpellsScripts config.names script_text scripts
  pub asks : lasting_in config.names question_text ≡ Ok lasting
  pub gone : IsGone config scripts rules lasting over found e
