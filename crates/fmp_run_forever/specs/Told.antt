-- Which calls of the scripts are made, beside what stays.
use Rattle.std.specs.Prelude.{◌≡◌, ℕ, ◌<◌, List, Option, None, IfSome}
use Rattle.fmp_setup.specs.Setup.{Setup}
use Rattle.fmp_text_scripts.specs.Scripts.{Steps}
use Rattle.fmp_search.specs.declared.meeting.Met.{Met}
use Rattle.fmp_search.specs.Meeting.{IsOfAll}
use Rattle.fmp_search_orders.specs.declared.rules.Rules.{Rules}
use Rattle.fmp_run_explore.specs.Made.{SaysMade}
use Rattle.fmp_run_forever.specs.declared.staying.Staying.{Staying}
use Rattle.fmp_run_forever.specs.declared.staying.Staying.TheVariants as staying

-- it is told of all orders where nothing stays in any, and of those of so many lines where these were gone through
abbrev pub IsMetBeside : ℕ → Staying → Option Met → Type 0
IsMetBeside turns (staying.Shortest number lines) m = Unit {0}
IsMetBeside turns (staying.Found number lines) m = Unit {0}
IsMetBeside turns staying.Never m = IsOfAll m
IsMetBeside turns (staying.NotWithin n) m = m ≡ None → n < turns
IsMetBeside turns (staying.Wanting n) m = Unit {0}
IsMetBeside turns (staying.Ended n) m = Unit {0}

-- and what is told is so
pub record TellsCalls (c : Setup) (scripts : List Steps) (rules : Rules) (turns : ℕ) (found : Staying) (m : Option Met) : Type 0 where
  pub says : IfSome m (SaysMade c scripts rules turns)
  pub beside : IsMetBeside turns found m
