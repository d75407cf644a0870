-- Which calls of the scripts are made in orders.
use Rattle.std.specs.Prelude.{◌≡◌, ℕ, ◌<◌, true, List, Option, None, Some, IfSome, length, slice_get}
use Rattle.fmp_setup.specs.Setup.{Setup}
use Rattle.fmp_text_scripts.specs.Scripts.{Steps}
use Rattle.fmp_search.specs.declared.meeting.Met.{Met}
use Rattle.fmp_search.specs.Meeting.{IsOfAll}
use Rattle.fmp_search_orders.specs.declared.rules.Rules.{Rules}
use Rattle.fmp_search_orders.specs.Made.{IsMade, IsMadeWithin, lets_pass, no_number}
use Rattle.fmp_run_explore.specs.declared.finding.Finding.{Finding}
use Rattle.fmp_run_explore.specs.declared.finding.Finding.TheVariants as finding
use Rattle.fmp_run_explore.specs.Searched.{Searched}

-- What marks of numbers say: a call whose number has a mark is made in some order of at most so many lines, and one whose number has none in none of these; or in none at
-- all, where all orders were gone through
pub record SaysMade (c : Setup) (scripts : List Steps) (rules : Rules) (turns : ℕ) (m : Met) : Type 0 where
  pub numbers : length m.marks.items ≡ no_number
  pub made : (n : ℕ) → slice_get m.marks.items n ≡ Some true → IsMadeWithin c scripts rules turns n
  pub within : (n : ℕ) → n < no_number → IsMadeWithin c scripts rules turns n → slice_get m.marks.items n ≡ Some true
  pub all : m.whole ≡ true → (n : ℕ) → n < no_number → IsMade c scripts rules n → slice_get m.marks.items n ≡ Some true

-- beside what a search for a question found, what is told of calls is so. It is told of all orders where none shows the question, and of those of so many lines where these
-- were gone through, if the question lets every event be passed by
abbrev pub IsMetBeside : ℕ → Finding → Option Met → Type 0
IsMetBeside turns finding.Shown m = Unit {0}
IsMetBeside turns finding.Never m = IsOfAll m
IsMetBeside turns (finding.NotWithin n) m = m ≡ None → n < turns
IsMetBeside turns (finding.Wanting n) m = Unit {0}
IsMetBeside turns (finding.Ended n) m = Unit {0}

pub record TellsCalls (s : Searched) (turns : ℕ) (f : Finding) (m : Option Met) : Type 0 where
  pub says : IfSome m (SaysMade s.config s.scripts s.rules turns)
  pub beside : lets_pass s.question ≡ true → IsMetBeside turns f m
