-- How many steps of a question come, where no order shows all of them.
use Rattle.std.specs.Prelude.{◌≡◌, ℕ, suc, ◌<◌, Bool, List, take, length, Option, None, Some}
use Rattle.fmp_codes.specs.declared.records.Record.{Record}
use Rattle.fmp_text_scripts.specs.Scripts.{Steps}
use Rattle.fmp_setup.specs.Setup.{Setup}
use Rattle.fmp_search_pattern.specs.declared.question.Step.{Step}
use Rattle.fmp_search_orders.specs.declared.rules.Rules.{Rules}
use Rattle.fmp_search_orders.specs.Orders.{IsOrder}
use Rattle.fmp_search_orders.specs.Shown.{Shows, NoneShows}
use Rattle.fmp_run_texts.specs.declared.status.Status.TheVariants.{Limit}
use Rattle.fmp_run_explore.specs.declared.finding.Finding.{Finding}
use Rattle.fmp_run_explore.specs.Explored.{Finds, IsEndedBy, status_of}
use Rattle.fmp_run_explore.specs.Searched.{Searched}

-- some order shows the question
abbrev pub SomeShows : Setup → List Steps → Rules → List Step → Type 0
SomeShows c scripts rules question = (h : List Record) × IsOrder c scripts rules h × Shows c rules question h

-- some order shows the first n steps, and none shows one step more
pub record HasCome (c : Setup) (scripts : List Steps) (rules : Rules) (question : List Step) (n : ℕ) : Type 0 where
  pub come : SomeShows c scripts rules (take n question)
  pub last : NoneShows c scripts rules (take (suc n) question)

-- a search for the first steps, some of them, did not say whether an order shows them
pub record IsLeftOpen (c : Setup) (scripts : List Steps) (rules : Rules) (question : List Step) (turns room : ℕ) (over : Bool) : Type 0 where
  pub steps : ℕ
  pub found : Finding
  pub text : List ℕ
  pub fewer : steps < length question
  pub finds : Finds c scripts rules (take steps question) turns room text found
  pub ended : IsEndedBy over found
  pub unknown : status_of found ≡ Limit

-- what is known of the steps of what was looked for
abbrev pub IsCome : Searched → ℕ → ℕ → Bool → Option ℕ → Type 0
IsCome s turns room over None = IsLeftOpen s.config s.scripts s.rules s.question turns room over
IsCome s turns room over (Some n) = HasCome s.config s.scripts s.rules s.question n
