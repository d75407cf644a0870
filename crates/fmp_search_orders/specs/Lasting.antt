-- What stays for ever: it is at the last record of an order, and at each record after it in every order that goes on from there.
use Rattle.std.specs.Prelude.{◌≡◌, ℕ, ◌≤◌, Bool, true, false, List, [], ◌∷◌, ◌++◌, length, Option, None, Some}
use Rattle.fmp_codes.specs.declared.records.Event.{Event}
use Rattle.fmp_codes.specs.declared.records.Record.{Record}
use Rattle.fmp_text_scripts.specs.Scripts.{Steps}
use Rattle.fmp_setup.specs.Setup.{Setup}
use Rattle.fmp_rules.specs.Step.{step}
use Rattle.fmp_kernel_order.specs.Queues.{listed}
use Rattle.fmp_search.specs.Forever.{EndsForEver, NoneForEver, IsShortestForEver}
use Rattle.fmp_search_pattern.specs.Sights.{Sight}
use Rattle.fmp_search_orders.specs.declared.rules.Rules.{Rules}
use Rattle.fmp_search_orders.specs.Orders.{IsOrder}
use Rattle.fmp_search_orders.specs.Shown.{last_sight}
use Rattle.fmp_search_orders.specs.Places.{Place, origin, after, event_of, went, sight_at, records}

-- the last record of an order has it, and so has the last of every order that goes on from there
pub record StaysForEver (c : Setup) (scripts : List Steps) (rules : Rules) (test : Sight → Bool) (h : List Record) (last : Record) : Type 0 where
  pub there : test (last_sight c rules h last) ≡ true
  pub stays : (more : List Record) (r : Record) → IsOrder c scripts rules (h ++ more ++ r ∷ []) → test (last_sight c rules (h ++ more ++ r ∷ []) r) ≡ true

-- an order that ends with a record from which on it stays
pub record EndsSo (c : Setup) (scripts : List Steps) (rules : Rules) (test : Sight → Bool) (h : List Record) : Type 0 where
  pub before : List Record
  pub last : Record
  pub is : h ≡ before ++ last ∷ []
  pub order : IsOrder c scripts rules h
  pub stays : StaysForEver c scripts rules test h last

abbrev pub NoneEndsSo : Setup → List Steps → Rules → (Sight → Bool) → Type 0
NoneEndsSo c scripts rules test = (h : List Record) → EndsSo c scripts rules test h → ⊥

pub record IsShortestSo (c : Setup) (scripts : List Steps) (rules : Rules) (test : Sight → Bool) (h : List Record) : Type 0 where
  pub ends : EndsSo c scripts rules test h
  pub shortest : (g : List Record) → EndsSo c scripts rules test g → length h ≤ length g

-- ---- the same over places. No question is asked, so that no step is marked

abbrev pub test_there : (Sight → Bool) → Place → Option Event → Bool
test_there test w None = true
test_there test w (Some e) = test (sight_at (went w false (step listed w.machine e)) (step listed w.machine e).1)

-- whether the event of a step has it
abbrev pub step_test : (Sight → Bool) → Place → ℕ → Bool
step_test test w s = test_there test w (event_of w s)

-- a run over places that ends so, as an order of so many records does
abbrev pub IsRunSo : Setup → List Steps → Rules → (Sight → Bool) → ℕ → List ℕ → Type 0
IsRunSo c scripts rules test n steps = EndsForEver after (step_test test) (origin c scripts rules []) steps × (length steps ≡ n)

-- what an answer over places says of all orders
pub record LastingAnswer (c : Setup) (scripts : List Steps) (rules : Rules) (test : Sight → Bool) : Type 0 where
  pub never : NoneForEver after (step_test test) (origin c scripts rules []) → NoneEndsSo c scripts rules test
  pub found : (steps : List ℕ) → EndsForEver after (step_test test) (origin c scripts rules []) steps →
      EndsSo c scripts rules test (records (origin c scripts rules []) steps) × (length (records (origin c scripts rules []) steps) ≡ length steps)
  pub shortest : (steps : List ℕ) → IsShortestForEver after (step_test test) (origin c scripts rules []) steps
      → IsShortestSo c scripts rules test (records (origin c scripts rules []) steps)
  pub runs : (h : List Record) → EndsSo c scripts rules test h → (steps : List ℕ) × IsRunSo c scripts rules test (length h) steps
