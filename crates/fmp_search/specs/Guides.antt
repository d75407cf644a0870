-- Runs whose first steps are given, each as one of two.
use Rattle.std.specs.Prelude.{◌≡◌, ◌==◌, ℕ, ◌≤◌, ◌<◌, Bool, true, false, ◌||◌, ◌&&◌, Option, None, Some}
use Rattle.std.specs.Prelude.{List, [], ◌∷◌, drop, length, if◌then◌else◌}
use Rattle.std.specs.Option.{option_map}
use Rattle.fmp_search.specs.declared.guided.Choice.{Choice}
use Rattle.fmp_search.specs.declared.exploring.Answer.{Answer}
use Rattle.fmp_search.specs.declared.exploring.Answer.TheVariants as answer
use Rattle.fmp_search.specs.Runs.{run}
use Rattle.fmp_search.specs.Answers.{StopsAt}

-- the step is one of the two
abbrev pub is_of : Choice → ℕ → Bool
is_of c s = (c.step == s) || (c.other == s)

-- a list of steps begins with one of each of these choices
abbrev pub Follows : List Choice → List ℕ → Type 0
Follows [] steps = Unit {0}
Follows (c ∷ cs) [] = ⊥
Follows (c ∷ cs) (s ∷ steps) = (is_of c s ≡ true) × Follows cs steps

-- ---- what is known of all runs that begin so

abbrev pub NoneWithinAlong : {P : Type 0} → (P → ℕ → Option P) → (P → Bool) → P → List Choice → ℕ → Type 0
NoneWithinAlong after wanted q cs n =
    (steps : List ℕ) (r : _) → Follows cs steps → length steps ≤ n → run after q steps ≡ Some r → wanted r ≡ false

abbrev pub NoneEverAlong : {P : Type 0} → (P → ℕ → Option P) → (P → Bool) → P → List Choice → Type 0
NoneEverAlong after wanted q cs = (steps : List ℕ) (r : _) → Follows cs steps → run after q steps ≡ Some r → wanted r ≡ false

-- the steps begin so and lead to a place that is looked for, and no fewer do
pub record IsShortestAlong {P : Type 0} (after : P → ℕ → Option P) (wanted : P → Bool) (q : P) (cs : List Choice) (steps : List ℕ) : Type 0 where
  pub place : P
  pub follows : Follows cs steps
  pub leads : run after q steps ≡ Some place
  pub is_wanted : wanted place ≡ true
  pub shortest : (others : List ℕ) (r : P) → Follows cs others → run after q others ≡ Some r → wanted r ≡ true → length steps ≤ length others

-- ---- the graph of these runs

-- a place, and what has to be chosen from there on
pub record Guide (P : Type 0) : Type 0 where
  pub place : P
  pub choices : List Choice

abbrev pub may_choose : List Choice → ℕ → Bool
may_choose [] s = true
may_choose (c ∷ cs) s = is_of c s

abbrev pub guide : {P : Type 0} → List Choice → P → Guide P
guide cs r = record { place = r; choices = cs }

abbrev pub guided_after : {P : Type 0} → (P → ℕ → Option P) → Guide P → ℕ → Option (Guide P)
guided_after after w s = if may_choose w.choices s then option_map (guide (drop 1 w.choices)) (after w.place s) else None

abbrev pub is_empty : List Choice → Bool
is_empty [] = true
is_empty (c ∷ cs) = false

-- nothing has to be chosen any more, and the place is looked for
abbrev pub guided_wanted : {P : Type 0} → (P → Bool) → Guide P → Bool
guided_wanted wanted w = is_empty w.choices && wanted w.place

-- what an answer says of the runs that begin so
abbrev pub SaysAlong : {P : Type 0} → (P → ℕ → Option P) → (P → Bool) → P → List Choice → ℕ → ℕ → Answer → Type 0
SaysAlong after wanted q cs most room (answer.Found steps) = (length steps.items ≤ most) × IsShortestAlong after wanted q cs steps.items
SaysAlong after wanted q cs most room answer.Never = NoneEverAlong after wanted q cs
SaysAlong after wanted q cs most room (answer.NotWithin n) =
    NoneWithinAlong after wanted q cs n × StopsAt (guided_after after) (guide cs q) most room n
SaysAlong after wanted q cs most room (answer.Wanting n) = (n < most) × NoneWithinAlong after wanted q cs n
SaysAlong after wanted q cs most room (answer.Ended n) = (n < most) × NoneWithinAlong after wanted q cs n
