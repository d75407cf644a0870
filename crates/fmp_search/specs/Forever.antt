-- Places from where on every step passes a test, and how marks tell which they are.
use Rattle.std.specs.Prelude.{◌≡◌, ◌⊎◌, ℕ, ◌/◌, ◌%◌, ◌^◌, ◌<◌, ◌≤◌, ◌==◌, Bool, true, false, Option, Some}
use Rattle.std.specs.Prelude.{List, [], ◌∷◌, ◌++◌, length}
use Rattle.std.specs.Prelude.{slice_index_or}
use Rattle.fmp_search.specs.declared.nodes.Node.{Node}
use Rattle.fmp_search.specs.declared.staying.Stay.{Stay}
use Rattle.fmp_search.specs.declared.staying.Stay.TheVariants as stay
use Rattle.fmp_search.specs.Answers.{StopsAt}
use Rattle.fmp_search.specs.Meeting.{IsMet}
use Rattle.fmp_search.specs.Runs.{run}
use Rattle.fmp_search.specs.Trees.{found_at}

-- ---- what is asked

-- each step that can be made at a place to which a run leads from there passes the test
abbrev pub ForEver : {P : Type 0} → (P → ℕ → Option P) → (P → ℕ → Bool) → P → Type 0
ForEver after test r = (steps : List ℕ) (t u : _) (s : ℕ) → run after r steps ≡ Some t → after t s ≡ Some u → test t s ≡ true

-- a run leads from a place to one at which a step can be made that fails the test
pub record GetsOut {P : Type 0} (after : P → ℕ → Option P) (test : P → ℕ → Bool) (r : P) : Type 0 where
  pub steps : List ℕ
  pub place : P
  pub step : ℕ
  pub next : P
  pub leads : run after r steps ≡ Some place
  pub goes : after place step ≡ Some next
  pub fails : test place step ≡ false

-- the last step of a run passes the test, and so does every one after it
pub record EndsForEver {P : Type 0} (after : P → ℕ → Option P) (test : P → ℕ → Bool) (q : P) (steps : List ℕ) : Type 0 where
  pub before : List ℕ
  pub last : ℕ
  pub is : steps ≡ before ++ last ∷ []
  pub place : P
  pub next : P
  pub leads : run after q before ≡ Some place
  pub goes : after place last ≡ Some next
  pub passes : test place last ≡ true
  pub for_ever : ForEver after test next

-- no run ends so
abbrev pub NoneForEver : {P : Type 0} → (P → ℕ → Option P) → (P → ℕ → Bool) → P → Type 0
NoneForEver after test q = (steps : List ℕ) → EndsForEver after test q steps → ⊥

-- a run ends so, and no shorter one does
pub record IsShortestForEver {P : Type 0} (after : P → ℕ → Option P) (test : P → ℕ → Bool) (q : P) (steps : List ℕ) : Type 0 where
  pub ends : EndsForEver after test q steps
  pub shortest : (others : List ℕ) → EndsForEver after test q others → length steps ≤ length others

-- whether bit k is set
abbrev pub is_bit : ℕ → ℕ → Bool
is_bit bits k = bits / 2 ^ k % 2 == 1

-- the test of a number, of those that are told as bits
abbrev pub test_of : {P : Type 0} → (P → ℕ → ℕ) → ℕ → P → ℕ → Bool
test_of passes k r s = is_bit (passes r s) k

-- ---- marks of places

-- whether the place of a number is marked. A number after the last is
abbrev pub mark_at : List Bool → ℕ → Bool
mark_at marks i = slice_index_or marks i true

-- each step from a place without a mark passes the test, and leads to a place without one
abbrev pub AreClosed : {P : Type 0} → (P → ℕ → Option P) → (P → ℕ → Bool) → P → List Node → List Bool → Type 0
AreClosed after test q nodes marks = (i s : ℕ) (r : _) → mark_at marks i ≡ false → after (found_at after q nodes i).place s ≡ Some r →
    (test (found_at after q nodes i).place s ≡ true) × ((j : ℕ) × (mark_at marks j ≡ false) × ((found_at after q nodes j).place ≡ r))

-- from each place with a mark a run leads to one at which a step fails the test
abbrev pub AreEarned : {P : Type 0} → (P → ℕ → Option P) → (P → ℕ → Bool) → P → List Node → List Bool → Type 0
AreEarned after test q nodes marks = (i : ℕ) → i ≤ length nodes → mark_at marks i ≡ true → GetsOut after test (found_at after q nodes i).place

-- every run leads to one of the places, and to one that was found by no more steps
abbrev pub AreNearest : {P : Type 0} → (P → ℕ → Option P) → P → List Node → Type 0
AreNearest after q nodes = (steps : List ℕ) (r : _) → run after q steps ≡ Some r →
    (i : ℕ) × (i ≤ length nodes) × ((found_at after q nodes i).place ≡ r) × ((found_at after q nodes i).depth ≤ length steps)

-- a step from a place passes the test and leads to a place without a mark
pub record Enters {P : Type 0} (after : P → ℕ → Option P) (test : P → ℕ → Bool) (q : P) (nodes : List Node) (marks : List Bool) (i s : ℕ) : Type 0 where
  pub few : i ≤ length nodes
  pub next : ℕ
  pub near : next ≤ length nodes
  pub goes : after (found_at after q nodes i).place s ≡ Some (found_at after q nodes next).place
  pub passes : test (found_at after q nodes i).place s ≡ true
  pub free : mark_at marks next ≡ false

-- what marks say of all runs
pub record MarksSay {P : Type 0} (after : P → ℕ → Option P) (test : P → ℕ → Bool) (q : P) (nodes : List Node) (marks : List Bool) : Type 0 where
  -- after a place without a mark the test is passed for ever
  pub sound : AreClosed after test q nodes marks → (i : ℕ) → mark_at marks i ≡ false → ForEver after test (found_at after q nodes i).place
  -- after one with a mark it is not
  pub complete : AreEarned after test q nodes marks → (i : ℕ) → i ≤ length nodes → mark_at marks i ≡ true →
      ForEver after test (found_at after q nodes i).place → ⊥
  -- where no step passes the test and leads to a place without one, no run ends with a step from which on it is passed for ever
  pub never : AreEarned after test q nodes marks → AreNearest after q nodes → ((i s : ℕ) → Enters after test q nodes marks i s → ⊥) →
      NoneForEver after test q
  -- the steps to a place and such a step from there are a run that ends so
  pub found : AreClosed after test q nodes marks → (i s : ℕ) (steps : List ℕ) → Enters after test q nodes marks i s →
      run after q steps ≡ Some (found_at after q nodes i).place → EndsForEver after test q (steps ++ s ∷ [])
  -- and a shortest one, if no such step is from a place that was found by fewer
  pub shortest : AreClosed after test q nodes marks → AreEarned after test q nodes marks → AreNearest after q nodes →
      (i s : ℕ) (steps : List ℕ) → Enters after test q nodes marks i s → run after q steps ≡ Some (found_at after q nodes i).place →
      ((j t : ℕ) → Enters after test q nodes marks j t → length steps ≤ (found_at after q nodes j).depth) → IsShortestForEver after test q (steps ++ s ∷ [])

-- ---- what is known

-- what an answer says of the runs whose last step passes one of so many tests, as every step after it does, by a search of at most so many steps with room
-- for so many places besides the first. Where it was ended, it met a place that is looked for, or who may end it did
abbrev pub SaysForEver : {P : Type 0} → (P → ℕ → Option P) → (P → ℕ → ℕ) → (P → Bool) → P → ℕ → ℕ → ℕ → Bool → Stay → Type 0
SaysForEver after passes wanted q tests turns room over (stay.Shortest test steps) =
    (test < tests) × (length steps.items ≤ turns) × EndsForEver after (test_of passes test) q steps.items
    × ((k : ℕ) (others : List ℕ) → k < tests → EndsForEver after (test_of passes k) q others → length steps.items ≤ length others)
SaysForEver after passes wanted q tests turns room over (stay.Found test steps) =
    (test < tests) × (length steps.items ≤ turns) × EndsForEver after (test_of passes test) q steps.items
SaysForEver after passes wanted q tests turns room over stay.Never = (k : ℕ) → k < tests → NoneForEver after (test_of passes k) q
SaysForEver after passes wanted q tests turns room over (stay.NotKnown n) = StopsAt after q turns room n
SaysForEver after passes wanted q tests turns room over (stay.Wanting n) = n < turns
SaysForEver after passes wanted q tests turns room over (stay.Ended n) = (n ≤ turns) × (IsMet after wanted q ⊎ (over ≡ true))
