-- Which numbers are told of steps.
use Rattle.std.specs.Prelude.{◌≡◌, ◌⊎◌, ℕ, ◌<◌, ◌≤◌, Bool, true, Option, None, Some, List, length, slice_get}
use Rattle.fmp_search.specs.declared.exploring.Answer.{Answer}
use Rattle.fmp_search.specs.declared.exploring.Answer.TheVariants as answer
use Rattle.fmp_search.specs.declared.meeting.Met.{Met}
use Rattle.fmp_search.specs.declared.nodes.Node.{Node}
use Rattle.fmp_search.specs.declared.staying.Stay.{Stay}
use Rattle.fmp_search.specs.declared.staying.Stay.TheVariants as stay
use Rattle.fmp_search.specs.Answers.{IsShortest, UsedUp}
use Rattle.fmp_search.specs.Runs.{run}
use Rattle.fmp_search.specs.Trees.{found_at}

-- the number is told of a step that can be made at a place
pub record IsReportedAt {P : Type 0} (after : P → ℕ → Option P) (tells : P → ℕ → ℕ) (r : P) (n : ℕ) : Type 0 where
  pub step : ℕ
  pub next : P
  pub goes : after r step ≡ Some next
  pub report : tells r step ≡ n

-- it is told of the step with which some run ends, and of one of at most so many steps
pub record IsReported {P : Type 0} (after : P → ℕ → Option P) (tells : P → ℕ → ℕ) (q : P) (n : ℕ) : Type 0 where
  pub steps : List ℕ
  pub place : P
  pub leads : run after q steps ≡ Some place
  pub last : IsReportedAt after tells place n

pub record IsReportedWithin {P : Type 0} (after : P → ℕ → Option P) (tells : P → ℕ → ℕ) (q : P) (turns n : ℕ) : Type 0 where
  pub steps : List ℕ
  pub place : P
  pub short : length steps < turns
  pub leads : run after q steps ≡ Some place
  pub last : IsReportedAt after tells place n

-- what the marks of so many numbers say: those with a mark are told of the steps of runs of at most so many steps, and those without one of none of these; or of none
-- at all, where all runs were gone through
pub record Meets {P : Type 0} (after : P → ℕ → Option P) (tells : P → ℕ → ℕ) (q : P) (turns count : ℕ) (m : Met) : Type 0 where
  pub as_many : length m.marks.items ≡ count
  pub report : (n : ℕ) → slice_get m.marks.items n ≡ Some true → IsReportedWithin after tells q turns n
  pub within : (n : ℕ) → n < count → IsReportedWithin after tells q turns n → slice_get m.marks.items n ≡ Some true
  pub all : m.whole ≡ true → (n : ℕ) → n < count → IsReported after tells q n → slice_get m.marks.items n ≡ Some true

-- a run leads to a place that is looked for
abbrev pub IsMet : {P : Type 0} → (P → ℕ → Option P) → (P → Bool) → P → Type 0
IsMet after wanted q = (steps : List ℕ) × IsShortest after wanted q steps

-- all room for places was used up by runs of fewer steps than were asked for
abbrev pub IsFull : {P : Type 0} → (P → ℕ → Option P) → P → ℕ → ℕ → Type 0
IsFull after q turns room = (n : ℕ) × (n < turns) × UsedUp after q n room

-- why nothing may be known of any number: a place that is looked for was met, the room was used up, or who may end the search did
abbrev pub IsLeftOpen : {P : Type 0} → (P → ℕ → Option P) → (P → Bool) → P → ℕ → ℕ → Bool → Type 0
IsLeftOpen after wanted q turns room over = IsMet after wanted q ⊎ (IsFull after q turns room ⊎ (over ≡ true))

-- all runs were gone through
abbrev pub IsOfAll : Option Met → Type 0
IsOfAll None = ⊥
IsOfAll (Some m) = m.whole ≡ true

-- which numbers are told of steps is known beside an answer of all runs, where that speaks of all, and of those of so many steps, unless the room did not do for these
abbrev pub IsMetBeside : ℕ → Answer → Option Met → Type 0
IsMetBeside turns (answer.Found steps) m = Unit {0}
IsMetBeside turns answer.Never m = IsOfAll m
IsMetBeside turns (answer.NotWithin n) m = m ≡ None → n < turns
IsMetBeside turns (answer.Wanting n) m = Unit {0}
IsMetBeside turns (answer.Ended n) m = Unit {0}

-- likewise beside what is known of runs from which on a test is passed for ever
abbrev pub IsMetBesideStay : ℕ → Stay → Option Met → Type 0
IsMetBesideStay turns (stay.Shortest test steps) m = IsOfAll m
IsMetBesideStay turns (stay.Found test steps) m = Unit {0}
IsMetBesideStay turns stay.Never m = IsOfAll m
IsMetBesideStay turns (stay.NotKnown n) m = m ≡ None → n < turns
IsMetBesideStay turns (stay.Wanting n) m = Unit {0}
IsMetBesideStay turns (stay.Ended n) m = Unit {0}

-- ---- on the way there

-- the marks of the one are marks of the other
abbrev pub AreKept : List Bool → List Bool → Type 0
AreKept marks more = (n : ℕ) → slice_get marks n ≡ Some true → slice_get more n ≡ Some true

-- what is told of a step from a place has a mark, if the step can be made and there is a mark for it
abbrev pub IsMarked : {P : Type 0} → (P → ℕ → Option P) → (P → ℕ → ℕ) → P → List Bool → ℕ → Type 0
IsMarked after tells r marks s = (next : _) → after r s ≡ Some next → tells r s < length marks → slice_get marks (tells r s) ≡ Some true

-- the marks of the one, and that of a number, if there is a mark for it
pub record Notes (number : ℕ) (marks more : List Bool) : Type 0 where
  pub marked : number < length marks → slice_get more number ≡ Some true
  pub kept : AreKept marks more
  pub met : (n : ℕ) → slice_get more n ≡ Some true → (slice_get marks n ≡ Some true) ⊎ (n ≡ number)
  pub long : length more ≡ length marks

-- it is told of a step from one of the first places
pub record IsNear {P : Type 0} (after : P → ℕ → Option P) (tells : P → ℕ → ℕ) (q : P) (nodes : List Node) (first n : ℕ) : Type 0 where
  pub number : ℕ
  pub early : number < first
  pub last : IsReportedAt after tells (found_at after q nodes number).place n

-- the marks are those of the numbers that are told of all steps from the first places, and of the first steps from the next
pub record AreNoted {P : Type 0} (after : P → ℕ → Option P) (tells : P → ℕ → ℕ) (q : P) (nodes : List Node) (marks : List Bool) (at steps : ℕ) : Type 0 where
  pub near : (n : ℕ) → slice_get marks n ≡ Some true → (first : ℕ) → at ≤ first → (0 < steps → at < first) → IsNear after tells q nodes first n
  pub before : (i s : ℕ) → i < at → IsMarked after tells (found_at after q nodes i).place marks s
  pub here : (s : ℕ) → s < steps → IsMarked after tells (found_at after q nodes at).place marks s
