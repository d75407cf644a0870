-- What was found so far of runs from which on a test is passed for ever.
use Rattle.std.specs.Prelude.{◌≡◌, ℕ, ◌+◌, ◌<◌, ◌≤◌, Bool, true, false, Option, None, Some, List, length, slice_get}
use Rattle.fmp_search.specs.declared.edges.Edge.{Edge}
use Rattle.fmp_search.specs.declared.nodes.Node.{Node}
use Rattle.fmp_search.specs.declared.staying.Run.{Run}
use Rattle.fmp_search.specs.declared.staying.Stay.{Stay}
use Rattle.fmp_search.specs.declared.staying.Stay.TheVariants as stay
use Rattle.fmp_search.specs.Trees.{found_at}
use Rattle.fmp_search.specs.Forever.{is_bit, mark_at, test_of, EndsForEver}

-- the run that was found has at most so many steps, and ends for ever by its test, which is one of so many
abbrev pub IsRight : {P : Type 0} → (P → ℕ → Option P) → (P → ℕ → ℕ) → P → ℕ → ℕ → Option Run → Type 0
IsRight after passes q turns tests None = Unit {0}
IsRight after passes q turns tests (Some r) = (r.test < tests) × (length r.steps.items ≤ turns) × EndsForEver after (test_of passes r.test) q r.steps.items

-- a run was found, of at most so many steps
abbrev pub HasWithin : Option Run → ℕ → Type 0
HasWithin None n = ⊥
HasWithin (Some r) n = length r.steps.items ≤ n

-- where an edge passes the test and leads to a place without a mark, a run was found that is no longer than the one over it
abbrev pub AreEntered : {P : Type 0} → (P → ℕ → Option P) → P → List Node → List Edge → List Bool → ℕ → Option Run → Type 0
AreEntered after q nodes edges marks test best = (k : ℕ) (e : Edge) → slice_get edges k ≡ Some e → is_bit e.passes test ≡ true →
    mark_at marks e.to ≡ false → HasWithin best ((found_at after q nodes e.from).depth + 1)

-- where a run ends for ever by the test, one was found that is no longer
abbrev pub Covers : {P : Type 0} → (P → ℕ → Option P) → (P → ℕ → ℕ) → P → ℕ → Option Run → Type 0
Covers after passes q test best = (others : List ℕ) → EndsForEver after (test_of passes test) q others → HasWithin best (length others)

-- an answer by marks, for which all places were opened where it speaks of all runs
abbrev pub IsBacked : Bool → Stay → Type 0
IsBacked whole (stay.Shortest test steps) = whole ≡ true
IsBacked whole (stay.Found test steps) = Unit {0}
IsBacked whole stay.Never = whole ≡ true
IsBacked whole (stay.NotKnown n) = ⊥
IsBacked whole (stay.Wanting n) = ⊥
IsBacked whole (stay.Ended n) = ⊥
