-- How marks of places spread along edges, from where they lead back to where they come from.
use Rattle.std.specs.Prelude.{◌≡◌, ℕ, ◌<◌, ◌≤◌, Bool, true, false, not, Some, List, [], ◌∷◌, length, slice_get}
use Rattle.std.specs.List.{count_by}
use Rattle.fmp_search.specs.declared.edges.Edge.{Edge}
use Rattle.fmp_search.specs.Forever.{is_bit, mark_at}

-- both ends of each edge are below a number
abbrev pub AreWithin : List Edge → ℕ → Type 0
AreWithin edges n = (k : ℕ) (e : Edge) → slice_get edges k ≡ Some e → (e.from < n) × (e.to < n)

-- an edge leads from the one number to the other
pub record HasEdge (edges : List Edge) (from to : ℕ) : Type 0 where
  pub number : ℕ
  pub edge : Edge
  pub is_one : slice_get edges number ≡ Some edge
  pub leaves : edge.from ≡ from
  pub comes : edge.to ≡ to

-- edges lead from a number over these, one after the other, to another
abbrev pub IsWay : List Edge → ℕ → List ℕ → ℕ → Type 0
IsWay edges from [] to = from ≡ to
IsWay edges from (next ∷ rest) to = HasEdge edges from next × IsWay edges next rest to

-- a way leads from a number to one that is marked
pub record HasWay (edges : List Edge) (marks : List Bool) (from : ℕ) : Type 0 where
  pub over : List ℕ
  pub to : ℕ
  pub goes : IsWay edges from over to
  pub marked : mark_at marks to ≡ true

-- from each number with a mark a way leads to one that was marked at first
abbrev pub AreDue : List Edge → List Bool → List Bool → Type 0
AreDue edges start marks = (i : ℕ) → i < length marks → mark_at marks i ≡ true → HasWay edges start i

-- where an edge leads to a number with a mark, the one from which it leads has one
abbrev pub IsSpread : List Edge → List Bool → Type 0
IsSpread edges marks = (k : ℕ) (e : Edge) → slice_get edges k ≡ Some e → mark_at marks e.to ≡ true → mark_at marks e.from ≡ true

-- the marks of the one are marks of the other
abbrev pub AreKept : List Bool → List Bool → Type 0
AreKept marks more = (i : ℕ) → mark_at marks i ≡ true → mark_at more i ≡ true

-- how many have no mark
abbrev pub unmarked : List Bool → ℕ
unmarked marks = count_by not marks

-- ---- the marks of a test

-- where an edge fails the test, the place from which it leads has a mark
abbrev pub AreMarked : List Edge → ℕ → List Bool → Type 0
AreMarked edges test marks = (k : ℕ) (e : Edge) → slice_get edges k ≡ Some e → is_bit e.passes test ≡ false → mark_at marks e.from ≡ true

-- an edge leads from the number and fails the test
pub record HasFailing (edges : List Edge) (test i : ℕ) : Type 0 where
  pub number : ℕ
  pub edge : Edge
  pub is_one : slice_get edges number ≡ Some edge
  pub leaves : edge.from ≡ i
  pub fails : is_bit edge.passes test ≡ false

-- the numbers from one on have a mark, and none before it
pub record AreOpenFrom (opened : ℕ) (marks : List Bool) : Type 0 where
  pub shut : (i : ℕ) → i < opened → mark_at marks i ≡ false
  pub marked : (i : ℕ) → opened ≤ i → mark_at marks i ≡ true
