-- The edges between places, as far as these were opened.
use Rattle.std.specs.Prelude.{◌≡◌, ℕ, ◌+◌, ◌<◌, ◌≤◌, Bool, true, false, Option, Some, List, [], ◌∷◌, ◌++◌, length, replicate, slice_get}
use Rattle.fmp_search.specs.declared.chart.Chart.{Chart}
use Rattle.fmp_search.specs.declared.edges.Edge.{Edge}
use Rattle.fmp_search.specs.declared.nodes.Node.{Node}
use Rattle.fmp_search.specs.Meeting.{AreNoted, Notes}
use Rattle.fmp_search.specs.Trees.{found_at}

-- an edge is of a step between two places, and tells what it passes
pub record IsTrueEdge {P : Type 0} (after : P → ℕ → Option P) (passes : P → ℕ → ℕ) (q : P) (nodes : List Node) (e : Edge) : Type 0 where
  pub from : e.from ≤ length nodes
  pub to : e.to ≤ length nodes
  pub goes : after (found_at after q nodes e.from).place e.step ≡ Some (found_at after q nodes e.to).place
  pub report : e.passes ≡ passes (found_at after q nodes e.from).place e.step

abbrev pub AreTrue : {P : Type 0} → (P → ℕ → Option P) → (P → ℕ → ℕ) → P → List Node → List Edge → Type 0
AreTrue after passes q nodes edges = (k : ℕ) (e : Edge) → slice_get edges k ≡ Some e → IsTrueEdge after passes q nodes e

-- the step of a number from a place has its edge
pub record HasStep {P : Type 0} (after : P → ℕ → Option P) (passes : P → ℕ → ℕ) (q : P) (nodes : List Node) (edges : List Edge) (i s : ℕ)
    (r : P) : Type 0 where
  pub number : ℕ
  pub edge : Edge
  pub is_one : slice_get edges number ≡ Some edge
  pub leaves : edge.from ≡ i
  pub by : edge.step ≡ s
  pub comes : (found_at after q nodes edge.to).place ≡ r

-- if it can be made there
abbrev pub IsJoined : {P : Type 0} → (P → ℕ → Option P) → (P → ℕ → ℕ) → P → List Node → List Edge → ℕ → ℕ → Type 0
IsJoined after passes q nodes edges i s = (r : _) → after (found_at after q nodes i).place s ≡ Some r → HasStep after passes q nodes edges i s r

-- the edges are of steps between places, and those from the first places are all there
pub record IsCharted {P : Type 0} (after : P → ℕ → Option P) (passes : P → ℕ → ℕ) (q : P) (nodes : List Node) (chart : Chart) : Type 0 where
  pub sure : AreTrue after passes q nodes chart.edges
  pub joined : (i s : ℕ) → i < chart.opened → IsJoined after passes q nodes chart.edges i s
  pub few : chart.opened ≤ length nodes + 1

-- each edge is of a step from one of the first places, or from the next, where steps from there were tried
abbrev pub AreFrom : List Edge → ℕ → ℕ → Type 0
AreFrom edges at steps = (k : ℕ) (e : Edge) → slice_get edges k ≡ Some e → (first : ℕ) → at ≤ first → (0 < steps → at < first) → e.from < first

-- each edge is of a step from a place that was found by fewer steps than so many
abbrev pub AreShort : {P : Type 0} → (P → ℕ → Option P) → P → List Node → List Edge → ℕ → Type 0
AreShort after q nodes edges turns = (k : ℕ) (e : Edge) → slice_get edges k ≡ Some e → (found_at after q nodes e.from).depth < turns

-- nothing was tried
pub record IsBlank (kept : Bool) (count : ℕ) (chart : Chart) : Type 0 where
  pub same : chart.kept ≡ kept
  pub edges : chart.edges ≡ []
  pub opened : chart.opened ≡ 0
  pub marks : chart.marks.items ≡ replicate count false

-- the number that is told of a step was marked, and the edge of the step was added, if edges are kept
pub record Adds (edge : Edge) (number : ℕ) (old new : Chart) : Type 0 where
  pub added : old.kept ≡ true → new.edges ≡ old.edges ++ edge ∷ []
  pub noted : Notes number old.marks.items new.marks.items
  pub opened : new.opened ≡ old.opened
  pub kept : new.kept ≡ old.kept

-- no edge was added
pub record AreLeft (old new : Chart) : Type 0 where
  pub edges : new.edges ≡ old.edges
  pub marks : new.marks.items ≡ old.marks.items
  pub opened : new.opened ≡ old.opened
  pub kept : new.kept ≡ old.kept

-- so many places were opened, and if edges are kept, those of the first steps from the next are there too, as the marks of what was told of all these steps are
pub record Charting {P : Type 0} (after : P → ℕ → Option P) (passes tells : P → ℕ → ℕ) (q : P) (nodes : List Node) (chart : Chart) (at steps : ℕ) : Type 0 where
  pub opened : chart.opened ≡ at
  pub charted : chart.kept ≡ true → IsCharted after passes q nodes chart
  pub linked : chart.kept ≡ true → (s : ℕ) → s < steps → IsJoined after passes q nodes chart.edges at s
  pub early : chart.kept ≡ true → AreFrom chart.edges at steps
  pub noted : AreNoted after tells q nodes chart.marks.items at steps
