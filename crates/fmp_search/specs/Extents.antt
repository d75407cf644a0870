-- How far a search went: how many places it found, and by how many steps the farthest of them.
use Rattle.std.specs.Prelude.{◌≡◌, ℕ, ◌+◌, ◌≤◌, Option, None, Some, List, length}
use Rattle.fmp_search.specs.declared.nodes.Node.{Node}
use Rattle.fmp_search.specs.declared.exploring.Answer.{Answer}
use Rattle.fmp_search.specs.declared.exploring.Answer.TheVariants as answer
use Rattle.fmp_search.specs.declared.extent.Extent.{Extent}
use Rattle.fmp_search.specs.declared.layer.Layer.{Layer}
use Rattle.fmp_search.specs.declared.layer.Layer.TheVariants as layer
use Rattle.fmp_search.specs.declared.staying.Stay.{Stay}
use Rattle.fmp_search.specs.declared.staying.Stay.TheVariants as stay
use Rattle.fmp_search.specs.Trees.{AreDistinct, IsTree}
use Rattle.fmp_search.specs.Answers.{IsComplete}
use Rattle.fmp_search.specs.Forever.{AreNearest}
use Rattle.fmp_search.specs.Steps.{path_at}

-- there are so many places, the one where all runs begin among them, and to the farthest lead so many steps
pub record IsExtent (nodes : List Node) (e : Extent) : Type 0 where
  pub count : e.places ≡ length nodes + 1
  pub near : (i : ℕ) → i ≤ length nodes → length (path_at nodes i) ≤ e.farthest
  pub far : (i : ℕ) × (i ≤ length nodes) × (length (path_at nodes i) ≡ e.farthest)

abbrev pub HasExtent : List Node → Option Extent → Type 0
HasExtent nodes None = ⊥
HasExtent nodes (Some e) = IsExtent nodes e

-- likewise, unless what is looked for was found
abbrev pub IsExtentBeside : List Node → Layer → Option Extent → Type 0
IsExtentBeside nodes (layer.Found steps) e = e ≡ None
IsExtentBeside nodes layer.Full e = HasExtent nodes e
IsExtentBeside nodes layer.Wanting e = HasExtent nodes e
IsExtentBeside nodes layer.Over e = HasExtent nodes e
IsExtentBeside nodes layer.Done e = HasExtent nodes e

-- so it is of these places, no two of which are the same
pub record HasGone {P : Type 0} (after : P → ℕ → Option P) (q : P) (nodes : List Node) (e : Extent) : Type 0 where
  pub tree : IsTree after q nodes
  pub distinct : AreDistinct after q nodes
  pub extent : IsExtent nodes e

-- a search went so far, and every run leads to one of the places that it found
abbrev pub WentThrough : {P : Type 0} → (P → ℕ → Option P) → P → Option Extent → Type 0
WentThrough after q None = ⊥
WentThrough after q (Some e) = (nodes : List Node) × HasGone after q nodes e × AreNearest after q nodes

-- or every run of at most so many steps does
abbrev pub WentAlong : {P : Type 0} → (P → ℕ → Option P) → P → ℕ → Option Extent → Type 0
WentAlong after q n None = ⊥
WentAlong after q n (Some e) = (nodes : List Node) × HasGone after q nodes e × IsComplete after q nodes n (length nodes + 1)

-- how far it went, beside its answer
abbrev pub Went : {P : Type 0} → (P → ℕ → Option P) → P → Answer → Option Extent → Type 0
Went after q (answer.Found steps) e = e ≡ None
Went after q answer.Never e = WentThrough after q e
Went after q (answer.NotWithin n) e = WentAlong after q n e
Went after q (answer.Wanting n) e = WentAlong after q n e
Went after q (answer.Ended n) e = WentAlong after q n e

-- the places are those of all runs, where the answer says something of all, or of all of so many steps
abbrev pub AreOf : {P : Type 0} → (P → ℕ → Option P) → P → Stay → List Node → Type 0
AreOf after q (stay.Shortest test steps) nodes = AreNearest after q nodes
AreOf after q (stay.Found test steps) nodes = Unit {0}
AreOf after q stay.Never nodes = AreNearest after q nodes
AreOf after q (stay.NotKnown n) nodes = IsComplete after q nodes n (length nodes + 1)
AreOf after q (stay.Wanting n) nodes = IsComplete after q nodes n (length nodes + 1)
AreOf after q (stay.Ended n) nodes = IsComplete after q nodes n (length nodes + 1)

-- how far a search went, beside what it found of runs from which on a test is passed for ever
abbrev pub WentForEver : {P : Type 0} → (P → ℕ → Option P) → P → Stay → Extent → Type 0
WentForEver after q s e = (nodes : List Node) × HasGone after q nodes e × AreOf after q s nodes
