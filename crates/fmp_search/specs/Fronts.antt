-- How far a layer was opened, and how steps from its places went.
use Rattle.std.specs.Prelude.{◌≡◌, ℕ, ◌+◌, ◌≤◌, Bool, true, Option, List, length}
use Rattle.fmp_search.specs.declared.chart.Chart.{Chart}
use Rattle.fmp_search.specs.declared.layer.Layer.{Layer}
use Rattle.fmp_search.specs.declared.layer.Layer.TheVariants as layer
use Rattle.fmp_search.specs.declared.layer.Placed.{Placed}
use Rattle.fmp_search.specs.declared.layer.Placed.TheVariants as placed
use Rattle.fmp_search.specs.declared.nodes.Node.{Node}
use Rattle.fmp_search.specs.Answers.{Explored, HasMore, IsShortest}
use Rattle.fmp_search.specs.Charts.{AreShort, Charting, IsCharted}
use Rattle.fmp_search.specs.Growth.{AreFound, AreTried, Extends}
use Rattle.fmp_search.specs.Keys.{AreKeyed}
use Rattle.fmp_search.specs.Trees.{IsAt, IsNew}

-- what stays where steps are tried: where the runs of two walkers begin, for how many places there is room, whether edges are kept, and how many marks there are
pub record Stays {P X : Type 0} (origin : X → P) (q : P) (walker base : X) (most room : ℕ) (kept : Bool) (count : ℕ) (chart : Chart) : Type 0 where
  pub walker_origin : origin walker ≡ q
  pub base_origin : origin base ≡ q
  pub same_room : room ≡ most
  pub same : chart.kept ≡ kept
  pub marks : length chart.marks.items ≡ count

-- what is known where not all steps were tried: the places of all runs of n steps were found, and if edges are kept those from the first places are all there. Not all places were opened
pub record IsStopped {P : Type 0} (after : P → ℕ → Option P) (passes : P → ℕ → ℕ) (q : P) (n : ℕ) (nodes : List Node) (chart : Chart) : Type 0 where
  pub found : AreFound after q n nodes
  pub charted : chart.kept ≡ true → IsCharted after passes q nodes chart
  pub short : chart.kept ≡ true → AreShort after q nodes chart.edges (n + 1)
  pub left : chart.opened ≤ length nodes

module _ {P : Type 0} (after : P → ℕ → Option P) (IsKey : ℕ → P → Type 0) (keys : List ℕ) (wanted : P → Bool) (q : P)
    (n first : ℕ) where
  -- of the first places, which are those of all runs of n steps, all steps from the first were tried, and the first steps from the next, and the keys of all
  -- places that were found are kept
  pub record IsFront (nodes : List Node) (at step : ℕ) : Type 0 where
    pub explored : Explored after wanted q nodes n first at
    pub tried : AreTried after q nodes at step
    pub keyed : AreKeyed after IsKey q keys nodes

  -- the number that a place has, to which a step leads: it is one of the places that were found, or was added to them. Else none was added: it is new and there is no room for it, or
  -- there was no memory for it or for its parts
  abbrev pub Numbers : ℕ → List Node → ℕ → ℕ → P → Placed → List Node → Type 0
  Numbers most nodes at step r (placed.At number) more = IsFront more at (step + 1) × Extends after q nodes more × IsAt after q more number r
  Numbers most nodes at step r placed.Full more = (more ≡ nodes) × (most ≤ length nodes) × IsNew after q nodes r
  Numbers most nodes at step r placed.Wanting more = more ≡ nodes

module _ {P : Type 0} (after : P → ℕ → Option P) (IsKey : ℕ → P → Type 0) (keys : List ℕ) (passes tells : P → ℕ → ℕ)
    (wanted : P → Bool) (q : P) (n first : ℕ) where
  -- and the edges of these steps are there
  pub record IsOpen (nodes : List Node) (chart : Chart) (at step : ℕ) : Type 0 where
    pub front : IsFront after IsKey keys wanted q n first nodes at step
    pub charting : Charting after passes tells q nodes chart at step

  -- how steps went: those before one were all tried, or it is known why they were not
  abbrev pub Advances : ℕ → Bool → List Node → Chart → ℕ → ℕ → Layer → Type 0
  Advances most over nodes chart at step (layer.Found steps) = IsStopped after passes q n nodes chart × (length steps.items ≤ n + 1) × IsShortest after wanted q steps.items
  Advances most over nodes chart at step layer.Full = IsStopped after passes q n nodes chart × (length nodes ≡ most) × HasMore after q nodes (n + 1)
  Advances most over nodes chart at step layer.Wanting = IsStopped after passes q n nodes chart
  Advances most over nodes chart at step layer.Over = IsStopped after passes q n nodes chart × (over ≡ true)
  Advances most over nodes chart at step layer.Done = IsOpen nodes chart at step
