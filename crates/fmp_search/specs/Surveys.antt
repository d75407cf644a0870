-- What was gone through.
use Rattle.std.specs.Prelude.{◌≡◌, ◌⊎◌, ℕ, ◌+◌, ◌<◌, ◌≤◌, ◌^◌, ◌==◌, Bool, true, false, Option, None, Some, List, length}
use Rattle.fmp_search.specs.declared.chart.Chart.{Chart}
use Rattle.fmp_search.specs.declared.exploring.Answer.{Answer}
use Rattle.fmp_search.specs.declared.exploring.Answer.TheVariants as answer
use Rattle.fmp_search.specs.declared.layer.Layer.{Layer}
use Rattle.fmp_search.specs.declared.layer.Layer.TheVariants as layer
use Rattle.fmp_search.specs.declared.meeting.Met.{Met}
use Rattle.fmp_search.specs.declared.nodes.Node.{Node}
use Rattle.fmp_search.specs.declared.surveying.Survey.{Survey}
use Rattle.fmp_search.specs.Answers.{Explored, HasMore, IsShortest, NoneWithin}
use Rattle.fmp_search.specs.Charts.{AreShort, IsCharted}
use Rattle.fmp_search.specs.Growth.{AreFound, IsOverBy}
use Rattle.fmp_search.specs.Meeting.{AreNoted}
use Rattle.fmp_search.specs.Runs.{run}
use Rattle.fmp_search.specs.Trees.{found_at}

-- the first places are those of all runs of fewer than so many steps
pub record IsPassed {P : Type 0} (after : P → ℕ → Option P) (q : P) (nodes : List Node) (turns first : ℕ) : Type 0 where
  pub few : first ≤ length nodes + 1
  pub near : (i : ℕ) → i < first → (found_at after q nodes i).depth < turns
  pub through : (steps : List ℕ) (r : P) → length steps < turns → run after q steps ≡ Some r →
      (i : ℕ) × (i < first) × ((found_at after q nodes i).place ≡ r)

-- the places of all runs of so many steps were found, from the first of them all steps lead to places that were found, and they are those of all runs of fewer
-- steps than were asked for
pub record IsThrough {P : Type 0} (after : P → ℕ → Option P) (wanted : P → Bool) (q : P) (turns : ℕ) (nodes : List Node) (n opened : ℕ) : Type 0 where
  pub within : n ≤ turns
  pub explored : Explored after wanted q nodes n (length nodes + 1) opened
  pub near : (i : ℕ) → i < opened → (found_at after q nodes i).depth < n
  pub ended : (opened ≡ length nodes + 1) ⊎ (n ≡ turns)
  pub passed : IsPassed after q nodes turns opened

-- how a search went, where there is room for so many places besides the first
abbrev pub GoesSo : {P : Type 0} → (P → ℕ → Option P) → (P → Bool) → P → ℕ → ℕ → List Node → ℕ → ℕ → Layer → Type 0
GoesSo after wanted q turns room nodes n opened (layer.Found steps) = (n ≤ turns) × (length steps.items ≤ turns) × IsShortest after wanted q steps.items
GoesSo after wanted q turns room nodes n opened layer.Full = (n < turns) × NoneWithin after wanted q n × (length nodes ≡ room) × HasMore after q nodes (n + 1)
GoesSo after wanted q turns room nodes n opened layer.Wanting = (n < turns) × NoneWithin after wanted q n
GoesSo after wanted q turns room nodes n opened layer.Over = (n < turns) × NoneWithin after wanted q n
GoesSo after wanted q turns room nodes n opened layer.Done = IsThrough after wanted q turns nodes n opened

-- the places are those of all runs of so many steps, and the edges between them are there, if they are kept; and where steps were all tried, the marks of
-- what was told of them; where they were not, not all places were opened
pub record IsSurveyed {P : Type 0} (after : P → ℕ → Option P) (passes tells : P → ℕ → ℕ) (q : P) (s : Survey) : Type 0 where
  pub found : AreFound after q s.depth s.nodes.items
  pub charted : s.chart.kept ≡ true → IsCharted after passes q s.nodes.items s.chart
  pub noted : s.how ≡ layer.Done → AreNoted after tells q s.nodes.items s.chart.marks.items s.chart.opened 0
  pub left : (s.how ≡ layer.Done → ⊥) → s.chart.opened ≤ length s.nodes.items
  pub small : length s.nodes.items < 2 ^ 32

-- how places were gone through: so far, with these edges, and so many marks
pub record Surveys {P : Type 0} (after : P → ℕ → Option P) (passes tells : P → ℕ → ℕ) (wanted : P → Bool) (q : P) (turns room : ℕ) (over kept : Bool) (count : ℕ) (s : Survey) : Type 0 where
  pub surveyed : IsSurveyed after passes tells q s
  pub short : s.chart.kept ≡ true → AreShort after q s.nodes.items s.chart.edges turns
  pub through : GoesSo after wanted q turns room s.nodes.items s.depth s.chart.opened s.how
  pub ended : IsOverBy over s.how
  pub same : s.chart.kept ≡ kept
  pub marks : length s.chart.marks.items ≡ count

-- what is known of all runs by how the last of so many layers went, where all places were opened or were not
abbrev pub answer_by : Layer → ℕ → Bool → Answer
answer_by (layer.Found steps) n whole = answer.Found steps
answer_by layer.Full n whole = answer.NotWithin n
answer_by layer.Wanting n whole = answer.Wanting n
answer_by layer.Over n whole = answer.Ended n
answer_by layer.Done n true = answer.Never
answer_by layer.Done n false = answer.NotWithin n

-- what the marks of a chart are of so many places, where all steps were tried that were asked for
abbrev pub met_by : Layer → Chart → ℕ → Option Met
met_by (layer.Found steps) chart places = None
met_by layer.Full chart places = None
met_by layer.Wanting chart places = None
met_by layer.Over chart places = None
met_by layer.Done chart places = Some (record { marks = chart.marks; whole = chart.opened == places })

abbrev pub met_of : Survey → Option Met
met_of s = met_by s.how s.chart (length s.nodes.items + 1)
