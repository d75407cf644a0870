-- The steps to each place that was found.
use Rattle.std.specs.Prelude.{ℕ, ◌<◌, ◌≤◌, List, [], ◌∷◌, ◌++◌, length, slice_index_or}
use Rattle.std.specs.List.{fold}
use Rattle.fmp_search.specs.declared.nodes.Node.{Node}

-- with the steps to a node's place, after the steps to the places before it
abbrev pub with_path : List (List ℕ) → Node → List (List ℕ)
with_path found n = found ++ (slice_index_or found n.parent [] ++ n.step ∷ []) ∷ []

-- the steps to the places that the nodes say: none to place 0, and to another those to the place before it and the step between them
unfoldable pub paths : List Node → List (List ℕ)
paths nodes = fold with_path ([] ∷ []) nodes

-- the steps to the place of this number
abbrev pub path_at : List Node → ℕ → List ℕ
path_at nodes i = slice_index_or (paths nodes) i []

-- each node is of a step from a place before it
pub record AreAfter (nodes : List Node) : Type 0 where
  pub earlier : (k : ℕ) (d : Node) → k < length nodes → (slice_index_or nodes k d).parent ≤ k
