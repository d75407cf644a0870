-- The first places of a search, with their keys.
use Rattle.std.specs.Prelude.{ℕ, ◌≤◌, Option, List}
use Rattle.fmp_search.specs.declared.nodes.Node.{Node}
use Rattle.fmp_search.specs.Growth.{AreFound}
use Rattle.fmp_search.specs.Keys.{AreKeyed}

-- these are the keys of the places of all runs of so many steps, and of some of one step more, no two of which are the same
pub record AreFirst {P : Type 0} (after : P → ℕ → Option P) (IsKey : ℕ → P → Type 0) (q : P) (turns : ℕ) (keys : List ℕ) : Type 0 where
  pub nodes : List Node
  pub steps : ℕ
  pub few : steps ≤ turns
  pub found : AreFound after q steps nodes
  pub keyed : AreKeyed after IsKey q keys nodes
