-- How many places of a search are left where one thing is not looked at.
use Rattle.std.specs.Prelude.{ℕ}
use Rattle.fmp_run_explore.specs.declared.left.Left.{Left}
use Rattle.fmp_search_orders.specs.Places.{Place}
use Rattle.fmp_search_walks.specs.Left.{AreLeftWithout}

-- so many places were looked at, which are the first from where all runs begin, and so many are left without each thing
abbrev pub IsLeft : Place → ℕ → Left → Type 0
IsLeft o turns l = AreLeftWithout o turns l.places l.without.items
