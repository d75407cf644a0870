-- How far a search through all orders went: how many places it found, and by how many lines the farthest of them.
use Rattle.std.specs.Prelude.{◌≡◌, Option, None}
use Rattle.fmp_search.specs.declared.extent.Extent.{Extent}
use Rattle.fmp_search.specs.Extents.{WentAlong, WentThrough}
use Rattle.fmp_search_orders.specs.Places.{Place, after, origin}
use Rattle.fmp_run_explore.specs.declared.finding.Finding.{Finding}
use Rattle.fmp_run_explore.specs.declared.finding.Finding.TheVariants as finding
use Rattle.fmp_run_explore.specs.Searched.{Searched}

-- where all orders begin that were asked for
abbrev pub origin_of : Searched → Place
origin_of s = origin s.config s.scripts s.rules s.question

-- After `never` every order leads to one of the places that were found, and after `not within` every order of so many lines
abbrev pub IsGone : Searched → Finding → Option Extent → Type 0
IsGone s finding.Shown e = e ≡ None
IsGone s finding.Never e = WentThrough after (origin_of s) e
IsGone s (finding.NotWithin n) e = WentAlong after (origin_of s) n e
IsGone s (finding.Wanting n) e = WentAlong after (origin_of s) n e
IsGone s (finding.Ended n) e = WentAlong after (origin_of s) n e
