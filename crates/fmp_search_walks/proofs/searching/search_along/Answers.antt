use Rattle.std.proofs.Common.{◌∙◌, ◌-◌, IfOk, ap, subst, sym}
use Rattle.fmp_search.specs.Guides.{SaysAlong}
use Rattle.fmp_search_orders.specs.Laws.{is_seen}
use Rattle.fmp_search_orders.specs.Places.{Place, after}
use Rattle.fmp_search_kernel.specs.Walked.{origin_of}
use Rattle.fmp_search_walks.proofs.searching.search_along.Goals as goal

-- both begin where all runs do
pub explore_along-requires-clause-origin : goal.explore_along-requires-clause-origin
explore_along-requires-clause-origin g c = ap origin_of (c.in_ok-walker.ensures.second ∙ sym c.in_ok-walker.ensures.first)

pub returns-clause-says : goal.returns-clause-says
returns-clause-says g c =
    subst (λ (w : Place). IfOk c.explore_along.result (λ answer. SaysAlong after is_seen w c.args.choices.now c.args.bounds.turns.count (c.args.bounds.places.count - 1) answer)) (ap origin_of c.in_ok-walker.ensures.first)
    c.explore_along.ensures.says
