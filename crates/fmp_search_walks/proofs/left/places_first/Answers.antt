use Rattle.std.proofs.Common.{◌∙◌, ap, sym, subst}
use Rattle.std.specs.Prelude.{IfOk}
use Rattle.fmp_search_orders.specs.Places.{Place}
use Rattle.fmp_search_kernel.specs.Walked.{origin_of}
use Rattle.fmp_search_walks.specs.Left.{AreFirstFrom}
use Rattle.fmp_search_walks.proofs.left.places_first.Goals as goal

pub first_places-requires-clause-origin : goal.first_places-requires-clause-origin
first_places-requires-clause-origin g c = ap origin_of (c.in_ok-walkers.ensures.second ∙ sym c.in_ok-walkers.ensures.first)

pub returns : goal.returns
returns g c =
    subst (λ (o : Place). IfOk c.first_places.result (λ p. AreFirstFrom o c.args.bounds.turns.count p.tables p.keys.items)) (ap origin_of c.in_ok-walkers.ensures.first) c.first_places.ensures
