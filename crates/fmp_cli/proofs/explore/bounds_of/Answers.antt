use Rattle.std.proofs.Common.{ℕ, List, Option, subst}
use Rattle.fmp_cli.specs.Explore.{IsPlaces}
use Rattle.fmp_cli.proofs.explore.bounds_of.Goals as goal

pub returns-clause-places : goal.returns-clause-places
returns-clause-places c = subst (λ (o : Option (List ℕ)). IsPlaces o c.in_ok-places.places) c.option_in-2.ensures c.in_ok-places.ensures
