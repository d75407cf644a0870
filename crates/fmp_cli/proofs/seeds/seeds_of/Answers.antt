use Rattle.std.proofs.Common.{ℕ, List, Option, subst}
use Rattle.fmp_cli.specs.Seeds.{AreSeeds}
use Rattle.fmp_cli.proofs.seeds.seeds_of.Goals as goal

pub returns : goal.returns
returns c = subst (λ (o : Option (List ℕ)). AreSeeds o c.seeds_for.result) c.option_in.ensures c.seeds_for.ensures
