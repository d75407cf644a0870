use Rattle.std.proofs.Common.{List, subst}
use Rattle.clap.specs.Words.{Row}
use Rattle.fmp_cli.specs.Shrink.Shrink.{Asks}
use Rattle.fmp_cli.proofs.shrink.parse_shrink.Goals as goal

pub returns : goal.returns
returns c = subst (λ (r : List Row). Asks r c.request_of.result) c.in_ok-matches.ensures c.request_of.ensures
