use Rattle.std.proofs.Common.{List, subst}
use Rattle.clap.specs.Words.{Row}
use Rattle.fmp_cli.specs.Cli.{IsView}
use Rattle.fmp_cli.proofs.parse_view.Goals as goal

pub returns : goal.returns
returns c = subst (λ (r : List Row). IsView r c.view_in.result) c.in_ok-matches.ensures c.view_in.ensures
