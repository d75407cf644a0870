use Rattle.std.proofs.Common.{List, subst}
use Rattle.clap.specs.Words.{Row}
use Rattle.fmp_cli.specs.Cli.{AsksList}
use Rattle.fmp_cli.proofs.parse_list.Goals as goal

pub returns : goal.returns
returns c = subst (λ (r : List Row). AsksList r c.list_in.result) c.in_ok-matches.ensures c.list_in.ensures
