use Rattle.std.proofs.Common.{List, subst}
use Rattle.clap.specs.Words.{Row}
use Rattle.fmp_cli.specs.Cli.{IsCheck}
use Rattle.fmp_cli.proofs.parse_check.Goals as goal

pub returns : goal.returns
returns c = subst (λ (r : List Row). IsCheck r c.check_in.result) c.in_ok-matches.ensures c.check_in.ensures
