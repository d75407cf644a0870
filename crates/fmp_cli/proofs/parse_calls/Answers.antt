use Rattle.std.proofs.Common.{List, subst}
use Rattle.clap.specs.Words.{Row}
use Rattle.fmp_cli.specs.Cli.{IsCalls}
use Rattle.fmp_cli.proofs.parse_calls.Goals as goal

pub returns : goal.returns
returns c = subst (λ (r : List Row). IsCalls r c.calls_in.result) c.in_ok-matches.ensures c.calls_in.ensures
