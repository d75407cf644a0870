use Rattle.fmp_cli.proofs.Table.{by_line}
use Rattle.fmp_cli.proofs.explore.explore_command.Goals as goal

pub returns : goal.returns
returns c = by_line c.line.result _ _ _ c.line.ensures (λ d h. h.line)
