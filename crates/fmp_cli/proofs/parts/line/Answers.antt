use Rattle.std.proofs.lemmas.Result.{IfOk-weaker}
use Rattle.fmp_cli.proofs.Table.{line_is}
use Rattle.fmp_cli.proofs.parts.line.Goals as goal

pub returns : goal.returns
returns c = IfOk-weaker c.with_parts.result _ _ (λ d adds. line_is c.in_ok-empty.empty d _ _ c.in_ok-empty.ensures adds) c.with_parts.ensures
