use Rattle.std.proofs.Common.{ap}
use Rattle.std.proofs.lemmas.Result.{IfOk-weaker}
use Rattle.fmp_trace_orders.specs.Standing.{begun}
use Rattle.fmp_trace_orders.proofs.plays.LinePlayerPlayer.another.Goals as goal

pub returns : goal.returns
returns c = IfOk-weaker c.twin.result _ _ (λ w there. ap begun there) c.twin.ensures
