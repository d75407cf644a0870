use Rattle.std.proofs.Common.{ap}
use Rattle.std.proofs.lemmas.Result.{IfOk-weaker}
use Rattle.fmp_kernel_order.specs.Queues.{Queues}
use Rattle.fmp_search_walks.specs.Metered.{metered}
use Rattle.fmp_search_walks.proofs.noting.NoterSpace.restart.Goals as goal

pub returns-clause-there : goal.returns-clause-there
returns-clause-there g c = IfOk-weaker c.restart.result _ _ (λ done there. ap (metered (g.N.Meter.number c.args.self.now.meter.now Queues)) there) c.restart.ensures.there

pub returns-clause-origin : goal.returns-clause-origin
returns-clause-origin g c = ap (metered (g.N.Meter.number c.args.self.now.meter.now Queues)) c.restart.ensures.origin
