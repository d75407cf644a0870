use Rattle.std.proofs.Common.{ap}
use Rattle.fmp_kernel_order.specs.Queues.{Queues}
use Rattle.fmp_search_walks.specs.Metered.{metered}
use Rattle.fmp_search_walks.proofs.noting.NoterSpace.go.Goals as goal

pub returns-clause-origin : goal.returns-clause-origin
returns-clause-origin g c = ap (metered (g.N.Meter.number c.args.self.now.meter.now Queues)) c.go.ensures.origin
