use Rattle.std.proofs.Common.{ap}
use Rattle.fmp_kernel_order.specs.Queues.{Queues}
use Rattle.fmp_search_walks.specs.Metered.{metered}
use Rattle.fmp_search_walks.proofs.noting.NoterSpace.watch.Goals as goal

pub returns-in_err-go-clause-origin : goal.returns-in_err-go-clause-origin
returns-in_err-go-clause-origin g c = ap (metered (g.N.Meter.number c.args.self.now.meter.now Queues)) c.go.ensures.origin

pub returns-then-not-branch-clause-origin : goal.returns-then-not-branch-clause-origin
returns-then-not-branch-clause-origin g c = ap (metered (g.N.Meter.number c.args.self.now.meter.now Queues)) c.go.ensures.origin

pub returns-clause-origin : goal.returns-clause-origin
returns-clause-origin g c = ap (metered (g.N.Meter.number c.args.self.now.meter.now Queues)) c.go.ensures.origin
