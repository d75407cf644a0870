use Rattle.std.proofs.Common.{ap}
use Rattle.fmp_kernel_order.specs.Queues.{Queues}
use Rattle.fmp_search_walks.specs.Metered.{Metered, metered}
use Rattle.fmp_search_walks.proofs.noting.NoterSpace.copy_from.Goals as goal

-- the runs of both begin at the same place
pub copy_from-requires : goal.copy_from-requires
copy_from-requires g c = ap (λ (x : Metered). x.place) c.requires

pub returns-clause-origin : goal.returns-clause-origin
returns-clause-origin g c = ap (metered (g.N.Meter.number c.args.self.now.meter.now Queues)) c.copy_from.ensures.origin
