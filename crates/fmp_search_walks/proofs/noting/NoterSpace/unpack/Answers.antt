use Rattle.std.proofs.Common.{ap, sym}
use Rattle.std.proofs.lemmas.Result.{IfOk-weaker}
use Rattle.fmp_kernel_order.specs.Queues.{Queues}
use Rattle.fmp_search_walks.specs.Metered.{metered}
use Rattle.fmp_search_walks.proofs.Numbered.{place_metered}
use Rattle.fmp_search_walks.proofs.noting.NoterSpace.unpack.Goals as goal

pub unpack-requires : goal.unpack-requires
unpack-requires g c = (c.requires.0.place, c.requires.1.1)

pub returns-clause-there : goal.returns-clause-there
returns-clause-there g c =
    let s = c.args.self.now in
    let f = g.N.Meter.number s.meter.now Queues in
    IfOk-weaker c.unpack.result _ _ (λ done there. λ r is. sym (place_metered f s.walker.place r c.unpack.new.self.place is.0 (sym (there r.place is.1)))) c.unpack.ensures.there

pub returns-clause-origin : goal.returns-clause-origin
returns-clause-origin g c = ap (metered (g.N.Meter.number c.args.self.now.meter.now Queues)) c.unpack.ensures.origin
