use Rattle.std.proofs.lemmas.Result.{IfOk-weaker}
use Rattle.fmp_kernel_order.specs.Queues.{Queues}
use Rattle.fmp_search_walks.proofs.Numbered.{is_key_metered, kept_metered}
use Rattle.fmp_search_walks.proofs.noting.NoterSpace.pack.Goals as goal

pub returns-clause-key : goal.returns-clause-key
returns-clause-key g c =
    let s = c.args.self.now in
    IfOk-weaker c.pack.result _ _ (λ k key. is_key_metered (g.N.Meter.number s.meter.now Queues) s.walker.place c.pack.new.tables k key) c.pack.ensures.key

pub returns-clause-kept : goal.returns-clause-kept
returns-clause-kept g c =
    let s = c.args.self.now in
    kept_metered (g.N.Meter.number s.meter.now Queues) s.walker.place c.args.tables.now c.pack.new.tables c.pack.ensures.kept
