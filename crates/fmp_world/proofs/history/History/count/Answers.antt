use Rattle.std.proofs.Common.{[], arith}
use Rattle.fmp_world.proofs.Played.{made_count}
use Rattle.fmp_world.proofs.history.History.count.Goals as goal

pub returns-clause-is : goal.returns-clause-is
returns-clause-is c =
    let i = c.self.inside in
    let count = made_count i.config.now i.scripts.now [] i.moves.items c.self.invariant.1 in
    rw (← c.self.view_is) (omega arith)

pub returns-clause-known : goal.returns-clause-known
returns-clause-known c =
    let i = c.self.inside in
    let keeps = c.self.invariant.0 in
    let count = made_count i.config.now i.scripts.now [] i.moves.items c.self.invariant.1 in
    rw (← c.self.view_is) (record { valid = keeps.valid; run = keeps.run; scripted = keeps.scripted; within = omega (arith, count, c.self.invariant.2.within) })
