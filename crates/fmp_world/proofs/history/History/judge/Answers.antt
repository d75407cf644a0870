use Rattle.std.proofs.Common.{refl}
use Rattle.fmp_world.proofs.Judging.{whole_is, whole_fits, whole_ends}
use Rattle.fmp_world.proofs.history.History.judge.Goals as goal

pub returns-then-not-is_of-clause-whole : goal.returns-then-not-is_of-clause-whole
returns-then-not-is_of-clause-whole c =
    (λ t. cc, λ w. c.if-not-is_of.ensures.1 (w.config, w.scripted, w.room))

pub returns-then-not-fit-clause-whole : goal.returns-then-not-fit-clause-whole
returns-then-not-fit-clause-whole c =
    let a = c.args in
    let w = a.self.now in
    let finds = rw c.replay_on.ensures at c.of-found.ensures in
    let fit = c.if-not-fit.ensures w.records finds (rw c.processors.ensures.is c.count-count.ensures.known.run.on) in
    (λ t. cc, λ whole. fit.1 (rw c.processors.ensures.is (whole_fits w a.seats.now.cpus.items a.seats.now.clock a.config.now a.scripts.now a.ticks a.turns whole)))

pub ended-requires : goal.ended-requires
ended-requires c =
    let finds = rw c.replay_on.ensures at c.of-found.ensures in
    finds.taken

pub returns-clause-whole : goal.returns-clause-whole
returns-clause-whole c =
    let a = c.args in
    let w = a.self.now in
    let finds = rw c.replay_on.ensures at c.of-found.ensures in
    let fit = c.if-not-fit.ensures w.records finds (rw c.processors.ensures.is c.count-count.ensures.known.run.on) in (
      λ t. whole_is w a.seats.now.cpus.items a.seats.now.clock a.config.now a.scripts.now a.ticks a.turns (c.if-not-is_of.ensures.0 refl)
          (rw c.processors.ensures.is at (fit.0 refl)) (c.ended.ensures.whole.0 t),
      λ whole. c.ended.ensures.whole.1 (whole_ends w a.seats.now.cpus.items a.seats.now.clock a.config.now a.scripts.now a.ticks a.turns whole),
    )
