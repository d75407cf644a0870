use Rattle.std.proofs.Common.{◌≤◌, length, refl, subst}
use Rattle.fmp_setup.specs.Valid.{IsValid}
use Rattle.fmp_smp_histories.specs.Histories.{IsRunOf}
use Rattle.fmp_smp_histories.specs.Scripted.{Scripted}
use Rattle.fmp_world.proofs.Finished.{run_of}
use Rattle.fmp_world.proofs.world.World.finish.Goals as goal

pub returns-clause-run : goal.returns-clause-run
returns-clause-run c =
    let a = c.args in
    let w = c.self.inside.history in
    let whole = c.in_ok-ended.ensures.whole.0 refl in
    let known = c.in_ok-ended.ensures.known in
    let kept : IsRunOf w.config w.records × Scripted w.config w.scripts w.records × (length w.records ≤ w.turns) = (known.run, known.scripted, known.within) in
    run_of w a.seats.cpus.items a.seats.clock a.config.now a.scripts.now a.ticks a.turns _ c.in_ok-ended.ended kept
    (subst IsValid whole.config known.valid) whole c.in_ok-ended.ensures.quiet c.receipts_of.ensures

pub returns-clause-configured : goal.returns-clause-configured
returns-clause-configured c = (c.in_ok-ended.ensures.whole.0 refl).config
