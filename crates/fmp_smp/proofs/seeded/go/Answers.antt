use Rattle.std.proofs.Common.{◌≡◌, ◌-◌, slice_index_or, subst}
use Rattle.fmp_smp.specs.declared.seeded.Mover.TheVariants.{Cpu, Clock}
use Rattle.fmp_smp.specs.Seeds.{CanMove}
use Rattle.fmp_smp.proofs.Going.{tick_goes, turn_goes}
use Rattle.fmp_smp.proofs.seeded.go.Goals as goal

pub returns-in-Clock-clause-goes : goal.returns-in-Clock-clause-goes
returns-in-Clock-clause-goes c =
    let can : CanMove c.args.world.now c.args.rounds.now Clock = subst (CanMove c.args.world.now c.args.rounds.now) c.in-Clock.is c.requires.can in
    rw (c.in-Clock.is, c.is_recorded.ensures) (tick_goes _ _ _ _ c.requires.seated _ _ _ _ can c.give.ensures).0

pub returns-in-Clock-clause-seated : goal.returns-in-Clock-clause-seated
returns-in-Clock-clause-seated c =
    let can : CanMove c.args.world.now c.args.rounds.now Clock = subst (CanMove c.args.world.now c.args.rounds.now) c.in-Clock.is c.requires.can in
    (tick_goes _ _ _ _ c.requires.seated _ _ _ _ can c.give.ensures).1

pub returns-in-Some-clause-goes : goal.returns-in-Some-clause-goes
returns-in-Some-clause-goes c =
    let p = c.in-Cpu.p in
    let can : CanMove c.args.world.now c.args.rounds.now (Cpu p) = subst (CanMove c.args.world.now c.args.rounds.now) c.in-Cpu.is c.requires.can in
    let seat = c.in-Some.cpu.now in
    let at : seat ≡ slice_index_or c.args.seats.now.cpus.items (p.number - 1) seat = rw (← c.index.ensures.value) c.in-Some.ensures.value in
    rw (c.in-Cpu.is, c.is_recorded-in-Some.ensures) (turn_goes _ _ _ _ c.requires.seated p seat _ _ _ can at c.turn.ensures).0

pub returns-in-Some-clause-seated : goal.returns-in-Some-clause-seated
returns-in-Some-clause-seated c =
    let p = c.in-Cpu.p in
    let can : CanMove c.args.world.now c.args.rounds.now (Cpu p) = subst (CanMove c.args.world.now c.args.rounds.now) c.in-Cpu.is c.requires.can in
    let seat = c.in-Some.cpu.now in
    let at : seat ≡ slice_index_or c.args.seats.now.cpus.items (p.number - 1) seat = rw (← c.index.ensures.value) c.in-Some.ensures.value in
    rw c.index.ensures.value (turn_goes _ c.args.rounds.now _ _ c.requires.seated p seat _ _ _ can at c.turn.ensures).1
