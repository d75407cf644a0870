use Rattle.std.proofs.Common.{◌≡◌, None, Some, rules}
use Rattle.fmp_smp.specs.Seeds.{drawn, movers}
use Rattle.fmp_smp.proofs.Following.{drawn_can, nobody_goes}
use Rattle.rand_xoshiro.specs.SplitMix64.{mix_u64}
use Rattle.fmp_smp.proofs.seeded.go_on.Goals as goal

pub returns-in_default-clause-goes : goal.returns-in_default-clause-goes
returns-in_default-clause-goes c =
    let w = c.args.world.now in
    let none : drawn (movers w.config w.scripts w.records c.args.rounds.now) (mix_u64 c.args.numbers.now).0 ≡ None = search rules in
    nobody_goes w c.args.rounds.now c.args.numbers.now _ none (search rules)

pub go-requires-clause-can : goal.go-requires-clause-can
go-requires-clause-can c =
    let w = c.args.world.now in
    let draws : drawn (movers w.config w.scripts w.records c.args.rounds.now) (mix_u64 c.args.numbers.now).0 ≡ Some c.in-Some.mover = search rules in
    drawn_can w c.args.rounds.now (mix_u64 c.args.numbers.now).0 c.in-Some.mover c.requires.next draws
