use Rattle.std.specs.Prelude.{◌≡◌, ◌-◌, length}
use Rattle.fmp_smp.specs.Seeds.{AreSeated}
use Rattle.fmp_smp.proofs.Following.{Follows}
use Rattle.fmp_smp.proofs.seeded.run_seeded.Given as goal

abbrev pub invariant-loop-alloc : goal.invariant-loop-alloc
invariant-loop-alloc l = record {
  configured : l.world.config ≡ l.config;
  scripted : l.world.scripts ≡ l.fn.scripts;
  room : l.world.turns ≡ l.turns;
  follows : Follows l.seed l.ticks l.world l.rounds l.numbers;
  seated : AreSeated l.world l.seats.cpus.items l.seats.clock;
}

abbrev pub decreases-loop-alloc : goal.decreases-loop-alloc
decreases-loop-alloc l = l.world.turns - length l.world.records
