use Rattle.std.specs.Prelude.{◌≡◌, ◌≤◌, length}
use Rattle.fmp_smp.specs.Seeds.{cpus_of}
use Rattle.fmp_smp.proofs.seeded.cpus_of.Given as goal

abbrev pub invariant-loop-at : goal.invariant-loop-at
invariant-loop-at l = record {
  are : l.movers.items ≡ cpus_of l.world.config l.world.scripts l.world.records l.at;
  few : length l.movers.items ≤ l.at;
}
