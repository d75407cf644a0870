use Rattle.std.proofs.Common.{◌≡◌, ◌≤◌, length}
use Rattle.fmp_plain_machine.specs.Best.{best_of}
use Rattle.fmp_plain_machine.specs.Tops.{top_among}
use Rattle.fmp_plain_machine.proofs.tops.first_on.Given as goal

abbrev pub invariant-loop-index : goal.invariant-loop-index
invariant-loop-index l = record {
  within : l.index ≤ length l.records;
  found : l.best ≡ best_of l.records l.ready (top_among l.records l.ready l.index l.p);
}
