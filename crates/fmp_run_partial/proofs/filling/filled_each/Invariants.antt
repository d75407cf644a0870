use Rattle.std.proofs.Common.{◌≡◌, ◌++◌, drop, length}
use Rattle.fmp_run_partial.specs.Filling.{filled_from}
use Rattle.fmp_run_partial.proofs.filling.filled_each.Given as goal

abbrev pub invariant-loop-index : goal.invariant-loop-index
invariant-loop-index l = record {
  made : l.all ++ filled_from l.kept l.own l.index (drop l.index l.said) ≡ filled_from l.kept l.own 0 l.said;
  count : length l.all ≡ l.index;
}
