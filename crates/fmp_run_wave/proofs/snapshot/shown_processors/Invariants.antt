use Rattle.std.proofs.Common.{◌≡◌, length, map}
use Rattle.std.specs.List.{range_with_len}
use Rattle.fmp_codes.specs.Numbers.{as_proc}
use Rattle.fmp_run_wave.specs.Shown.{shown_processor}
use Rattle.fmp_run_wave.proofs.snapshot.shown_processors.Given as goal

-- what is shown so far
abbrev pub invariant-loop-index : goal.invariant-loop-index
invariant-loop-index l = record {
  shown : l.shown.items ≡ map (λ n. shown_processor l.machine (as_proc n)) (range_with_len 1 l.index);
  count : length l.shown.items ≡ l.index;
}
