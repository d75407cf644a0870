use Rattle.std.proofs.Common.{◌≡◌, ◌*◌, ◌++◌}
use Rattle.std.specs.List.{flat_map, range_with_len}
use Rattle.fmp_time.specs.Words.{words_at}
use Rattle.fmp_time.proofs.timers.Timers.add_handlers.Given as goal

-- what tells the handlers so far
abbrev pub invariant-loop-group : goal.invariant-loop-group
invariant-loop-group l = record {
  words : l.words ≡ l.fn.words ++ flat_map (words_at l.self) (range_with_len 64 (8 * l.group));
}
