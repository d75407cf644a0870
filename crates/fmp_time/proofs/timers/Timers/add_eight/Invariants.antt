use Rattle.std.proofs.Common.{◌≡◌, ◌++◌}
use Rattle.std.specs.List.{flat_map, range_with_len}
use Rattle.fmp_time.specs.Words.{words_at}
use Rattle.fmp_time.proofs.timers.Timers.add_eight.Given as goal

-- what tells those so far
abbrev pub invariant-loop-at : goal.invariant-loop-at
invariant-loop-at l = record {
  words : l.words ≡ l.fn.words ++ flat_map (words_at l.self) (range_with_len l.first l.at);
}
