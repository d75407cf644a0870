use Rattle.std.proofs.Common.{◌≡◌, ◌++◌, take}
use Rattle.std.specs.List.{flat_map}
use Rattle.fmp_time.specs.Words.{words_at, wait_places}
use Rattle.fmp_time.proofs.timers.Timers.add_waits.Given as goal

-- what tells the waits so far
abbrev pub invariant-loop-task : goal.invariant-loop-task
invariant-loop-task l = record {
  words : l.words ≡ l.fn.words ++ flat_map (words_at l.self) (wait_places (take l.task-index l.task-items));
}
