use Rattle.std.proofs.Common.{◌≡◌, ◌*◌, drop}
use Rattle.fmp_time.specs.Times.{no_times}
use Rattle.fmp_time.specs.Words.{made_from}
use Rattle.fmp_time.proofs.timers.Timers.become_words.Given as goal

-- what the numbers to come make of what was made so far
abbrev pub invariant-loop-at : goal.invariant-loop-at
invariant-loop-at l = record {
  rest : made_from l.self (drop (3 * l.at) l.words) ≡ made_from no_times l.words;
}
