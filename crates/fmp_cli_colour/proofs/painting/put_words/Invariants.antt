use Rattle.std.proofs.Common.{◌≡◌, ◌+◌, ◌++◌, ℕ, List, length}
use Rattle.std.specs.Option.{option_copied, option_map_or}
use Rattle.fmp_run_devices.specs.Devices.{IsKnown, bytes_of}
use Rattle.fmp_cli_colour.specs.Painting.{painted_words, words_left}
use Rattle.fmp_cli_colour.proofs.painting.put_words.Given as goal

-- the words so far, and those that are left
abbrev pub invariant-loop-rest : goal.invariant-loop-rest
invariant-loop-rest g l = record {
  failures : g.W.Sink.failures l.sink ≡ g.W.Sink.failures l.fn.sink;
  known : IsKnown (g.W.Sink.written l.fn.sink) → IsKnown (g.W.Sink.written l.sink);
  before : IsKnown (g.W.Sink.written l.fn.sink) → (out : List ℕ) × (bytes_of (g.W.Sink.written l.sink) ≡ bytes_of (g.W.Sink.written l.fn.sink) ++ out)
      × (out ++ painted_words l.left (words_left (option_copied l.rest)) ≡ painted_words l.fn.plain (words_left (option_copied l.fn.words)));
}

abbrev pub decreases-loop-rest : goal.decreases-loop-rest
decreases-loop-rest g l = option_map_or (λ r. length r + 1) (option_copied l.rest) 0
