use Rattle.std.proofs.Common.{◌≡◌, ◌+◌, ◌≤◌, [], length}
use Rattle.std.specs.Option.{option_map_or, option_copied}
use Rattle.fmp_bytes.specs.Bytes.{pieces_of}
use Rattle.fmp_bytes.proofs.Cutting.{pieces_left}
use Rattle.fmp_trace.specs.GuessParts.{requests_in}
use Rattle.fmp_trace.proofs.guess.requests_in.Given as goal

abbrev pub invariant-loop-rest : goal.invariant-loop-rest
invariant-loop-rest l = record {
  read : requests_in l.names l.least l.requests (pieces_left 44 (option_copied l.rest)) ≡ requests_in l.names 0 [] (pieces_of 44 l.fn.text);
  few : length l.requests ≤ l.least;
  most : l.least ≤ 8;
}

abbrev pub decreases-loop-rest : goal.decreases-loop-rest
decreases-loop-rest l = option_map_or (λ rest. length rest + 1) (option_copied l.rest) 0
