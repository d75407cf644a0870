use Rattle.std.proofs.Common.{◌≡◌, ◌≤◌, ◌+◌, length}
use Rattle.fmp_bytes.specs.Bytes.{pieces_of}
use Rattle.fmp_out.specs.Putting.{Owes}
use Rattle.fmp_trace_check.specs.Comparing.{hunks_from}
use Rattle.fmp_trace_check.proofs.comparing.put_hunks.Given as goal

abbrev pub invariant-loop-line : goal.invariant-loop-line
invariant-loop-line l = record {
  report : Owes (hunks_from l.names l.player.plain.state (l.number + 1) (pieces_of 10 l.rest))
      (hunks_from l.names l.fn.player.plain.state (l.n + 1) (pieces_of 10 l.text)) l.fn.out l.out;
  steps : l.player.plain.steps ≤ l.number;
  count : l.player.count ≡ l.number;
  left : l.number + length l.rest ≤ l.n + length l.text;
}

abbrev pub decreases-loop-line : goal.decreases-loop-line
decreases-loop-line l = length l.rest
