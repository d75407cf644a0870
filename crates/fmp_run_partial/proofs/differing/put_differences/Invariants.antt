use Rattle.std.proofs.Common.{◌≤◌, ◌+◌, length}
use Rattle.fmp_bytes.specs.Bytes.{pieces_of}
use Rattle.fmp_out.specs.Putting.{Owes}
use Rattle.fmp_rules.specs.Boot.{booted}
use Rattle.fmp_run_partial.specs.Differing.{differences_from}
use Rattle.fmp_run_partial.proofs.differing.put_differences.Given as goal

abbrev pub invariant-loop-line : goal.invariant-loop-line
invariant-loop-line l = record {
  report : Owes (differences_from l.config.names l.number l.player.plain.state (pieces_of 10 l.rest))
      (differences_from l.config.names 1 (booted l.config) (pieces_of 10 l.text)) l.fn.out l.out;
  steps : l.player.plain.steps + 1 ≤ l.number;
  left : l.number + length l.rest ≤ length l.text + 1;
}

abbrev pub decreases-loop-line : goal.decreases-loop-line
decreases-loop-line l = length l.rest
