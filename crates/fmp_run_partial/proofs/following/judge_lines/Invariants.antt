use Rattle.std.proofs.Common.{◌≡◌, ◌≤◌, ◌+◌, length}
use Rattle.fmp_bytes.specs.Bytes.{pieces_of}
use Rattle.fmp_trace_partial.specs.Saying.{said_from}
use Rattle.fmp_run_partial.specs.Following.{verdict_of, judged_lines}
use Rattle.fmp_run_partial.proofs.following.judge_lines.Given as goal

abbrev pub invariant-loop-line : goal.invariant-loop-line
invariant-loop-line l = record {
  judged : verdict_of l.config.names l.follower.verdict l.follower.plain.state l.number (said_from l.config.names l.number (pieces_of 10 l.rest)) ≡ judged_lines l.config l.text;
  steps : l.follower.plain.steps + 1 ≤ l.number;
  left : l.number + length l.rest ≤ length l.text + 1;
}

abbrev pub decreases-loop-line : goal.decreases-loop-line
decreases-loop-line l = length l.rest
