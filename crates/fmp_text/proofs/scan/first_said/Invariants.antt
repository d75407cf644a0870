use Rattle.std.proofs.Common.{◌+◌, ◌-◌, ◌≤◌, length}
use Rattle.fmp_text.proofs.Scanned.{StandsAt}
use Rattle.fmp_text.proofs.scan.first_said.Given as goal

abbrev pub invariant-loop-line : goal.invariant-loop-line
invariant-loop-line l = record {
  within : l.used ≤ length l.bytes;
  lines : l.lines ≤ l.before + l.used;
  stands : StandsAt l.names l.before l.bytes l.lines l.used;
}

abbrev pub decreases-loop-line : goal.decreases-loop-line
decreases-loop-line l = length l.bytes - l.used
