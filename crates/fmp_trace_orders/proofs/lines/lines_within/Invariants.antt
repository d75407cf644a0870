use Rattle.std.proofs.Common.{length}
use Rattle.fmp_trace_orders.proofs.Reading.{ReadSoFar}
use Rattle.fmp_trace_orders.proofs.lines.lines_within.Given as goal

abbrev pub invariant-loop-line : goal.invariant-loop-line
invariant-loop-line l = ReadSoFar l.names l.text l.lines l.number l.start l.rest

abbrev pub decreases-loop-line : goal.decreases-loop-line
decreases-loop-line l = length l.rest
