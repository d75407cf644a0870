use Rattle.std.proofs.Common.{◌≡◌, ◌++◌, drop}
use Rattle.fmp_trace.specs.Values.{arguments_from}
use Rattle.fmp_trace_buffer.proofs.line_buffer.LineBuffer.put_arguments.Given as goal

abbrev pub invariant-loop-index : goal.invariant-loop-index
invariant-loop-index l = l.self ++ arguments_from l.names l.index (drop l.index l.kinds) (drop l.index l.values) ≡ l.fn.self ++ arguments_from l.names 0 l.kinds l.values
