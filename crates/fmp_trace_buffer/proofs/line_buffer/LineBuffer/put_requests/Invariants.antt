use Rattle.std.proofs.Common.{◌≡◌, ◌++◌, drop}
use Rattle.fmp_trace.specs.Lines.{requests_from}
use Rattle.fmp_trace_buffer.proofs.line_buffer.LineBuffer.put_requests.Given as goal

abbrev pub invariant-loop-index : goal.invariant-loop-index
invariant-loop-index l = l.self ++ requests_from l.index (drop l.index l.requests) ≡ l.fn.self ++ requests_from 0 l.requests
