use Rattle.std.proofs.Common.{◌≡◌, ◌++◌, drop}
use Rattle.fmp_trace.specs.Lines.{releases_text}
use Rattle.fmp_trace_buffer.proofs.line_buffer.LineBuffer.put_releases.Given as goal

abbrev pub invariant-loop-index : goal.invariant-loop-index
invariant-loop-index l = l.self ++ releases_text l.names (drop l.index l.releases) ≡ l.fn.self ++ releases_text l.names l.releases
