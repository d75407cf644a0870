use Rattle.std.proofs.Common.{◌≡◌, ◌≤◌, ◌++◌, drop, vec_capacity}
use Rattle.fmp_trace.specs.Lines.{requests_from}
use Rattle.fmp_trace.proofs.lines.put_requests.Given as goal

abbrev pub invariant-loop-index : goal.invariant-loop-index
invariant-loop-index l = record {
  made : l.out.items ++ requests_from l.index (drop l.index l.requests) ≡ l.fn.out.items ++ requests_from 0 l.requests;
  room : vec_capacity l.fn.out ≤ vec_capacity l.out;
}
