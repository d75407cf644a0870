use Rattle.std.proofs.Common.{◌≡◌, ◌≤◌, ◌++◌, drop, vec_capacity}
use Rattle.fmp_trace.specs.Lines.{releases_text}
use Rattle.fmp_trace.proofs.lines.put_releases.Given as goal

abbrev pub invariant-loop-index : goal.invariant-loop-index
invariant-loop-index l = record {
  made : l.out.items ++ releases_text l.names (drop l.index l.releases) ≡ l.fn.out.items ++ releases_text l.names l.releases;
  room : vec_capacity l.fn.out ≤ vec_capacity l.out;
}
