use Rattle.std.proofs.Common.{◌≡◌, ◌++◌, ◌+◌, drop}
use Rattle.fmp_trace.specs.Lines.{lines_from}
use Rattle.fmp_trace.proofs.lines.trace_text.Given as goal

abbrev pub invariant-loop-entry : goal.invariant-loop-entry
invariant-loop-entry l = record {
  made : l.out.items ++ lines_from l.names (l.n + 1) (drop l.n l.records) ≡ lines_from l.names 1 l.records;
  count : l.n ≡ l.entry-index;
}
