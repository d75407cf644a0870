use Rattle.std.proofs.Common.{◌≡◌, ◌++◌, ◌+◌, length}
use Rattle.fmp_trace.specs.Lines.{lines_from}
use Rattle.fmp_run_smp.proofs.ending.history_text.Given as goal

abbrev pub invariant-loop-report : goal.invariant-loop-report
invariant-loop-report l = record {
  made : l.out.items ++ lines_from l.names (l.n + 1) l.replay ≡ lines_from l.names 1 l.history.records;
  count : l.n + length l.replay ≡ length l.history.records;
}

abbrev pub decreases-loop-report : goal.decreases-loop-report
decreases-loop-report l = length l.replay
