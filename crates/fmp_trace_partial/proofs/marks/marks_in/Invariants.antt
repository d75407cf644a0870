use Rattle.std.proofs.Common.{◌≡◌, ◌+◌, length}
use Rattle.std.specs.Option.{option_map_or, option_copied}
use Rattle.fmp_bytes.proofs.Cutting.{pieces_left}
use Rattle.fmp_trace_partial.specs.Marks.{with_marks, marks_in}
use Rattle.fmp_trace_partial.proofs.marks.marks_in.Given as goal

abbrev pub invariant-loop-rest : goal.invariant-loop-rest
invariant-loop-rest l = with_marks l.marks (pieces_left 32 (option_copied l.rest)) ≡ marks_in l.line

abbrev pub decreases-loop-rest : goal.decreases-loop-rest
decreases-loop-rest l = option_map_or (λ rest. length rest + 1) (option_copied l.rest) 0
