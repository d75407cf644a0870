use Rattle.std.proofs.Common.{◌≡◌, ◌≤◌, ◌+◌, length}
use Rattle.std.specs.Option.{option_copied, option_map_or}
use Rattle.fmp_bytes.specs.Bytes.{line_feed}
use Rattle.fmp_bytes.proofs.Cutting.{pieces_left}
use Rattle.fmp_cli_questions.specs.Rows as spec
use Rattle.fmp_cli_questions.proofs.reading.read_rows.Given as goal

-- what is read of the lines that are left is what is read of all, and a line takes a byte
abbrev pub invariant-loop-rest : goal.invariant-loop-rest
invariant-loop-rest l = record {
  same : spec.rows_of l.rows.items l.line (pieces_left line_feed (option_copied l.rest)) ≡ spec.rows_in l.fn.text;
  few : l.line + option_map_or (λ r. length r + 1) (option_copied l.rest) 0 ≤ length l.fn.text + 1;
}

abbrev pub decreases-loop-rest : goal.decreases-loop-rest
decreases-loop-rest l = option_map_or (λ r. length r + 1) (option_copied l.rest) 0
