use Rattle.std.proofs.Common.{◌≡◌, drop}
use Rattle.fmp_cli_questions.specs.Rows as spec
use Rattle.fmp_cli_questions.proofs.reading.has_row.Given as goal

abbrev pub invariant-loop-row : goal.invariant-loop-row
invariant-loop-row l = spec.has_row (drop l.row-index l.rows) l.name ≡ spec.has_row l.fn.rows l.fn.name
