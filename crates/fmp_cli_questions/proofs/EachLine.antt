-- One line of a text of questions after the other.
use Rattle.std.proofs.Common.{◌≡◌, ℕ, ◌+◌, List, Option, None, Some, ◌∙◌, ap}
use Rattle.fmp_bytes.specs.Bytes.{cut_at, line_feed, pieces_of}
use Rattle.fmp_bytes.proofs.Cutting.{pieces_left, pieces_of-cut}
use Rattle.fmp_cli_questions.specs.declared.reading.RowFault.{RowFault}
use Rattle.fmp_cli_questions.specs.declared.reading.RowKind.{RowKind}
use Rattle.fmp_cli_questions.specs.Rows.{Row, or_fault, rows_of, with_line}

module _ (rows : List Row) (number : ℕ) (text : List ℕ) where
  abbrev pub first : List Row × Option RowKind
  first = with_line rows (number + 1) (cut_at line_feed text).0

  abbrev pub others : List Row × Option RowFault
  others = rows_of first.0 (number + 1) (pieces_left line_feed (cut_at line_feed text).1)

  one_line : rows_of rows number (pieces_of line_feed text) ≡ or_fault (number + 1) first.0 first.1 others
  one_line = ap (rows_of rows number) (pieces_of-cut line_feed text)

  -- after a line that is right those after it are read
  pub line_read : first.1 ≡ None → rows_of rows number (pieces_of line_feed text) ≡ others
  line_read is = one_line ∙ ap (λ k. or_fault (number + 1) first.0 k others) is

  -- and nothing is after one that is wrong
  pub line_fault : (kind : RowKind) → first.1 ≡ Some kind → rows_of rows number (pieces_of line_feed text) ≡ (first.0, Some (record { line = number + 1; kind = kind }))
  line_fault kind is = one_line ∙ ap (λ k. or_fault (number + 1) first.0 k others) is
