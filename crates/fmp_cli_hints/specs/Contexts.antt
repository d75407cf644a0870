-- The line of a fault, and the column in it.
use Rattle.std.specs.Prelude.{ℕ, zero, suc, ◌-◌, List, length, Option, Some, option_and_then}
use Rattle.fmp_bytes.specs.Bytes.{cut_at, line_feed}
use Rattle.fmp_cli_hints.specs.Places.{Walk}

-- the column of the first byte of the rest of a line
abbrev pub column_of : List ℕ → Walk → ℕ
column_of line walk = length line - length walk.rest

-- the line after so many line feeds, and what follows its own, where it has one
unfoldable pub line_after : ℕ → List ℕ → Option (List ℕ × Option (List ℕ))
line_after zero text = Some (cut_at line_feed text)
line_after (suc n) text = option_and_then (line_after n) (cut_at line_feed text).1
