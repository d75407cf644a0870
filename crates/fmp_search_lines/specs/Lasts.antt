-- The last lines of a text, by the numbers of the lines that they may come before.
use Rattle.std.specs.Prelude.{ℕ, Bool, true, List, slice_index_or}

-- the last line that may come before a line
abbrev pub last_at : List ℕ → ℕ → ℕ
last_at lasts i = slice_index_or lasts i 0

-- whether a line has to be taken
abbrev pub must_at : List Bool → ℕ → Bool
must_at musts i = slice_index_or musts i true
