-- What the lists of entries and the list of waits show.
use Rattle.std.specs.Prelude.{ℕ, List, map}
use Rattle.std.specs.List.{range_with_len}
use Rattle.fmp_codes.specs.declared.numbers.Task.{Task}
use Rattle.fmp_time.specs.Differences.{Entry}
use Rattle.fmp_time.specs.Left.{left_in}
use Rattle.fmp_time.specs.Times.{Times}

-- a value for each item, at its place
unfoldable pub table : {X : Type 0} → (ℕ → X) → List X
table f = map f (range_with_len 0 128)

abbrev pub times_of : List (List Entry) → List Task → Times
times_of q waits = record { left = table (left_in q); waits = waits }
