-- Numbers that tell what the timers show: three for each item that counts.
use Rattle.std.specs.Prelude.{ℕ, ◌+◌, ◌-◌, ◌*◌, ◌/◌, ◌%◌, ◌^◌, Option, None, Some, List, [], ◌∷◌, ◌++◌, map, slice_index_or}
use Rattle.std.specs.List.{flat_map, range_with_len}
use Rattle.fmp_codes.specs.Numbers.{as_proc}
use Rattle.fmp_codes.specs.declared.numbers.Task.{Task}
use Rattle.fmp_time.specs.Left.{Left}
use Rattle.fmp_time.specs.Times.{Times, item_at, armed}

-- the place of an item and that of its processor, and the two halves of the ticks that it has left
abbrev pub left_words : ℕ → Option Left → List ℕ
left_words k None = []
left_words k (Some l) = (8 * k + (l.processor.number - 1)) ∷ l.ticks % 2 ^ 32 ∷ l.ticks / 2 ^ 32 ∷ []

abbrev pub words_at : Times → ℕ → List ℕ
words_at m k = left_words k (slice_index_or m.left k None)

abbrev pub wait_places : List Task → List ℕ
wait_places ts = map (λ t. t.number - 1) ts

-- the places of all alarms and cyclics
unfoldable pub handler_places : List ℕ
handler_places = range_with_len 64 64

-- the waits in the order in which they began, and then alarms and cyclics by number
unfoldable pub words_of : Times → List ℕ
words_of m = flat_map (words_at m) (wait_places m.waits ++ handler_places)

-- an item counts as three numbers say
abbrev pub armed_by : Times → ℕ → ℕ → ℕ → Times
armed_by m w low high = armed m (as_proc (w % 8 + 1)) (item_at (w / 8 % 128)) (low + high * 2 ^ 32)

-- each three numbers say that one item more counts
abbrev pub made_from : Times → List ℕ → Times
made_from m [] = m
made_from m (w ∷ []) = m
made_from m (w ∷ low ∷ []) = m
made_from m (w ∷ low ∷ high ∷ ws) = made_from (armed_by m w low high) ws
