-- Where an item counts and how many ticks it has left, in lists of entries: one for each processor.
use Rattle.std.specs.Prelude.{◌≡◌, ℕ, ◌+◌, ◌<◌, ◌==◌, Bool, true, false, Option, Some, None, List, [], ◌∷◌, length}
use Rattle.fmp_codes.specs.Numbers.{as_proc}
use Rattle.fmp_codes.specs.declared.numbers.Proc.{Proc}
use Rattle.fmp_kernel_parts.specs.Lists as links
use Rattle.fmp_time.specs.Differences.{Entry, entries_at, has_entry, items_of, ticks_in}

pub record Left : Type 0 where
  pub processor : Proc
  pub ticks : ℕ

-- ticks left on a processor, if there are some, and else what is found further on
abbrev pub left_on : Proc → Option ℕ → Option Left → Option Left
left_on p None found = found
left_on p (Some n) found = Some (record { processor = p; ticks = n })

-- what the lists say of an item, of which the first is that of the processor at place i
abbrev pub left_from : ℕ → List (List Entry) → ℕ → Option Left
left_from i [] k = None
left_from i (es ∷ q) k = left_on (as_proc (i + 1)) (ticks_in es k) (left_from (i + 1) q k)

abbrev pub left_in : List (List Entry) → ℕ → Option Left
left_in q k = left_from 0 q k

-- there is a list for each processor, none has an item twice, no two have one, and items are below 128
pub record AreDisjoint (q : List (List Entry)) : Type 0 where
  pub count : length q ≡ 8
  pub apart : (i : ℕ) → links.AreDistinct (items_of (entries_at q i))
  pub one : (i j k : ℕ) → has_entry k (entries_at q i) ≡ true → has_entry k (entries_at q j) ≡ true → i ≡ j
  pub small : (i k : ℕ) → has_entry k (entries_at q i) ≡ true → k < 128

-- what is left of an item in the list of a number, from 0
abbrev pub left_by : ℕ × ℕ → Left
left_by e = record { processor = as_proc (e.0 + 1); ticks = e.1 }

abbrev pub ticks_of : Left → ℕ
ticks_of l = l.ticks

-- there are ticks left, and they are 0
abbrev pub is_over : Option Left → Bool
is_over None = false
is_over (Some l) = l.ticks == 0
