-- What the timers show, and how it changes: where each item counts and how many ticks it has left, and the order of the waits.
use Rattle.std.specs.Prelude.{◌≡◌, ℕ, ◌+◌, ◌-◌, ◌≤◌, ◌==◌, ◌&&◌, Bool, false, not, nat_lt, is_some, Option, Some, None, List, [], ◌∷◌, ◌++◌, filter, map, replicate}
use Rattle.std.specs.Prelude.{slice_index_or, slice_set, if◌then◌else◌}
use Rattle.std.specs.List.{range_with_len}
use Rattle.fmp_codes.specs.Numbers.{as_task, as_object}
use Rattle.fmp_codes.specs.declared.numbers.Proc.{Proc}
use Rattle.fmp_codes.specs.declared.numbers.Task.{Task}
use Rattle.fmp_codes.specs.declared.numbers.Object.{Object}
use Rattle.fmp_kernel_parts.specs.Tasks.{has_task, without}
use Rattle.fmp_time.specs.declared.item.Item.{Item}
use Rattle.fmp_time.specs.declared.item.Item.TheVariants.{Wait, Alarm, Cyclic}
use Rattle.fmp_time.specs.Left.{Left}

pub record Times : Type 0 where
  pub left : List (Option Left)  -- of each item, at its place
  pub waits : List Task  -- the tasks whose waits have ticks left, in the order in which these waits began

-- the place of an item: first the waits of all tasks, then all alarms and then all cyclics
abbrev pub place_of : Item → ℕ
place_of (Wait t) = t.number - 1
place_of (Alarm o) = 64 + (o.number - 1)
place_of (Cyclic o) = 96 + (o.number - 1)

abbrev pub item_at : ℕ → Item
item_at k = if nat_lt k 64 then Wait (as_task (k + 1)) else (if nat_lt k 96 then Alarm (as_object (k - 63)) else Cyclic (as_object (k - 95)))

abbrev pub wait_of : Task → Item
wait_of t = Wait t

abbrev pub alarm_of : Object → Item
alarm_of o = Alarm o

abbrev pub cyclic_of : Object → Item
cyclic_of o = Cyclic o

abbrev pub left_of : Times → Item → Option Left
left_of m x = slice_index_or m.left (place_of x) None

-- the waits where this item begins to count: a wait is the last one
abbrev pub began : Item → List Task → List Task
began (Wait t) ts = without t ts ++ t ∷ []
began (Alarm o) ts = ts
began (Cyclic o) ts = ts

-- the waits where this item counts no more
abbrev pub ended : Item → List Task → List Task
ended (Wait t) ts = without t ts
ended (Alarm o) ts = ts
ended (Cyclic o) ts = ts

abbrev pub armed : Times → Proc → Item → ℕ → Times
armed m p x n = record { left = slice_set m.left (place_of x) (Some (record { processor = p; ticks = n })); waits = began x m.waits }

abbrev pub cancelled : Times → Item → Times
cancelled m x = record { left = slice_set m.left (place_of x) None; waits = ended x m.waits }

-- the same ticks left on another processor
abbrev pub moved : Proc → Option Left → Option Left
moved p None = None
moved p (Some l) = Some (record { processor = p; ticks = l.ticks })

abbrev pub moved_to : Times → Item → Proc → Times
moved_to m x p = record m { left = slice_set m.left (place_of x) (moved p (left_of m x)) }

abbrev pub renewed : Times → Item → Times
renewed m x = record m { waits = if is_some (left_of m x) then began x m.waits else m.waits }

-- the ticks left, if they are on this processor
abbrev pub ticks_on : Proc → Option Left → Option ℕ
ticks_on p None = None
ticks_on p (Some l) = if l.processor.number == p.number then Some l.ticks else None

-- the next tick of a processor is the last one
abbrev pub is_due : Proc → Option Left → Bool
is_due p None = false
is_due p (Some l) = l.processor.number == p.number && (l.ticks - 1) == 0

-- what is left after a tick of a processor, where also 0 ticks may be left
abbrev pub lowered_on : Proc → Option Left → Option Left
lowered_on p None = None
lowered_on p (Some l) = if l.processor.number == p.number then Some (record { processor = l.processor; ticks = l.ticks - 1 }) else Some l

-- all that counts on a processor has one tick less, or stays at 0
abbrev pub lowered : Times → Proc → Times
lowered m p = record m { left = map (lowered_on p) m.left }

abbrev pub counted_down : Proc → Option Left → Option Left
counted_down p l = if is_due p l then None else lowered_on p l

-- after a tick of a processor, at which what has no ticks left goes
abbrev pub ticked : Times → Proc → Times
ticked m p = record { left = map (counted_down p) m.left; waits = filter (λ t. not (is_due p (left_of m (wait_of t)))) m.waits }

-- all alarms and then all cyclics
unfoldable pub handlers : List Item
handlers = map (λ k. Alarm (as_object k)) (range_with_len 1 32) ++ map (λ k. Cyclic (as_object k)) (range_with_len 1 32)

-- what a tick of a processor serves: the waits in the order in which they began, then alarms and then cyclics by number
abbrev pub served : Times → Proc → List Item
served m p = filter (λ x. is_due p (left_of m x)) (map wait_of m.waits ++ handlers)

-- the least ticks left on a processor, if something counts there
abbrev pub IsLeastOn : Times → Proc → Option ℕ → Type 0
IsLeastOn m p None = (x : Item) → ticks_on p (left_of m x) ≡ None
IsLeastOn m p (Some n) = ((x : Item) × (ticks_on p (left_of m x) ≡ Some n)) × ((x : Item) (k : ℕ) → ticks_on p (left_of m x) ≡ Some k → n ≤ k)

-- the waits are those that have ticks left
abbrev pub AreWaits : Times → Type 0
AreWaits m = (t : Task) → has_task t m.waits ≡ is_some (left_of m (wait_of t))

abbrev pub no_times : Times
no_times = record { left = replicate 128 None; waits = [] }

-- the wait of a task is marked
abbrev pub is_marked : List Bool → Task → Bool
is_marked marks t = slice_index_or marks (t.number - 1) false

-- all objects of a kind
unfoldable pub all_objects : List Object
all_objects = map as_object (range_with_len 1 32)

-- an object is marked, where the marks of its kind begin at a place
abbrev pub is_marked_from : ℕ → List Bool → Object → Bool
is_marked_from place marks o = slice_index_or marks (place + (o.number - 1)) false

-- the marked alarms and cyclics, by number
unfoldable pub marked_handlers : List Bool → List Item
marked_handlers marks = map item_at (filter (λ k. slice_index_or marks k false) (range_with_len 64 64))
