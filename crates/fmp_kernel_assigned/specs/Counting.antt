-- The timers count on the processors to which things are assigned.
use Rattle.std.specs.Prelude.{◌≡◌, ℕ, ◌+◌, ◌-◌, ◌<◌, ◌≤◌, ◌==◌, Bool, true, false, Option, None, Some, List, if◌then◌else◌}
use Rattle.std.specs.Prelude.{length, nat_lt, slice_index_or, min, option_map}
use Rattle.fmp_codes.specs.declared.numbers.Proc.{Proc}
use Rattle.fmp_setup.specs.declared.setup.Timer.{Timer}
use Rattle.fmp_rules.specs.declared.machine.TaskRecord.{TaskRecord}
use Rattle.fmp_rules.specs.declared.machine.Cyclic.{Cyclic}
use Rattle.fmp_rules.specs.declared.machine.Alarm.{Alarm}
use Rattle.fmp_setup.specs.Setup.{counts_for}
use Rattle.fmp_rules.specs.World.{no_task}
use Rattle.fmp_time.specs.declared.item.Item.{Item}
use Rattle.fmp_time.specs.Left.{Left}
use Rattle.fmp_time.specs.Times.{Times, left_of, armed, cancelled, moved_to}
use Rattle.fmp_kernel_assigned.specs.Assignments.{blank_cyclic, blank_alarm}

-- what counts is on this processor
abbrev pub IsAt : Proc → Option Left → Type 0
IsAt p None = Unit {0}
IsAt p (Some l) = l.processor.number ≡ p.number

-- the items of the timers from a place on are on the processors to which these are assigned
abbrev pub AreAt : {X : Type 0} → (X → Proc) → X → List X → List (Option Left) → ℕ → Type 0
AreAt assigned blank xs left place = (i : ℕ) → i < length xs → IsAt (assigned (slice_index_or xs i blank)) (slice_index_or left (place + i) None)

-- nothing counts from one place of the timers to another
abbrev pub NoneCounts : List (Option Left) → ℕ → ℕ → Type 0
NoneCounts left from to = (k : ℕ) → from ≤ k → k < to → slice_index_or left k None ≡ None

-- where something counts that does not show it has no ticks left, and is where it would be assigned
abbrev pub IsUnseen : Option Left → Type 0
IsUnseen None = Unit {0}
IsUnseen (Some l) = (l.processor.number ≡ no_task.assigned.number) × (l.ticks ≡ 0)

abbrev pub AreUnseen : List (Option Left) → ℕ → ℕ → Type 0
AreUnseen left from to = (k : ℕ) → from ≤ k → k < to → IsUnseen (slice_index_or left k None)

pub record AreInStep (tasks : List TaskRecord) (cyclics : List Cyclic) (alarms : List Alarm) (left : List (Option Left)) : Type 0 where
  pub tasks_at : AreAt (λ r. r.assigned) no_task tasks left 0
  pub cyclics_at : AreAt (λ c. c.assigned) blank_cyclic cyclics left 96
  pub alarms_at : AreAt (λ a. a.assigned) blank_alarm alarms left 64
  -- tasks past the last one
  pub no_tasks : AreUnseen left (length tasks) 64
  -- handlers past the last one
  pub no_cyclics : NoneCounts left (96 + length cyclics) 128
  pub no_alarms : NoneCounts left (64 + length alarms) 96
  pub few_tasks : length tasks ≤ 64
  pub few_cyclics : length cyclics ≤ 32
  pub few_alarms : length alarms ≤ 32
  pub all : length left ≡ 128

-- so many ticks left as show
abbrev pub shown_left : Bool → Option ℕ → Option ℕ
shown_left true left = left
shown_left false left = option_map (λ n. 0) left

-- what counts goes on on another processor, if it is assigned to another one
abbrev pub followed : Times → Item → Proc → Proc → Times
followed m x from to = if to.number == from.number then m else moved_to m x to

-- an item counts on a processor with so many ticks left, or no more
abbrev pub with_left : Times → Proc → Item → Option ℕ → Times
with_left m p x None = cancelled m x
with_left m p x (Some n) = armed m p x n

-- one tick less
abbrev pub less_one : Option Left → Option Left
less_one None = None
less_one (Some l) = Some (record { processor = l.processor; ticks = l.ticks - 1 })

-- one tick less on the first so many processors
abbrev pub less_below : ℕ → Option Left → Option Left
less_below n None = None
less_below n (Some l) = if nat_lt (l.processor.number - 1) n then less_one (Some l) else Some l

-- what is left after a tick on p
abbrev pub fallen : Timer → Proc → Option Left → Option Left
fallen timer p None = None
fallen timer p (Some l) = if counts_for timer p l.processor then less_one (Some l) else Some l

-- the ticks left, where a tick on p counts for them
abbrev pub ticks_for : Timer → Proc → Option Left → Option ℕ
ticks_for timer p None = None
ticks_for timer p (Some l) = if counts_for timer p l.processor then Some l.ticks else None

-- the ticks left, where they are on one of the first so many processors
abbrev pub ticks_below : ℕ → Option Left → Option ℕ
ticks_below n None = None
ticks_below n (Some l) = if nat_lt (l.processor.number - 1) n then Some l.ticks else None

-- what this shows of an item is so many ticks
abbrev pub AreShown : (Option Left → Option ℕ) → Times → ℕ → Type 0
AreShown shown m n = (x : Item) × (shown (left_of m x) ≡ Some n)

-- the lesser of two counts, where there are such
abbrev pub lesser : Option ℕ → Option ℕ → Option ℕ
lesser None b = b
lesser (Some n) None = Some n
lesser (Some n) (Some m) = Some (min n m)
