-- What of tasks, objects and time event handlers is not as it was at boot. What changes without these texts is told on the lines of
-- processors, and of tasks that wait or are suspended.
use Rattle.std.specs.Prelude.{ℕ, zero, suc, ◌+◌, ℤ, Bool, true, false, not, ◌||◌, ◌&&◌, ◌==◌, Option, None, Some, List, [], ◌∷◌, ◌++◌, length, if◌then◌else◌, codes}
use Rattle.std.specs.Prelude.{decimal}
use Rattle.std.specs.Fmt.{signed_decimal}
use Rattle.fmp_codes.specs.Numbers.{as_object, as_proc}
use Rattle.fmp_codes.specs.declared.numbers.Object.{Object}
use Rattle.fmp_codes.specs.declared.numbers.Proc.{Proc}
use Rattle.fmp_codes.specs.declared.kinds.ObjectKind.{ObjectKind}
use Rattle.fmp_codes.specs.declared.kinds.ObjectKind.TheVariants as objects
use Rattle.fmp_names.specs.Names.{NameLists}
use Rattle.fmp_setup.specs.declared.setup.DataQueueSetup.{DataQueueSetup}
use Rattle.fmp_rules.specs.declared.machine.Alarm.{Alarm}
use Rattle.fmp_rules.specs.declared.machine.Cyclic.{Cyclic}
use Rattle.fmp_rules.specs.declared.machine.Eventflag.{Eventflag}
use Rattle.fmp_rules.specs.declared.machine.Pool.{Pool}
use Rattle.fmp_rules.specs.declared.machine.Semaphore.{Semaphore}
use Rattle.fmp_rules.specs.declared.machine.TaskRecord.{TaskRecord}
use Rattle.fmp_rules.specs.Boot.{phase_left}
use Rattle.fmp_rules.specs.Objects.{blank_eventflag, blank_pool, blank_semaphore, no_cyclic, free_blocks}
use Rattle.fmp_rules.specs.World.{World, item}
use Rattle.fmp_trace.specs.Values.{named}

-- a number after its word, where it is told
abbrev pub number_text : Bool → List ℕ → ℕ → List ℕ
number_text report word n = if report then word ++ decimal n else []

-- a task has another priority than the configuration gives it
abbrev pub has_moved : TaskRecord → Bool
has_moved x = not (x.priority.number == x.setup.priority.number)

abbrev pub is_queued : ℕ → Bool
is_queued n = not (n == 0)

-- the priority of a task where it is another one, and what is queued for it
unfoldable pub numbers_text : TaskRecord → List ℕ
numbers_text x =
    number_text (has_moved x) (codes " pri=") x.priority.number ++ number_text (is_queued x.activations) (codes " act=") x.activations
    ++ number_text (is_queued x.wakeups) (codes " wup=") x.wakeups

-- some of it is told, and the task is not dormant
abbrev pub has_changed : TaskRecord → Bool
has_changed x = x.active && (has_moved x || is_queued x.activations || is_queued x.wakeups)

-- an object, and a number after its word
unfoldable pub object_text : NameLists → ObjectKind → Object → List ℕ → ℕ → List ℕ
object_text lists kind o word n = codes "  " ++ named lists kind o.number ++ word ++ decimal n ++ codes "\n"

abbrev pub count_line : NameLists → Object → Semaphore → List ℕ
count_line lists s x = if x.count == x.setup.initial then [] else object_text lists objects.Semaphore s (codes " count=") x.count

abbrev pub pattern_line : NameLists → Object → Eventflag → List ℕ
pattern_line lists f x = if x.pattern == x.setup.initial then [] else object_text lists objects.Eventflag f (codes " pattern=") x.pattern

-- what stands before the value at this index
abbrev pub value_lead : ℕ → List ℕ
value_lead zero = codes " values="
value_lead (suc i) = codes ","

-- the value at this index, where there is one
abbrev pub value_text : ℕ → Option ℤ → List ℕ
value_text i None = []
value_text i (Some v) = value_lead i ++ signed_decimal v

-- the values from this index on
abbrev pub values_from : ℕ → List ℤ → List ℕ
values_from i [] = []
values_from i (v ∷ vs) = value_text i (Some v) ++ values_from (i + 1) vs

-- a data queue with its values, the oldest first
unfoldable pub queue_text : NameLists → Object → List ℤ → List ℕ
queue_text lists d vs = codes "  " ++ named lists objects.DataQueue d.number ++ values_from 0 vs ++ codes "\n"

abbrev pub queue_line : NameLists → Object → List ℤ → List ℕ
queue_line lists d vs = if length vs == 0 then [] else queue_text lists d vs

abbrev pub free_line : NameLists → Object → Pool → List ℕ
free_line lists m x = if free_blocks x == x.setup.blocks then [] else object_text lists objects.Pool m (codes " free=") (free_blocks x)

-- the ticks left of a time event handler, or that it is stopped
abbrev pub ticks_text : Option ℕ → List ℕ
ticks_text None = codes " stopped"
ticks_text (Some n) = codes " left=" ++ decimal n

unfoldable pub handler_text : NameLists → ObjectKind → Object → Option ℕ → List ℕ
handler_text lists kind o left = codes "  " ++ named lists kind o.number ++ ticks_text left ++ codes "\n"

-- the ticks left are those at boot
abbrev pub is_same_left : Option ℕ → Option ℕ → Bool
is_same_left None None = true
is_same_left (Some n) (Some m) = n == m
is_same_left boot left = false

abbrev pub handler_line : NameLists → ObjectKind → Object → Option ℕ → Option ℕ → List ℕ
handler_line lists kind o boot left = if is_same_left boot left then [] else handler_text lists kind o left

abbrev pub holder_line : NameLists → Object → Option Proc → List ℕ
holder_line lists l None = []
holder_line lists l (Some p) = object_text lists objects.SpinLock l (codes " held=P") p.number

-- the lines of the numbers from 1 to n
unfoldable pub lines_to : (ℕ → List ℕ) → ℕ → List ℕ
lines_to line zero = []
lines_to line (suc n) = lines_to line n ++ line (suc n)

-- the line of a number
abbrev pub count_at : NameLists → List Semaphore → ℕ → List ℕ
count_at lists semaphores i = count_line lists (as_object i) (item blank_semaphore semaphores (as_object i).number)

abbrev pub pattern_at : NameLists → List Eventflag → ℕ → List ℕ
pattern_at lists eventflags i = pattern_line lists (as_object i) (item blank_eventflag eventflags (as_object i).number)

abbrev pub queue_at : NameLists → List (List ℤ) → ℕ → List ℕ
queue_at lists contents i = queue_line lists (as_object i) (item [] contents (as_object i).number)

abbrev pub free_at : NameLists → List Pool → ℕ → List ℕ
free_at lists pools i = free_line lists (as_object i) (item blank_pool pools (as_object i).number)

abbrev pub cyclic_at : NameLists → List Cyclic → List (Option ℕ) → ℕ → List ℕ
cyclic_at lists cyclics lefts i =
    let o = as_object i in
    let x = item (record { setup = no_cyclic; assigned = as_proc 1 }) cyclics o.number in
    handler_line lists objects.Cyclic o (phase_left x.setup) (item None lefts o.number)

abbrev pub alarm_at : NameLists → List (Option ℕ) → ℕ → List ℕ
alarm_at lists lefts i = handler_line lists objects.Alarm (as_object i) None (item None lefts (as_object i).number)

abbrev pub holder_at : NameLists → List (Option Proc) → ℕ → List ℕ
holder_at lists holders i = holder_line lists (as_object i) (item None holders (as_object i).number)

-- the lines of the objects that tasks wait for
unfoldable pub objects_text : NameLists → List Semaphore → List Eventflag → List DataQueueSetup → List (List ℤ) → List Pool → List ℕ
objects_text lists semaphores eventflags data_queues contents pools =
    lines_to (count_at lists semaphores) (length semaphores) ++ lines_to (pattern_at lists eventflags) (length eventflags)
    ++ lines_to (queue_at lists contents) (length data_queues) ++ lines_to (free_at lists pools) (length pools)

-- those of the time event handlers and the spin locks
unfoldable pub handlers_text : NameLists → List Cyclic → List (Option ℕ) → List Alarm → List (Option ℕ) → List (Option Proc) → List ℕ
handlers_text lists cyclics cyclics_left alarms alarms_left holders =
    lines_to (cyclic_at lists cyclics cyclics_left) (length cyclics) ++ lines_to (alarm_at lists alarms_left) (length alarms)
    ++ lines_to (holder_at lists holders) (length holders)

abbrev pub changes_of : {Q : Type 0} → NameLists → World Q → List ℕ
changes_of lists w =
    objects_text lists w.semaphores w.eventflags w.data_queues w.contents w.pools
    ++ handlers_text lists w.cyclics w.cyclics_left w.alarms w.alarms_left w.holders
