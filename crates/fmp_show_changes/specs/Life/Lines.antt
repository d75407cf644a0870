-- What is told of a task, a time event handler or an object: always a line, also where it is as at boot. docs/FORMATS.md has its form.
use Rattle.std.specs.Prelude.{ℕ, ℤ, ◌==◌, Bool, true, false, not, Option, None, Some, List, [], ◌∷◌, ◌++◌, option_map, if◌then◌else◌, codes, decimal}
use Rattle.std.specs.List.{list_any}
use Rattle.fmp_codes.specs.declared.numbers.Object.{Object}
use Rattle.fmp_codes.specs.declared.numbers.Proc.{Proc}
use Rattle.fmp_codes.specs.declared.numbers.Task.{Task}
use Rattle.fmp_codes.specs.declared.records.Runner.{Runner}
use Rattle.fmp_codes.specs.declared.records.Runner.TheVariants as runner
use Rattle.fmp_codes.specs.declared.kinds.ObjectKind.{ObjectKind}
use Rattle.fmp_codes.specs.declared.kinds.ObjectKind.TheVariants as objects
use Rattle.fmp_names.specs.Names.{NameLists}
use Rattle.fmp_rules.specs.declared.machine.TaskRecord.{TaskRecord}
use Rattle.fmp_rules.specs.Objects.{eventflag, holder, pool, semaphore, values, free_blocks}
use Rattle.fmp_rules.specs.Ordering.{is_runnable}
use Rattle.fmp_rules.specs.World.{World, item, processor, processors_of, task}
use Rattle.fmp_trace.specs.Lines.{task_text}
use Rattle.fmp_trace.specs.Values.{named}
use Rattle.fmp_show_state.specs.Changes.{numbers_text, object_text, ticks_text, values_from}
use Rattle.fmp_show_state.specs.States.{flag_text, is_running, left_text, waiting_text}
use Rattle.fmp_show_changes.specs.declared.life.things.Thing.{Thing}
use Rattle.fmp_show_changes.specs.declared.life.things.Thing.TheVariants as thing

-- the ticks left, or without how many they are
abbrev pub left_by : Bool → Option ℕ → Option ℕ
left_by true left = left
left_by false left = option_map (λ n. 0) left

-- a processor after its word
abbrev pub on_text : List ℕ → Proc → List ℕ
on_text word p = word ++ decimal p.number

-- that a task runs, is ready or is dormant, and where it runs or is ready. Of one that waits or is suspended that is told after it
abbrev pub doing_text : Bool → TaskRecord → List ℕ
doing_text runs x =
    if runs then on_text (codes " running P") x.assigned
    else if is_runnable x then on_text (codes " ready P") x.assigned
    else flag_text (not x.active) (codes " dormant")

-- a dormant task has its numbers anew when it starts
abbrev pub counts_text : TaskRecord → List ℕ
counts_text x = if x.active then numbers_text x else []

-- that a task is suspended, what it waits for, and its numbers
unfoldable pub rest_text : NameLists → TaskRecord → Option ℕ → List ℕ
rest_text lists x left = flag_text x.suspended (codes " suspended") ++ waiting_text lists x.wait ++ left_text left ++ counts_text x

unfoldable pub task_reported : NameLists → Task → Bool → TaskRecord → Option ℕ → List ℕ
task_reported lists t runs x left = codes "  " ++ task_text lists t ++ doing_text runs x ++ rest_text lists x left ++ codes "\n"

-- a data queue without values is empty
abbrev pub contents_text : List ℤ → List ℕ
contents_text [] = codes " empty"
contents_text (v ∷ vs) = values_from 0 (v ∷ vs)

unfoldable pub queue_reported : NameLists → Object → List ℤ → List ℕ
queue_reported lists d vs = codes "  " ++ named lists objects.DataQueue d.number ++ contents_text vs ++ codes "\n"

-- the processor that holds a spin lock, or that it is free
abbrev pub holder_text : Option Proc → List ℕ
holder_text None = codes " free"
holder_text (Some p) = on_text (codes " held=P") p

unfoldable pub lock_reported : NameLists → Object → Option Proc → List ℕ
lock_reported lists l p = codes "  " ++ named lists objects.SpinLock l.number ++ holder_text p ++ codes "\n"

-- a handler with its ticks left, or that it is stopped, and that it is due
unfoldable pub handler_reported : NameLists → ObjectKind → Object → Option ℕ → Bool → List ℕ
handler_reported lists kind o left due = codes "  " ++ named lists kind o.number ++ ticks_text left ++ flag_text due (codes " due") ++ codes "\n"

-- these are the same handler
abbrev pub is_handler : Runner → Runner → Bool
is_handler (runner.Alarm a) (runner.Alarm b) = a.number == b.number
is_handler (runner.Cyclic a) (runner.Cyclic b) = a.number == b.number
is_handler a b = false

-- a handler is due on this processor
abbrev pub is_due_on : {Q : Type 0} → World Q → Runner → Proc → Bool
is_due_on w r p = list_any (is_handler r) (item [] w.due p.number)

-- a handler is due: it runs, or is to run before any task
abbrev pub is_due : {Q : Type 0} → World Q → Runner → Bool
is_due w r = list_any (is_due_on w r) (processors_of w)

-- the processor of a task runs it
abbrev pub runs : {Q : Type 0} → World Q → Task → Bool
runs w t = is_running (processor w (task w t).assigned).running t

-- the line of a thing, with the ticks that it has left or without how many they are
abbrev pub thing_line : {Q : Type 0} → NameLists → Bool → World Q → Thing → List ℕ
thing_line lists ticks w (thing.Task t) = task_reported lists t (runs w t) (task w t) (left_by ticks (item None w.waits_left t.number))
thing_line lists ticks w (thing.Semaphore s) = object_text lists objects.Semaphore s (codes " count=") (semaphore w s).count
thing_line lists ticks w (thing.Eventflag f) = object_text lists objects.Eventflag f (codes " pattern=") (eventflag w f).pattern
thing_line lists ticks w (thing.DataQueue d) = queue_reported lists d (values w d)
thing_line lists ticks w (thing.Pool m) = object_text lists objects.Pool m (codes " free=") (free_blocks (pool w m))
thing_line lists ticks w (thing.Cyclic c) = handler_reported lists objects.Cyclic c (left_by ticks (item None w.cyclics_left c.number)) (is_due w (runner.Cyclic c))
thing_line lists ticks w (thing.Alarm a) = handler_reported lists objects.Alarm a (left_by ticks (item None w.alarms_left a.number)) (is_due w (runner.Alarm a))
thing_line lists ticks w (thing.SpinLock l) = lock_reported lists l (holder w l)
