-- The text of a state: a line for each processor, one for each task that waits, is suspended or is otherwise not as at boot, one for
-- each object that is not as at boot, and one that ends it. docs/FORMATS.md has its form.
use Rattle.std.specs.Prelude.{ℕ, zero, suc, ◌+◌, Bool, true, false, not, ◌||◌, ◌==◌, Option, None, Some, List, [], ◌∷◌, ◌++◌, length, filter, is_some, if◌then◌else◌}
use Rattle.std.specs.Prelude.{codes, decimal}
use Rattle.fmp_codes.specs.Numbers.{as_pri, as_proc, as_task}
use Rattle.fmp_codes.specs.declared.numbers.Object.{Object}
use Rattle.fmp_codes.specs.declared.numbers.Proc.{Proc}
use Rattle.fmp_codes.specs.declared.numbers.Task.{Task}
use Rattle.fmp_codes.specs.declared.records.Runner.{Runner}
use Rattle.fmp_codes.specs.declared.kinds.ObjectKind.{ObjectKind}
use Rattle.fmp_codes.specs.declared.kinds.ObjectKind.TheVariants as objects
use Rattle.fmp_names.specs.Names.{NameLists}
use Rattle.fmp_rules.specs.declared.machine.Processor.{Processor}
use Rattle.fmp_rules.specs.declared.machine.TaskRecord.{TaskRecord}
use Rattle.fmp_rules.specs.declared.machine.Wait.{Wait}
use Rattle.fmp_rules.specs.declared.machine.Wait.TheVariants as wait
use Rattle.fmp_rules.specs.Ordering.{Ordering}
use Rattle.fmp_rules.specs.Arrivals.{State, numbered}
use Rattle.fmp_rules.specs.World.{World, item, processor, task}
use Rattle.fmp_trace.specs.Lines.{runner_text, task_text}
use Rattle.fmp_trace.specs.Values.{named}
use Rattle.fmp_show_state.specs.Changes.{changes_of, has_changed, numbers_text}

-- this task is the one that runs
abbrev pub is_running : Option Task → Task → Bool
is_running None t = false
is_running (Some u) t = t.number == u.number

abbrev pub without_running : Option Task → List Task → List Task
without_running running ts = filter (λ t. not (is_running running t)) ts

-- the ready tasks of the priorities 1 to n on a processor, in their precedence, without the running one
unfoldable pub ready_to : {Q : Type 0} → Ordering Q → World Q → Proc → ℕ → List Task
ready_to k w p zero = []
ready_to k w p (suc n) = ready_to k w p n ++ without_running (processor w p).running (k.ready w.order w.tasks p (as_pri (suc n)))

-- what stands before the task at this index
abbrev pub ready_lead : ℕ → List ℕ
ready_lead zero = codes " ready="
ready_lead (suc i) = codes ","

-- the ready tasks from this index on
abbrev pub ready_from : NameLists → ℕ → List Task → List ℕ
ready_from lists i [] = []
ready_from lists i (t ∷ ts) = ready_lead i ++ task_text lists t ++ ready_from lists (i + 1) ts

-- what stands before the handler at this index
abbrev pub due_lead : ℕ → List ℕ
due_lead zero = codes " due="
due_lead (suc i) = codes ","

-- the due handlers from this index on
abbrev pub due_from : NameLists → ℕ → List Runner → List ℕ
due_from lists i [] = []
due_from lists i (r ∷ rs) = due_lead i ++ runner_text lists (Some r) ++ due_from lists (i + 1) rs

-- a word where it holds
abbrev pub flag_text : Bool → List ℕ → List ℕ
flag_text true word = word
flag_text false word = []

unfoldable pub flags_text : Processor → List ℕ
flags_text x = flag_text x.locked (codes " locked") ++ flag_text x.disabled (codes " disabled") ++ flag_text x.latch (codes " latch")

-- the task that runs, or that there is none
abbrev pub running_text : NameLists → Option Task → List ℕ
running_text lists None = codes "-"
running_text lists (Some t) = task_text lists t

-- a processor and what it runs
unfoldable pub head_text : NameLists → Proc → Option Task → List ℕ
head_text lists p running = codes "  P" ++ decimal p.number ++ codes " run=" ++ running_text lists running

-- the line of a processor
unfoldable pub processor_text : NameLists → Proc → Processor → List Task → List Runner → List ℕ
processor_text lists p x ready due =
    head_text lists p x.running ++ ready_from lists 0 ready ++ flags_text x ++ due_from lists 0 due ++ codes "\n"

-- the lines of the first n processors
unfoldable pub processors_text : {Q : Type 0} → Ordering Q → NameLists → World Q → ℕ → List ℕ
processors_text k lists w zero = []
processors_text k lists w (suc n) =
    let p = as_proc (suc n) in
    processors_text k lists w n ++ processor_text lists p (processor w p) (ready_to k w p 32) (item [] w.due p.number)

-- what a wait is for, and the name of the object
unfoldable pub object_wait : NameLists → List ℕ → ObjectKind → Object → List ℕ
object_wait lists word kind o = codes " waits " ++ word ++ codes " " ++ named lists kind o.number

abbrev pub wait_text : NameLists → Wait → List ℕ
wait_text lists wait.Sleep = codes " waits slp"
wait_text lists wait.Delay = codes " waits dly"
wait_text lists (wait.Semaphore s) = object_wait lists (codes "sem") objects.Semaphore s
wait_text lists (wait.Eventflag f pattern mode) = object_wait lists (codes "flg") objects.Eventflag f
wait_text lists (wait.Send d value) = object_wait lists (codes "sdtq") objects.DataQueue d
wait_text lists (wait.Receive d) = object_wait lists (codes "rdtq") objects.DataQueue d
wait_text lists (wait.Pool m) = object_wait lists (codes "mpf") objects.Pool m

-- what a task waits for, if it waits
abbrev pub waiting_text : NameLists → Option Wait → List ℕ
waiting_text lists None = []
waiting_text lists (Some x) = wait_text lists x

-- the ticks left of a wait, where it is timed
abbrev pub left_text : Option ℕ → List ℕ
left_text None = []
left_text (Some n) = codes " left=" ++ decimal n

-- a task, what is told of it, and a line feed
unfoldable pub task_words : NameLists → Task → TaskRecord → Option ℕ → List ℕ
task_words lists t x left =
    task_text lists t ++ flag_text x.suspended (codes " suspended") ++ waiting_text lists x.wait ++ left_text left ++ numbers_text x ++ codes "\n"

-- the line of a task of which something is told
unfoldable pub report_text : NameLists → Task → TaskRecord → Option ℕ → List ℕ
report_text lists t x left = codes "  " ++ task_words lists t x left

-- a task that neither waits nor is suspended, and of which nothing else is another than at boot, has no line
abbrev pub is_reported : TaskRecord → Bool
is_reported x = is_some x.wait || x.suspended || has_changed x

abbrev pub task_line : NameLists → Task → TaskRecord → Option ℕ → List ℕ
task_line lists t x left = if is_reported x then report_text lists t x left else []

-- the lines of the first n tasks
unfoldable pub tasks_text : {Q : Type 0} → NameLists → World Q → ℕ → List ℕ
tasks_text lists w zero = []
tasks_text lists w (suc n) =
    let t = as_task (suc n) in
    tasks_text lists w n ++ task_line lists t (task w t) (item None w.waits_left t.number)

-- the lines of a state, whatever keeps its order
unfoldable pub state_lines : {Q : Type 0} → Ordering Q → NameLists → World Q → List ℕ
state_lines k lists w = processors_text k lists w (length w.processors) ++ tasks_text lists w (length w.tasks) ++ changes_of lists w

-- the line that ends a state, so that a reader need not wait for what comes next
unfoldable pub state_end : List ℕ
state_end = codes "  end\n"

abbrev pub ended_lines : {Q : Type 0} → Ordering Q → NameLists → World Q → List ℕ
ended_lines k lists w = state_lines k lists w ++ state_end

-- the lines of a state of the model, and its end
abbrev pub state_text : NameLists → State → List ℕ
state_text lists m = ended_lines numbered lists m
