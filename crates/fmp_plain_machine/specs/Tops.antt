-- The tasks with their ready numbers, and what comes first on each processor.
use Rattle.std.specs.Prelude.{◌≡◌, ℕ, ◌-◌, Bool, false, not, ◌&&◌, ◌||◌, ◌==◌, nat_lt, Option, None, Some, List, length, slice_set, if◌then◌else◌}
use Rattle.fmp_codes.specs.declared.numbers.Proc.{Proc}
use Rattle.fmp_codes.specs.declared.numbers.Task.{Task}
use Rattle.fmp_rules.specs.World.{item, first, no_task}
use Rattle.fmp_rules.specs.Ordering.{is_runnable}
use Rattle.fmp_rules.specs.Arrivals.{in_order, is_ready_on, comes_before, priority_in}
use Rattle.fmp_rules.specs.declared.machine.TaskRecord.{TaskRecord}

-- the record of each task, and when it became ready or was put last
pub record Ranked : Type 0 where
  pub records : List TaskRecord
  pub ready : List ℕ

-- what a task's record says of its place: whether it is ready, on which processor and with which priority
abbrev pub rank_of : TaskRecord → Bool × ℕ × ℕ
rank_of r = (is_runnable r, r.assigned.number, r.priority.number)

-- the first of the tasks 1 to n that are ready on a processor
abbrev pub top_among : List TaskRecord → List ℕ → ℕ → Proc → Option Task
top_among records ready n p = first (in_order (is_ready_on records p) (comes_before (priority_in records) ready) n)

-- these are the first of the tasks 1 to n on each processor
pub record AreTopsAmong (records : List TaskRecord) (ready : List ℕ) (n : ℕ) (tops : List (Option Task)) : Type 0 where
  pub places : length tops ≡ 8
  pub each : (p : Proc) → item None tops p.number ≡ top_among records ready n p

abbrev pub AreTops : List TaskRecord → List ℕ → List (Option Task) → Type 0
AreTops records ready tops = AreTopsAmong records ready (length records) tops

-- whether this is the task
abbrev pub is_task : Task → Option Task → Bool
is_task t None = false
is_task t (Some u) = u.number == t.number

-- the first of a task and another that came first without it; of equals the one of the lesser number
abbrev pub ahead : (Task → Task → Bool) → Task → Option Task → Option Task
ahead before t None = Some t
ahead before t (Some u) = if before t u || (not (before u t) && nat_lt t.number u.number) then Some t else Some u

-- what comes first on each processor with a task that came first nowhere
abbrev pub raised : List TaskRecord → List ℕ → Task → List (Option Task) → List (Option Task)
raised records ready t tops =
    let r = item no_task records t.number in
    if is_runnable r then slice_set tops (r.assigned.number - 1) (ahead (comes_before (priority_in records) ready) t (item None tops r.assigned.number)) else tops

-- what comes first on each processor, where a task changed that came first on this one: it is looked for there, and the task may come
-- first on another processor that it is on now
abbrev pub looked : List TaskRecord → List ℕ → Task → Proc → List (Option Task) → List (Option Task)
looked records ready t p tops =
    let found = slice_set tops (p.number - 1) (top_among records ready (length records) p) in
    if (item no_task records t.number).assigned.number == p.number then found else raised records ready t found
