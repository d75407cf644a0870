-- The lines of the tasks that wait.
use Rattle.std.specs.Prelude.{◌≡◌, ℕ, zero, suc, ◌+◌, ◌<◌, Option, None, List, [], ◌++◌, length, is_some, if◌then◌else◌}
use Rattle.fmp_codes.specs.Numbers.{as_task}
use Rattle.fmp_codes.specs.declared.numbers.Task.{Task}
use Rattle.fmp_names.specs.Names.{NameLists}
use Rattle.fmp_rules.specs.declared.machine.TaskRecord.{TaskRecord}
use Rattle.fmp_rules.specs.World.{World, item, task}
use Rattle.fmp_show_state.specs.States.{task_words}

-- what is told of a task that waits, and of another one nothing
abbrev pub wait_line : NameLists → Task → TaskRecord → Option ℕ → List ℕ
wait_line lists t x left = if is_some x.wait then task_words lists t x left else []

-- the lines of those that wait of the first n tasks
unfoldable pub waits_text : {Q : Type 0} → NameLists → World Q → ℕ → List ℕ
waits_text lists w zero = []
waits_text lists w (suc n) =
    let t = as_task (suc n) in
    waits_text lists w n ++ wait_line lists t (task w t) (item None w.waits_left t.number)

-- the lines of all tasks that wait, in the order of the tasks
abbrev pub waiting_lines : {Q : Type 0} → NameLists → World Q → List ℕ
waiting_lines lists w = waits_text lists w (length w.tasks)

-- no task waits
abbrev pub NoneWaits : {Q : Type 0} → World Q → Type 0
NoneWaits w = (k : ℕ) → k < length w.tasks → (task w (as_task (k + 1))).wait ≡ None
