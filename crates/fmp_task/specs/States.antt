-- The records of the tasks as a map, and the states of a task.
use Rattle.std.specs.Prelude.{Bool, not, List, is_some}
use Rattle.fmp_codes.specs.declared.numbers.Task.{Task}
use Rattle.fmp_rules.specs.declared.machine.TaskRecord.{TaskRecord}
use Rattle.fmp_rules.specs.World.{item, with_item, no_task}

abbrev pub record_of : List TaskRecord → Task → TaskRecord
record_of tasks t = item no_task tasks t.number

-- the record of one task is another, and all others are as before
abbrev pub with_record : List TaskRecord → Task → TaskRecord → List TaskRecord
with_record tasks t r = with_item tasks t.number r

abbrev pub is_dormant : TaskRecord → Bool
is_dormant r = not r.active

abbrev pub is_waiting : TaskRecord → Bool
is_waiting r = is_some r.wait

abbrev pub is_suspended : TaskRecord → Bool
is_suspended r = r.suspended
