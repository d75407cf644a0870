-- The task that comes first of those that a walk has met, with its priority and when it became ready: so no record is read twice.
use Rattle.std.specs.Prelude.{ℕ, Bool, ◌&&◌, ◌||◌, ◌==◌, not, is_some, nat_lt, List, Option, None, Some, if◌then◌else◌}
use Rattle.fmp_codes.specs.declared.numbers.Task.{Task}
use Rattle.fmp_rules.specs.World.{item}
use Rattle.fmp_rules.specs.Arrivals.{priority_in}
use Rattle.fmp_rules.specs.declared.machine.TaskRecord.{TaskRecord}
use Rattle.fmp_plain_machine.specs.declared.tops.Best.{Best}

-- the task, if any, with its priority and the number that tells when it became ready
abbrev pub best_of : List TaskRecord → List ℕ → Option Task → Best
best_of records ready None = record { task = None; priority = 0; number = 0 }
best_of records ready (Some t) = record { task = Some t; priority = priority_in records t; number = item 0 ready t.number }

-- a task of this priority and number comes before the best one
abbrev pub is_after : Best → ℕ → ℕ → Bool
is_after b priority number = not (is_some b.task) || (nat_lt priority b.priority || (priority == b.priority && nat_lt number b.number))

-- the best one with one task more
abbrev pub met : Best → Task → ℕ → ℕ → Best
met b t priority number = if is_after b priority number then record { task = Some t; priority = priority; number = number } else b
