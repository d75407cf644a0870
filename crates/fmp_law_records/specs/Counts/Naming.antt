-- Which task an argument names.
use Rattle.std.specs.Prelude.{ℤ, Bool, Option, if◌then◌else◌}
use Rattle.fmp_codes.specs.declared.numbers.Task.{Task}
use Rattle.fmp_codes.specs.declared.records.Runner.{Runner}
use Rattle.fmp_law_balance.specs.Words.{says_nothing}
use Rattle.fmp_law_balance.specs.Queues.{is_task}
use Rattle.fmp_law_balance.specs.Waits.Waits.{is_number_of}

-- an argument names this task, where 0 names who makes the call
abbrev pub names_task : Task → Option Runner → ℤ → Bool
names_task t r id = if says_nothing id then is_task t r else is_number_of t id
