-- What an argument of a call means.
use Rattle.std.specs.Prelude.{ℕ, ℤ, pos, negsuc, Bool, false, ◌&&◌, ◌==◌, nat_le, Option, Some, if◌then◌else◌}
use Rattle.std.specs.Option.{option_map_or}
use Rattle.fmp_codes.specs.Numbers.{as_proc, as_task, as_object}
use Rattle.fmp_codes.specs.declared.numbers.Proc.{Proc}
use Rattle.fmp_codes.specs.declared.numbers.Task.{Task}
use Rattle.fmp_codes.specs.declared.numbers.Object.{Object}
use Rattle.fmp_codes.specs.declared.records.Runner.{Runner}
use Rattle.fmp_codes.specs.declared.records.Runner.TheVariants as runner
use Rattle.fmp_setup.specs.declared.setup.Class.{Class}
use Rattle.fmp_law_balance.specs.Words.{is_member, natural_in}

-- Numbers.

-- a number from 1 to the last one; and one from 0 to the last one
abbrev pub is_one_of : ℕ → ℤ → Bool
is_one_of last (pos n) = nat_le 1 n && nat_le n last
is_one_of last (negsuc n) = false

abbrev pub is_zero_or_of : ℕ → ℤ → Bool
is_zero_or_of last (pos n) = nat_le n last
is_zero_or_of last (negsuc n) = false

-- a number of ticks; and a timeout, which may also be -1
abbrev pub says_time : ℤ → Bool
says_time (pos n) = nat_le n 2147483647
says_time (negsuc n) = false

abbrev pub says_timeout : ℤ → Bool
says_timeout (pos n) = nat_le n 2147483647
says_timeout (negsuc n) = n == 0

-- a timeout with which a call does not wait
abbrev pub is_polling : ℤ → Bool
is_polling timeout = option_map_or (λ n. n == 0) (natural_in timeout) false

-- What they stand for.

-- the task of a number; the same, where 0 means who makes the call; and the object of a number
abbrev pub task_of : ℤ → Task
task_of (pos n) = as_task n
task_of (negsuc n) = as_task 1

abbrev pub task_meant : Option Runner → ℤ → Task
task_meant (Some (runner.Task t)) (pos n) = if n == 0 then t else as_task n
task_meant r id = task_of id

abbrev pub object_of : ℤ → Object
object_of (pos n) = as_object n
object_of (negsuc n) = as_object 1

-- the processor of a number, where 0 means the initial one of a class
abbrev pub processor_in : Class → ℤ → Proc
processor_in class (pos n) = if n == 0 then class.initial else as_proc n
processor_in class (negsuc n) = class.initial

abbrev pub is_in_class : Class → ℤ → Bool
is_in_class class to = is_member class (processor_in class to)
