-- believed: see docs/PROOF.md, "What has to be believed"
-- What the arguments of calls name.
use Rattle.std.specs.Prelude.{ℕ, ℤ, pos, negsuc, ◌+◌, Bool, false, ◌&&◌, Option, None, Some, List, nat_le, ◌==◌, if◌then◌else◌, unwrap_or, is_some, length, option_map}
use Rattle.fmp_codes.specs.Numbers.{as_proc, as_task, as_object, as_pri}
use Rattle.fmp_codes.specs.declared.numbers.Proc.{Proc}
use Rattle.fmp_codes.specs.declared.numbers.Task.{Task}
use Rattle.fmp_codes.specs.declared.numbers.Object.{Object}
use Rattle.fmp_codes.specs.declared.numbers.Pri.{Pri}
use Rattle.fmp_setup.specs.declared.setup.Class.{Class}
use Rattle.fmp_setup.specs.declared.setup.Limits.{Limits}
use Rattle.fmp_rules.specs.World.{World, task, processor}

-- the number that an argument names, where there are so many
abbrev pub number_within : ℕ → ℤ → Option ℕ
number_within count (pos n) = if nat_le 1 n && nat_le n count then Some n else None
number_within count (negsuc n) = None

-- the number of the one of these that an argument names
abbrev pub named : {X : Type 0} → List X → ℤ → Option ℕ
named xs id = number_within (length xs) id

abbrev pub is_zero : ℤ → Bool
is_zero (pos n) = n == 0
is_zero (negsuc n) = false

-- the object, of all objects of one kind, that an argument names
abbrev pub object_named : {X : Type 0} → List X → ℤ → Option Object
object_named xs id = option_map as_object (named xs id)

-- a number of a priority, or 0
abbrev pub is_priority_or_zero : Limits → ℤ → Bool
is_priority_or_zero limits (pos n) = nat_le n limits.priorities
is_priority_or_zero limits (negsuc n) = false

-- the priority of a number, where 0 is another one
abbrev pub priority_or : Pri → ℤ → Pri
priority_or other (pos n) = if n == 0 then other else as_pri n
priority_or other (negsuc n) = other

-- the greatest number of ticks that an argument can say
abbrev pub most_time : ℕ
most_time = 2147483647

-- so many ticks
abbrev pub is_time : ℤ → Bool
is_time (pos n) = nat_le n most_time
is_time (negsuc n) = false

-- a timeout: so many ticks, of which 0 is not to wait at all, or -1 for ever
abbrev pub is_timeout : ℤ → Bool
is_timeout (pos n) = nat_le n most_time
is_timeout (negsuc n) = n == 0

-- the timeout of a call that has none
abbrev pub forever : ℤ
forever = negsuc 0

-- the ticks left of a count with this time or timeout when it begins
abbrev pub ticks_of : ℤ → Option ℕ
ticks_of (pos n) = Some (n + 1)
ticks_of (negsuc n) = None

module _ {Q : Type 0} (w : World Q) where
  -- the task that calls from p
  abbrev pub caller : Proc → Task
  caller p = unwrap_or (processor w p).running (as_task 1)

  -- the task that an argument names
  abbrev pub task_named : ℤ → Option Task
  task_named id = option_map as_task (named w.tasks id)

  -- the task that an argument names, where 0 is the caller
  abbrev pub task_or_caller : Proc → ℤ → Option Task
  task_or_caller p id = if is_zero id then (processor w p).running else task_named id

  -- the processor that an argument names
  abbrev pub processor_named : ℤ → Option Proc
  processor_named id = option_map as_proc (named w.processors id)

  -- the processor that an argument names, where 0 is the initial one of a class
  abbrev pub processor_or_initial : Class → ℤ → Option Proc
  processor_or_initial c id = if is_zero id then Some c.initial else processor_named id

  -- the class of the task that an argument names
  abbrev pub class_of : Option Task → Class
  class_of t = (task w (unwrap_or t (as_task 1))).setup.class

  -- what an argument names is the task that calls from p
  abbrev pub is_caller : Proc → Option Task → Bool
  is_caller p None = false
  is_caller p (Some t) = is_some (processor w p).running && (caller p).number == t.number
