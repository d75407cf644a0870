-- The handlers at boot.
use Rattle.std.specs.Prelude.{ℕ, ◌+◌, ◌-◌, Option, None, Some, List, nat_lt, slice_index_or, if◌then◌else◌}
use Rattle.fmp_setup.specs.declared.setup.CyclicSetup.{CyclicSetup}
use Rattle.fmp_setup.specs.declared.setup.AlarmSetup.{AlarmSetup}
use Rattle.fmp_rules.specs.declared.machine.Cyclic.{Cyclic}
use Rattle.fmp_rules.specs.declared.machine.Alarm.{Alarm}
use Rattle.fmp_time.specs.Left.{Left}
use Rattle.fmp_kernel_assigned.specs.Assignments.{blank_cyclic}

-- at the initial processor of its class
abbrev pub first_cyclic : CyclicSetup → Cyclic
first_cyclic s = record { setup = s; assigned = s.class.initial }

abbrev pub first_alarm : AlarmSetup → Alarm
first_alarm s = record { setup = s; assigned = s.class.initial }

-- the ticks left of a cyclic, where it is started at boot
abbrev pub start_left : Cyclic → Option Left
start_left c = if c.setup.starts then Some (record { processor = c.assigned; ticks = c.setup.phase + 1 }) else None

-- what the timers have at a place, where the first so many cyclics are started
abbrev pub started_at : List Cyclic → ℕ → ℕ → Option Left
started_at cyclics n k = if nat_lt k 96 then None else (if nat_lt (k - 96) n then start_left (slice_index_or cyclics (k - 96) blank_cyclic) else None)
