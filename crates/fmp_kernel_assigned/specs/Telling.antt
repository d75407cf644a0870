-- The timers of what is shown: nothing else is kept of them.
use Rattle.std.specs.Prelude.{◌≡◌, ℕ, ◌-◌, nat_lt, Option, None, Some, length, slice_index_or, option_map, if◌then◌else◌}
use Rattle.fmp_codes.specs.declared.numbers.Proc.{Proc}
use Rattle.fmp_rules.specs.World.{no_task}
use Rattle.fmp_kernel_parts.specs.Tasks.{task_at, has_task}
use Rattle.fmp_time.specs.Left.{Left}
use Rattle.fmp_time.specs.Shown.{table}
use Rattle.fmp_time.specs.Times.{Times, no_times}
use Rattle.fmp_time.specs.Words.{made_from, words_of}
use Rattle.fmp_kernel_assigned.specs.Assignments.{Assignments, assignments_of, blank_cyclic, blank_alarm}
use Rattle.fmp_kernel_assigned.specs.Counting.{AreInStep}

-- so many ticks left on a processor
abbrev pub left_with : Proc → Option ℕ → Option Left
left_with p left = option_map (λ n. record { processor = p; ticks = n }) left

-- what is left of the wait of a task that there is not
abbrev pub unseen_in : Assignments → ℕ → Option Left
unseen_in a k = if has_task (task_at k) a.timed then Some (record { processor = no_task.assigned; ticks = 0 }) else None

abbrev pub wait_in : Assignments → ℕ → Option Left
wait_in a k = if nat_lt k (length a.tasks) then left_with (slice_index_or a.tasks k no_task).assigned (slice_index_or a.waits_left k None) else unseen_in a k

-- what is left of each item of the timers
abbrev pub left_at : Assignments → ℕ → Option Left
left_at a k =
    if nat_lt k 64 then wait_in a k
    else (if nat_lt k 96 then left_with (slice_index_or a.alarms (k - 64) blank_alarm).assigned (slice_index_or a.alarms_left (k - 64) None)
    else left_with (slice_index_or a.cyclics (k - 96) blank_cyclic).assigned (slice_index_or a.cyclics_left (k - 96) None))

unfoldable pub times_in : Assignments → Times
times_in a = record { left = table (left_at a); waits = a.timed }

-- nothing but this is kept, and the numbers that tell the timers tell them again
pub record IsTold (a : Assignments) : Type 0 where
  pub all : assignments_of a.timer a.tasks a.cyclics a.alarms (times_in a) ≡ a
  pub step : AreInStep a.tasks a.cyclics a.alarms (times_in a).left
  pub back : made_from no_times (words_of (times_in a)) ≡ times_in a
