-- The least ticks left for which a tick on a processor counts.
use Rattle.std.specs.Prelude.{◌≡◌, ℕ, ◌<◌, ◌≤◌, ◌⊎◌, Bool, true, Option, None, Some, List, length, slice_index_or}
use Rattle.fmp_codes.specs.Numbers.{as_proc}
use Rattle.fmp_codes.specs.declared.numbers.Proc.{Proc}
use Rattle.fmp_setup.specs.declared.setup.Timer.{Timer}
use Rattle.fmp_rules.specs.declared.machine.TaskRecord.{TaskRecord}
use Rattle.fmp_rules.specs.declared.machine.Cyclic.{Cyclic}
use Rattle.fmp_rules.specs.declared.machine.Alarm.{Alarm}
use Rattle.fmp_setup.specs.Setup.{counts_for}
use Rattle.fmp_rules.specs.World.{World, no_task}
use Rattle.fmp_rules.specs.Objects.{no_cyclic, no_alarm}

-- one of these items qualifies and has n ticks left
abbrev pub HasLeft : {X : Type 0} → (X → Bool) → X → List X → List (Option ℕ) → ℕ → Type 0
HasLeft qualifies blank xs counts n =
    (i : ℕ) × (i < length xs) × (qualifies (slice_index_or xs i blank) ≡ true) × (slice_index_or counts i None ≡ Some n)

-- n ticks are left of the wait of a task, of a cyclic handler or of an alarm for which a tick on p counts
abbrev pub AreLeft : Timer → Proc → List TaskRecord → List (Option ℕ) → List Cyclic → List (Option ℕ) → List Alarm → List (Option ℕ) → ℕ → Type 0
AreLeft timer p tasks waits_left cyclics cyclics_left alarms alarms_left n =
    HasLeft (λ r. counts_for timer p r.assigned) no_task tasks waits_left n
    ⊎ (HasLeft (λ c. counts_for timer p c.assigned) (record { setup = no_cyclic; assigned = as_proc 1 }) cyclics cyclics_left n
    ⊎ HasLeft (λ a. counts_for timer p a.assigned) (record { setup = no_alarm; assigned = as_proc 1 }) alarms alarms_left n)

-- one of the numbers that qualify, and none of them is less; or none where there is none
abbrev pub IsLeast : (ℕ → Type 0) → Option ℕ → Type 0
IsLeast Qualifies None = (n : ℕ) → Qualifies n → ⊥
IsLeast Qualifies (Some n) = Qualifies n × ((k : ℕ) → Qualifies k → n ≤ k)

-- the least ticks left for which a tick on p counts, if there are some
abbrev pub IsNextDue : {Q : Type 0} → World Q → Proc → Option ℕ → Type 0
IsNextDue w p next = IsLeast (AreLeft w.timer p w.tasks w.waits_left w.cyclics w.cyclics_left w.alarms w.alarms_left) next
