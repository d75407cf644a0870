-- The processors with the handlers that are due on them, and when one of them dispatches.
use Rattle.std.specs.Prelude.{ℕ, Bool, false, ◌||◌, Option, List, [], length, replicate, is_some, if◌then◌else◌}
use Rattle.fmp_codes.specs.declared.numbers.Proc.{Proc}
use Rattle.fmp_codes.specs.declared.numbers.Task.{Task}
use Rattle.fmp_codes.specs.declared.records.Runner.{Runner}
use Rattle.fmp_rules.specs.declared.machine.Processor.{Processor}
use Rattle.fmp_kernel_parts.specs.Digests.{added, added_all}
use Rattle.fmp_kernel_same.specs.Digests.{added_runner, added_processor}
use Rattle.fmp_rules.specs.World.{item, with_item, first, no_processor}

pub record Dispatching : Type 0 where
  pub processors : List Processor
  pub due : List (List Runner)  -- the handlers that are due on each processor, the running one first

-- what a digest is after the handlers that are due on a processor were added
abbrev pub added_due : List Runner → ℕ → ℕ
added_due due sum = added_all added_runner due (added sum (length due))

abbrev pub added_dispatching : Dispatching → ℕ → ℕ
added_dispatching d sum = added_all added_due d.due (added_all added_processor d.processors sum)

-- so many processors, on which nothing runs and nothing is due
abbrev pub idle : ℕ → Dispatching
idle count = record { processors = replicate count no_processor; due = replicate count [] }

abbrev pub processor_in : Dispatching → Proc → Processor
processor_in d p = item no_processor d.processors p.number

abbrev pub with_processor_in : Dispatching → Proc → Processor → Dispatching
with_processor_in d p x = record d { processors = with_item d.processors p.number x }

abbrev pub due_on : Dispatching → Proc → List Runner
due_on d p = item [] d.due p.number

abbrev pub with_due_on : Dispatching → Proc → List Runner → Dispatching
with_due_on d p rs = record d { due = with_item d.due p.number rs }

abbrev pub with_lock_in : Dispatching → Proc → Bool → Dispatching
with_lock_in d p b = with_processor_in d p (record (processor_in d p) { locked = b })

abbrev pub with_disabled_in : Dispatching → Proc → Bool → Dispatching
with_disabled_in d p b = with_processor_in d p (record (processor_in d p) { disabled = b })

abbrev pub with_latch_in : Dispatching → Proc → Bool → Dispatching
with_latch_in d p b = with_processor_in d p (record (processor_in d p) { latch = b })

-- dispatching is held: a handler runs, or the processor is locked, or its dispatching is disabled
abbrev pub is_held_in : Dispatching → Proc → Bool
is_held_in d p = is_some (first (due_on d p)) || (processor_in d p).locked || (processor_in d p).disabled

-- a processor that is not held runs this task or none, and its request is taken
abbrev pub dispatched_to : Dispatching → Proc → Option Task → Dispatching
dispatched_to d p top = if is_held_in d p then d else with_processor_in d p (record (processor_in d p) { running = top; latch = false })
