-- believed: see docs/PROOF.md, "What has to be believed"
-- Locks and flags of a processor.
use Rattle.std.specs.Prelude.{Bool, false, Option, None, Some, map, ◌==◌, if◌then◌else◌}
use Rattle.std.specs.List.{list_any}
use Rattle.fmp_codes.specs.declared.numbers.Proc.{Proc}
use Rattle.fmp_rules.specs.World.{World, processor, with_processor}

-- the processor is this one
abbrev pub is_at : Proc → Option Proc → Bool
is_at p None = false
is_at p (Some q) = p.number == q.number

module _ {Q : Type 0} where
  -- the processor is CPU-locked from now on, or no longer
  abbrev pub with_lock : World Q → Proc → Bool → World Q
  with_lock w p b = with_processor w p (record (processor w p) { locked = b })

  -- its dispatching is disabled from now on, or no longer
  abbrev pub with_dispatching_disabled : World Q → Proc → Bool → World Q
  with_dispatching_disabled w p b = with_processor w p (record (processor w p) { disabled = b })

  -- the processor holds a spin lock
  abbrev pub holds_lock : World Q → Proc → Bool
  holds_lock w p = list_any (is_at p) w.holders

  -- the processor leaves the CPU-locked state and frees a spin lock that it holds
  abbrev pub unlocked : World Q → Proc → World Q
  unlocked w p = record (with_lock w p false) { holders = map (λ h. if is_at p h then None else h) w.holders }

  -- its dispatching is not disabled either
  unfoldable pub opened : World Q → Proc → World Q
  opened w p = with_dispatching_disabled (unlocked w p) p false
