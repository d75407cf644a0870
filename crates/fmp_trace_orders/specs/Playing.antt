-- A machine that plays the lines of a partial trace, in any order.
use Rattle.std.specs.Prelude.{ℕ, ◌+◌, Bool, List, map, drop, Option, None, Some, Result, Ok, Err, slice_get, if◌then◌else◌}
use Rattle.std.specs.Str.{bytes_eq}
use Rattle.fmp_bytes.specs.Bytes.{cut_at, line_feed}
use Rattle.fmp_codes.specs.declared.records.Record.{Record}
use Rattle.fmp_names.specs.Names.{NameLists}
use Rattle.fmp_setup.specs.Setup.{Setup}
use Rattle.fmp_rules.specs.Arrivals.{Arrivals}
use Rattle.fmp_rules.specs.Boot.{boot, booted}
use Rattle.fmp_rules.specs.Ordering.{Ordering}
use Rattle.fmp_rules.specs.Step.{step}
use Rattle.fmp_rules.specs.World.{World}
use Rattle.fmp_kernel_order.specs.Queues.{Queues, listed, no_queues}
use Rattle.fmp_text.specs.declared.fault.TextKind.{TextKind}
use Rattle.fmp_trace_partial.specs.Partial.{bounded_text}
use Rattle.fmp_trace_partial.specs.Saying.{line_said}
use Rattle.fmp_trace_partial.specs.declared.telling.Said.{Said}

-- a machine of a configuration, and the lines that it plays, without their line feeds
pub record Playing (Q : Type 0) : Type 0 where
  pub config : Setup
  pub lines : List (List ℕ)
  pub machine : World Q

-- the same with another state of the machine
abbrev pub with_machine : {Q : Type 0} → Playing Q → World Q → Playing Q
with_machine w m = record { config = w.config; lines = w.lines; machine = m }

-- line n, which says this, is what is printed of the record where as much is left out, with the same bound
unfoldable pub is_right : NameLists → ℕ → Said → Record → List ℕ → Bool
is_right names n s r line = bytes_eq (bounded_text names n s.kept s.bound r) line

module _ {Q : Type 0} where
  -- where it is right, the machine is as it is after the line's event
  abbrev pub kept_if : Bool → Playing Q → World Q → Option (Playing Q)
  kept_if right w m = if right then Some (with_machine w m) else None

  module _ (k : Ordering Q) where
    -- the state after the event of line n, which says this, if the line is right of what the machine tells of the event
    abbrev pub plays_said : Playing Q → ℕ → List ℕ → Said → Option (Playing Q)
    plays_said w n line s =
        kept_if (is_right w.config.names n s (step k w.machine s.entry.event).1 line) w (step k w.machine s.entry.event).0

    -- likewise, where this was read of the line
    abbrev pub plays_read : Playing Q → ℕ → List ℕ → Result Said TextKind → Option (Playing Q)
    plays_read w n line (Ok s) = plays_said w n line s
    plays_read w n line (Err kind) = None

    abbrev pub plays_line : Playing Q → ℕ → Option (List ℕ) → Option (Playing Q)
    plays_line w n None = None
    plays_line w n (Some line) = plays_read w n line (line_said w.config.names n line)

    -- the state after the event of line j, counted from 0, if the line is right there. Its own number is one more
    unfoldable pub plays : Playing Q → ℕ → Option (Playing Q)
    plays w j = plays_line w (j + 1) (slice_get w.lines j)

-- the machine at boot, with lists of tasks
abbrev pub at_boot : Setup → List (List ℕ) → Playing Queues
at_boot c lines = record { config = c; lines = lines; machine = boot listed (no_queues c) c }

-- the same with numbers
abbrev pub at_booted : Setup → List (List ℕ) → Playing Arrivals
at_booted c lines = record { config = c; lines = lines; machine = booted c }

-- the lines of a text that begin at these places
abbrev pub line_from : List ℕ → ℕ → List ℕ
line_from text start = (cut_at line_feed (drop start text)).0

abbrev pub lines_from : List ℕ → List ℕ → List (List ℕ)
lines_from text starts = map (line_from text) starts
