-- Going over the lines of a trace as long as they are the machine's own.
use Rattle.std.specs.Prelude.{ℕ, ◌+◌, Bool, false, List, [], ◌∷◌, Option, None, Some, if◌then◌else◌}
use Rattle.std.specs.Str.{bytes_eq}
use Rattle.fmp_codes.specs.declared.records.Event.{Event}
use Rattle.fmp_bytes.specs.Bytes.{pieces_of, line_feed}
use Rattle.fmp_rules.specs.Boot.{booted}
use Rattle.fmp_rules.specs.Arrivals.{State, numbered}
use Rattle.fmp_setup.specs.Setup.{Setup}
use Rattle.fmp_rules.specs.Step.{step}
use Rattle.fmp_names.specs.Names.{NameLists}
use Rattle.fmp_trace.specs.Heads.{event_of}
use Rattle.fmp_trace.specs.Lines.{core_text}

-- the state after the event that a line tells, if it tells any
abbrev pub following : State → Option Event → State
following w None = w
following w (Some e) = (step numbered w e).0

-- the machine's own line n where that one tells an event, and else nothing
abbrev pub own_core : NameLists → State → ℕ → Option Event → List ℕ
own_core names w n None = []
own_core names w n (Some e) = core_text names n (step numbered w e).1

-- whether line n prints what the machine answers to the event that it tells
abbrev pub prints_answer : NameLists → State → ℕ → List ℕ → Option Event → Bool
prints_answer names w n line None = false
prints_answer names w n line (Some e) = bytes_eq (core_text names n (step numbered w e).1) line

-- a line that is not the machine's own, that one, the state after its event, and the lines that follow
pub record Stopped : Type 0 where
  pub number : ℕ
  pub line : List ℕ
  pub own : List ℕ
  pub state : State
  pub rest : List (List ℕ)

-- the same, of its parts
abbrev pub seen : ℕ → List ℕ → List ℕ → State → List (List ℕ) → Stopped
seen n line own w rest = record { number = n; line = line; own = own; state = w; rest = rest }

-- line n with the event that it tells and the lines that follow
abbrev pub stopped : NameLists → State → ℕ → List ℕ → Option Event → List (List ℕ) → Stopped
stopped names w n line e rest = seen n line (own_core names w n e) (following w e) rest

-- the first of the lines from line n on that is not the machine's own. The last line has no line feed
unfoldable pub stop_from : NameLists → State → ℕ → List (List ℕ) → Option Stopped
stop_from names w n [] = None
stop_from names w n (last ∷ []) = None
stop_from names w n (line ∷ next ∷ lines) =
    if prints_answer names w n line (event_of names line) then stop_from names (following w (event_of names line)) (n + 1) (next ∷ lines)
    else Some (stopped names w n line (event_of names line) (next ∷ lines))

-- the first line of a text that is not the machine's own
abbrev pub stop_in : Setup → List ℕ → Option Stopped
stop_in c text = stop_from c.names (booted c) 1 (pieces_of line_feed text)
