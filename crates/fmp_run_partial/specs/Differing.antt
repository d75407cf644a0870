-- The lines of a partial trace that are not the machine's, as a unified diff.
use Rattle.std.specs.Prelude.{ℕ, ◌+◌, List, [], ◌∷◌, ◌++◌, Option, None, Some, Result, Ok, Err, codes, if◌then◌else◌}
use Rattle.std.specs.Str.{bytes_eq}
use Rattle.fmp_codes.specs.declared.records.Event.{Event}
use Rattle.fmp_codes.specs.declared.records.Record.{Record}
use Rattle.fmp_rules.specs.Arrivals.{State, numbered}
use Rattle.fmp_rules.specs.Step.{step}
use Rattle.fmp_names.specs.Names.{NameLists}
use Rattle.fmp_text.specs.declared.fault.TextKind.{TextKind}
use Rattle.fmp_trace.specs.Lines.{line_text}
use Rattle.fmp_trace_check.specs.Differences.{hunk_head}
use Rattle.fmp_trace_partial.specs.Partial.{kept_text}
use Rattle.fmp_trace_partial.specs.Saying.{line_said}
use Rattle.fmp_trace_partial.specs.declared.telling.Said.{Said}

-- what a diff begins with
unfoldable pub diff_head : List ℕ
diff_head = codes "--- trace\n+++ machine\n"

-- line n as it stands, and what is printed of the machine's answer
abbrev pub hunk : NameLists → ℕ → List ℕ → Record → List ℕ
hunk names n line r = hunk_head n ++ codes "-" ++ line ++ codes "\n+" ++ line_text names n r

-- line n, which says this, where it is not what is printed of the machine's answer with as much left out
abbrev pub difference : NameLists → ℕ → State → List ℕ → Result Said TextKind → List ℕ
difference names n w line (Ok s) =
    if bytes_eq (kept_text names n s.kept (step numbered w s.entry.event).1) line then [] else hunk names n line (step numbered w s.entry.event).1
difference names n w line (Err kind) = []

-- the machine after a line that says this
abbrev pub beyond : State → Result Said TextKind → State
beyond w (Ok s) = (step numbered w s.entry.event).0
beyond w (Err kind) = w

-- the lines from line n on, as they stand. The last one has no line feed
unfoldable pub differences_from : NameLists → ℕ → State → List (List ℕ) → List ℕ
differences_from names n w [] = []
differences_from names n w (last ∷ []) = []
differences_from names n w (line ∷ next ∷ lines) =
    difference names n w line (line_said names n line) ++ differences_from names (n + 1) (beyond w (line_said names n line)) (next ∷ lines)

-- line k alone, which has this event
abbrev pub hunk_of : NameLists → ℕ → State → Option (List ℕ) → Option Event → List ℕ
hunk_of names k w None e = []
hunk_of names k w (Some line) None = []
hunk_of names k w (Some line) (Some e) = hunk names k line (step numbered w e).1
