-- Where a fault of a line of events, scripts or a trace is.
use Rattle.std.specs.Prelude.{Bool, true, false, ℕ, ◌+◌, ◌-◌, List, [], Option, Some, None, ◌==◌, if◌then◌else◌}
use Rattle.std.specs.Option.{option_map_or}
use Rattle.fmp_bytes.specs.declared.classes.Class.TheVariants.{Blank}
use Rattle.fmp_bytes.specs.Bytes.{after}
use Rattle.fmp_cli_diagnostics.specs.declared.diagnostic.Spot.{Spot}
use Rattle.fmp_cli_diagnostics.specs.declared.diagnostic.Spot.TheVariants.{Nowhere, Line, Column}
use Rattle.fmp_cli_hints.specs.Contexts.{column_of, line_after}
use Rattle.fmp_cli_hints.specs.declared.text.TextForm.{TextForm}
use Rattle.fmp_cli_hints.specs.declared.text.TextForm.TheVariants.{Events, Scripts, Trace}
use Rattle.fmp_cli_hints.specs.Likeness.{without_mark}
use Rattle.fmp_cli_hints.specs.Places.{Walk, event_place, going}
use Rattle.fmp_cli_hints.specs.Scripts.{script_place}
use Rattle.fmp_cli_hints.specs.Traces.{trace_place}
use Rattle.fmp_names.specs.Names.{NameLists}
use Rattle.fmp_text.specs.declared.fault.TextFault.{TextFault}
use Rattle.fmp_text.specs.declared.fault.TextKind.{TextKind}
use Rattle.fmp_text.specs.declared.fault.TextKind.TheVariants as kinds
use Rattle.fmp_text.specs.Lines.{without_return}

-- whether the place of a fault is told here: in a text of which no line leaves out parts
abbrev pub is_told : TextForm → Bool
is_told Events = true
is_told Scripts = true
is_told Trace = true
is_told form = false

-- line n, which ends with a line feed. One event more than there may be is at fault from its beginning on
abbrev pub whole_place : TextForm → NameLists → ℕ → List ℕ → TextKind → Walk
whole_place Scripts names n line kind = script_place names line kind
whole_place Trace names n line kind = trace_place names n (without_return line) kind
whole_place form names n line kinds.TooMany = going (after Blank (without_return line))
whole_place form names n line kind = event_place names line

-- the last line, which has no line feed, is at fault at its end
abbrev pub place : TextForm → NameLists → ℕ → List ℕ → Option (List ℕ) → TextKind → Walk
place form names n line None kind = going []
place form names n line (Some rest) kind = whole_place form names n line kind

-- the column of the caret in the line of a fault, from 1. A byte order mark before the line is not shown
unfoldable pub line_spot : TextForm → NameLists → TextFault → List ℕ → Option (List ℕ) → Spot
line_spot form names fault line rest = Column fault.line (column_of (without_mark (without_return line)) (place form names fault.line line rest fault.kind) + 1)

-- where a fault is, as far as that is known
unfoldable pub text_spot : TextForm → NameLists → List ℕ → TextFault → Spot
text_spot form names text fault =
    if fault.line == 0 then Nowhere else option_map_or (λ l. line_spot form names fault l.0 l.1) (line_after (fault.line - 1) text) (Line fault.line)
