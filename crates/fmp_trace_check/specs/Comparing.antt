-- Showing where a trace differs from the machine's own lines, as the code does.
use Rattle.std.specs.Prelude.{ℕ, ◌+◌, List, [], ◌∷◌, ◌++◌, Option, None, Some, Result, Ok, if◌then◌else◌}
use Rattle.fmp_bytes.specs.Results.{◌>>=◌}
use Rattle.fmp_rules.specs.Arrivals.{State}
use Rattle.fmp_setup.specs.Setup.{Setup}
use Rattle.fmp_text.specs.declared.fault.TextFault.{TextFault}
use Rattle.fmp_names.specs.Names.{NameLists}
use Rattle.fmp_trace_check.specs.declared.checking.Verdict.{Verdict}
use Rattle.fmp_trace_check.specs.declared.comparing.Comparison.{Comparison}
use Rattle.fmp_trace_check.specs.declared.comparing.Shown.{Shown}
use Rattle.fmp_trace_check.specs.declared.comparing.Shown.TheVariants.{First, Each}
use Rattle.fmp_trace_check.specs.Checking.{verdict_at}
use Rattle.fmp_trace_check.specs.Differences.{Difference, difference_text}
use Rattle.fmp_trace_check.specs.Walking.{Stopped, following, own_core, prints_answer, stop_in}
use Rattle.fmp_trace.specs.Heads.{event_of}
use Rattle.fmp_trace.specs.Reading.{records_in}

-- the verdict, and what is shown
abbrev pub Found : Type 0
Found = Verdict × List ℕ

abbrev pub found_of : Comparison → Found
found_of c = (c.verdict, c.lines.items)

-- line n, and the machine's own for the event that it tells
abbrev pub difference_at : NameLists → State → ℕ → List ℕ → Difference
difference_at names w n line = record { number = n; line = line; own = own_core names w n (event_of names line) }

-- the hunks of the lines from line n on. The last line has no line feed
unfoldable pub hunks_from : NameLists → State → ℕ → List (List ℕ) → List ℕ
hunks_from names w n [] = []
hunks_from names w n (last ∷ []) = []
hunks_from names w n (line ∷ next ∷ lines) =
    (if prints_answer names w n line (event_of names line) then [] else difference_text Each (difference_at names w n line))
    ++ hunks_from names (following w (event_of names line)) (n + 1) (next ∷ lines)

-- the first line that differs
abbrev pub difference_of : Stopped → Difference
difference_of s = record { number = s.number; line = s.line; own = s.own }

-- what is shown of lines that differ, where this is the first of them
abbrev pub shown_from : Shown → NameLists → Stopped → List ℕ
shown_from First names s = difference_text First (difference_of s)
shown_from Each names s = difference_text Each (difference_of s) ++ hunks_from names s.state (s.number + 1) s.rest

-- what is shown of a text
abbrev pub shown_at : Shown → NameLists → Option Stopped → List ℕ
shown_at shown names None = []
shown_at shown names (Some s) = shown_from shown names s

-- a whole text, or its first fault
unfoldable pub found_in : Shown → Setup → List ℕ → Result Found TextFault
found_in shown c text = records_in c.names text >>= λ records. Ok (verdict_at (stop_in c text), shown_at shown c.names (stop_in c text))
