-- Where a trace differs from the machine's own answers to its events, and how that is shown.
use Rattle.std.specs.Prelude.{◌≡◌, ℕ, ◌+◌, ◌==◌, List, [], ◌∷◌, ◌++◌, take, codes, decimal, if◌then◌else◌}
use Rattle.std.specs.Str.{bytes_eq}
use Rattle.fmp_codes.specs.declared.records.Record.{Record}
use Rattle.fmp_setup.specs.Setup.{Setup}
use Rattle.fmp_trace_check.specs.declared.checking.Verdict.{Verdict}
use Rattle.fmp_trace_check.specs.declared.checking.Verdict.TheVariants.{Yes, No}
use Rattle.fmp_trace_check.specs.declared.comparing.Shown.{Shown}
use Rattle.fmp_trace_check.specs.declared.comparing.Shown.TheVariants.{First, Each}
use Rattle.fmp_trace_check.specs.Checking.{cores_from, own_lines}
use Rattle.fmp_trace.specs.Prints.{PrintsWithin}

-- a line that is not the machine's own, and that, both without their line feeds
pub record Difference : Type 0 where
  pub number : ℕ
  pub line : List ℕ
  pub own : List ℕ

-- where lines differ from others, line by line from line n on
abbrev pub differences_from : ℕ → List (List ℕ) → List (List ℕ) → List Difference
differences_from n (line ∷ lines) (own ∷ others) =
    (if bytes_eq own line then [] else record { number = n; line = line; own = own } ∷ []) ++ differences_from (n + 1) lines others
differences_from n lines others = []

-- where a text that prints these records differs from what the machine answers to their events
abbrev pub differences : Setup → List Record → List Difference
differences c records = differences_from 1 (cores_from c.names 1 records) (own_lines c records)

-- the verdict that they come to
abbrev pub verdict_of : List Difference → Verdict
verdict_of [] = Yes
verdict_of (d ∷ ds) = No d.number

-- those that are shown
abbrev pub shown_of : Shown → List Difference → List Difference
shown_of First ds = take 1 ds
shown_of Each ds = ds

-- which line a hunk of a unified diff replaces
unfoldable pub hunk_head : ℕ → List ℕ
hunk_head n = codes "@@ -" ++ decimal n ++ codes ",1 +" ++ decimal n ++ codes ",1 @@\n"

-- one of them: two lines to be read, or a hunk
abbrev pub difference_text : Shown → Difference → List ℕ
difference_text First d = codes "- " ++ d.line ++ codes "\n+ " ++ d.own ++ codes "\n"
difference_text Each d = hunk_head d.number ++ codes "-" ++ d.line ++ codes "\n+" ++ d.own ++ codes "\n"

abbrev pub differences_text : Shown → List Difference → List ℕ
differences_text shown [] = []
differences_text shown (d ∷ ds) = difference_text shown d ++ differences_text shown ds

-- a text that prints records was held against the answers to their events
pub record Contrasts (shown : Shown) (c : Setup) (text : List ℕ) (verdict : Verdict) (lines : List ℕ) : Type 0 where
  pub records : List Record
  pub prints : PrintsWithin c.names text records
  pub judged : verdict ≡ verdict_of (differences c records)
  pub report : lines ≡ differences_text shown (shown_of shown (differences c records))

-- lines, from line n on, in which those that differ are replaced by the machine's own, as patch does
abbrev pub patched_from : ℕ → List Difference → List (List ℕ) → List (List ℕ)
patched_from n ds [] = []
patched_from n [] (line ∷ lines) = line ∷ lines
patched_from n (d ∷ ds) (line ∷ lines) =
    if d.number == n then d.own ∷ patched_from (n + 1) ds lines else line ∷ patched_from (n + 1) (d ∷ ds) lines
