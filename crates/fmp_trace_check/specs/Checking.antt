-- What is answered of a text that prints records: whether they are the machine's own answers.
use Rattle.std.specs.Prelude.{◌≡◌, ◌≢◌, ℕ, ◌+◌, ◌-◌, ◌≤◌, List, [], ◌∷◌, length, map, take, slice_get, Option, None, Some, Result, Ok, All}
use Rattle.fmp_codes.specs.Records.{AreOn}
use Rattle.fmp_codes.specs.declared.records.Event.{Event}
use Rattle.fmp_codes.specs.declared.records.Record.{Record}
use Rattle.fmp_bytes.specs.Bytes.{pieces_of, line_feed}
use Rattle.fmp_bytes.specs.Results.{◌>>=◌}
use Rattle.fmp_calls.specs.Arguments.{EventInBits}
use Rattle.fmp_rules.specs.Boot.{booted}
use Rattle.fmp_rules.specs.Arrivals.{numbered}
use Rattle.fmp_setup.specs.Setup.{Setup}
use Rattle.fmp_rules.specs.Step.{answers}
use Rattle.fmp_text.specs.Limits.{most_bytes, most_events}
use Rattle.fmp_text.specs.declared.fault.TextFault.{TextFault}
use Rattle.fmp_names.specs.Names.{NameLists}
use Rattle.fmp_trace_check.specs.declared.checking.Verdict.{Verdict}
use Rattle.fmp_trace_check.specs.declared.checking.Verdict.TheVariants.{Yes, No}
use Rattle.fmp_trace.specs.Lines.{core_text, lines_from}
use Rattle.fmp_trace.specs.Prints.{PrintsWithin}
use Rattle.fmp_trace_check.specs.Walking.{Stopped, stop_in}
use Rattle.fmp_trace.specs.Reading.{records_in}

-- what the machine answers to the events of these records, as a text
abbrev pub own_text : Setup → List Record → List ℕ
own_text c records = lines_from c.names 1 (answers numbered (booted c) (map (λ r. r.event) records))

-- the lines of these records without their line feeds, numbered from n
abbrev pub cores_from : NameLists → ℕ → List Record → List (List ℕ)
cores_from names n [] = []
cores_from names n (r ∷ rs) = core_text names n r ∷ cores_from names (n + 1) rs

-- the lines of the machine's answers to the events of these records
abbrev pub own_lines : Setup → List Record → List (List ℕ)
own_lines c records = cores_from c.names 1 (answers numbered (booted c) (map (λ r. r.event) records))

-- line n, counted from 1, is the first in which lines differ from others
pub record IsFirstDifference (n : ℕ) (lines others : List (List ℕ)) : Type 0 where
  pub least : 1 ≤ n
  pub most : n ≤ length others
  pub before : take (n - 1) lines ≡ take (n - 1) others
  pub here : slice_get lines (n - 1) ≢ slice_get others (n - 1)

-- the text is that of the machine's own answers, or line n is the first that is not
abbrev pub Compares : Setup → List ℕ → List Record → Verdict → Type 0
Compares c text records Yes = text ≡ own_text c records
Compares c text records (No n) = IsFirstDifference n (pieces_of line_feed text) (own_lines c records)

-- the verdict on a text that prints records, by the answers to its own events
pub record Judges (c : Setup) (text : List ℕ) (verdict : Verdict) : Type 0 where
  pub records : List Record
  pub prints : PrintsWithin c.names text records
  pub compares : Compares c text records verdict

-- the text is what the machine answers to these events, which are on its processors, within the limits of texts
pub record PrintsAnswers (c : Setup) (text : List ℕ) (events : List Event) : Type 0 where
  pub on : AreOn c.processors events
  pub in_bits : All EventInBits events
  pub few : length events ≤ most_events
  pub short : length text ≤ most_bytes
  pub prints : text ≡ lines_from c.names 1 (answers numbered (booted c) events)

-- the verdict where the lines stop being the machine's own
abbrev pub verdict_at : Option Stopped → Verdict
verdict_at None = Yes
verdict_at (Some s) = No s.number

-- the verdict on a text, or its first fault
unfoldable pub checked : Setup → List ℕ → Result Verdict TextFault
checked c text = records_in c.names text >>= λ records. Ok (verdict_at (stop_in c text))
